use Rattle.filling.specs.Filled.{filled_row}
use Rattle.rules.specs.Limits.{row_place}
use Rattle.slices.proofs.Stores.{Storing}
use Rattle.filling.proofs.Source.put_rows.Given as goal

abbrev pub invariant-loop-j : goal.invariant-loop-j
invariant-loop-j l = Storing l.initial.file l.file (row_place l.self.net 0) (filled_row l.self.graph.now l.self.homes.now l.self.net.m) l.j l.self.net.k
