use Rattle.filling.specs.Filled.{filled_bytes}
use Rattle.slices.proofs.Stores.{Storing}
use Rattle.filling.proofs.Source.put_weights.Given as goal

abbrev pub invariant-loop-l : goal.invariant-loop-l
invariant-loop-l l = Storing l.initial.file l.file l.at (filled_bytes l.self.graph.now l.self.homes.now l.i) l.l l.self.net.m
