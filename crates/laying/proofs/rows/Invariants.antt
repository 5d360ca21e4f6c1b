use Rattle.rules.specs.Limits.{row_place}
use Rattle.slices.proofs.Stores.{Storing}
use Rattle.laying.specs.Parts.{row_of}
use Rattle.laying.proofs.rows.Given as goal

abbrev pub invariant-loop-j : goal.invariant-loop-j
invariant-loop-j l = Storing l.initial.file l.file (row_place l.net 0) (row_of l.net l.rows) l.j l.net.k
