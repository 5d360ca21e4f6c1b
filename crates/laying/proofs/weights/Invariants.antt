use Rattle.slices.proofs.Stores.{Storing}
use Rattle.laying.specs.Parts.{weight_of}
use Rattle.laying.proofs.weights.Given as goal

abbrev pub invariant-loop-x : goal.invariant-loop-x
invariant-loop-x l = Storing l.initial.file l.file l.at (weight_of l.rows l.first) l.x l.count
