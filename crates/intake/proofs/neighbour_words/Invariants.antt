use mathlib.Core.Path.{◌≡◌}
use Rattle.intake.specs.Graph.{neighbour_words}
use Rattle.intake.proofs.neighbour_words.Given as goal

abbrev pub invariant-loop-l : goal.invariant-loop-l
invariant-loop-l l = l.nb ≡ neighbour_words l.file l.l
