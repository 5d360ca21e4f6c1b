use Rattle.firstfit.specs.Fit.{all_spared}
use mathlib.Core.Bool.{true}
use mathlib.Core.Path.{◌≡◌}
use Rattle.firstfit.proofs.all_spared.Given as goal

abbrev pub invariant-loop-v : goal.invariant-loop-v
invariant-loop-v l = all_spared l.nb l.n l.v ≡ true
