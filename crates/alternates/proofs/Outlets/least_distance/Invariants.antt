use Rattle.alternates.specs.Alternates.{least_of}
use mathlib.Core.Path.{◌≡◌}
use Rattle.alternates.proofs.Outlets.least_distance.Given as goal

abbrev pub invariant-loop-w : goal.invariant-loop-w
invariant-loop-w l = l.best ≡ least_of l.self.near.now l.self.d.now l.v l.w
