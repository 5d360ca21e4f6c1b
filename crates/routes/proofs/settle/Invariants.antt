use Rattle.routes.specs.Passes.{passes}
use lib.ListN.{length}
use mathlib.Core.Path.{◌≡◌}
use Rattle.routes.proofs.settle.Given as goal

abbrev pub invariant-loop-v : goal.invariant-loop-v
invariant-loop-v l = l.d ≡ passes (length l.initial.d) l.v l.initial.d
