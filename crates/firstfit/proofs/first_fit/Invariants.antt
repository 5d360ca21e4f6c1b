use Prim.Native.Nat.{◌-◌}
use Rattle.firstfit.proofs.Placing.{Placing, Tried}
use lib.ListN.{length}
use mathlib.Core.Path.{◌≡◌}
use Rattle.firstfit.proofs.first_fit.Given as goal

abbrev pub invariant-loop-i : goal.invariant-loop-i
invariant-loop-i l = Tried l.nb l.n l.cap l.homes l.v l.i

abbrev pub decreases-loop-i : goal.decreases-loop-i
decreases-loop-i l = 33 - l.i

abbrev pub invariant-build : goal.invariant-build
invariant-build l = (l.placed ≡ l.v) × Placing l.nb l.n l.cap l.homes l.isos l.v × (length l.homes ≡ length l.initial.homes)
