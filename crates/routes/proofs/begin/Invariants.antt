use Prim.Native.Nat.{ℕ, ◌<◌}
use mathlib.Core.List.{[]}
use Rattle.routes.specs.Lanes.{unit_row}
use lib.ListN.{get_or}
use mathlib.Core.Path.{◌≡◌}
use Rattle.routes.proofs.begin.Given as goal

abbrev pub invariant-loop-u : goal.invariant-loop-u
invariant-loop-u l = (v : ℕ) → v < l.u → get_or l.d v [] ≡ unit_row v
