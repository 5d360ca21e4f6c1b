use lib.ListN.{get_or, replicate}
use mathlib.Core.List.{[]}
use mathlib.Core.Path.{◌≡◌}
use Prim.Native.Nat.{ℕ, ◌<◌}
use Rattle.nexthops.proofs.Topology.words.Given as goal

abbrev pub invariant-loop-row : goal.invariant-loop-row
invariant-loop-row l = (v : ℕ) → v < l.row-index → get_or l.w v [] ≡ replicate 32 0
