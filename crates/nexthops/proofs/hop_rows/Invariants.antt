use mathlib.Core.List.{◌++◌}
use lib.ListN.{drop, length}
use Rattle.nexthops.specs.Ties.{hops_of}
use Rattle.rules.specs.Basics.{flat}
use mathlib.Core.Path.{◌≡◌}
use Prim.Native.Nat.{◌*◌}
use Rattle.nexthops.proofs.hop_rows.Given as goal

abbrev pub invariant-loop-u : goal.invariant-loop-u
invariant-loop-u l = l.out ≡ flat (hops_of l.w (length l.w)) l.u ++ drop (l.u * length l.w) l.initial.out
