use mathlib.Core.List.{◌++◌}
use lib.ListN.{drop, length}
use Rattle.rules.specs.Basics.{flat}
use Rattle.engine.specs.Stages.{entries_of}
use mathlib.Core.Path.{◌≡◌}
use Prim.Native.Nat.{◌*◌}
use Rattle.engine.proofs.copy_rows.Given as goal

abbrev pub invariant-loop-u : goal.invariant-loop-u
invariant-loop-u l = l.out ≡ flat (entries_of l.alts (length l.alts)) l.u ++ drop (l.u * length l.alts) l.initial.out
