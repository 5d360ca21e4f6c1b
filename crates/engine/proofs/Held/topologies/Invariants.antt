use lib.ListN.{length}
use mathlib.Core.Path.{◌≡◌}
use Rattle.engine.specs.Stages.{Stage}
use Rattle.engine.proofs.Held.topologies.Given as goal

abbrev pub invariant-loop-i : goal.invariant-loop-i
invariant-loop-i l = (length l.c ≡ 128) × (length l.d ≡ 32) × (length l.w ≡ 32) × Stage l.self l.initial.out l.out l.alts l.i
