use Rattle.nexthops.specs.Ties.{marked}
use mathlib.Core.Path.{◌≡◌}
use Rattle.nexthops.proofs.mark_row.Given as goal

abbrev pub invariant-loop-t : goal.invariant-loop-t
invariant-loop-t l = l.w ≡ marked l.c l.bit l.p l.q l.t l.initial.w
