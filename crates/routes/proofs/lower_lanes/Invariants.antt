use Rattle.routes.specs.Lanes.{lanes}
use mathlib.Core.Path.{◌≡◌}
use Rattle.routes.proofs.lower_lanes.Given as goal

abbrev pub invariant-loop-t : goal.invariant-loop-t
invariant-loop-t l = l.p ≡ lanes l.c l.q l.t l.initial.p
