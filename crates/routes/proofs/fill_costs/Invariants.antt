use mathlib.Core.List.{◌++◌}
use lib.ListN.{drop}
use Rattle.rules.specs.Basics.{up_to}
use Rattle.routes.specs.Costs.{cost_at}
use mathlib.Core.Path.{◌≡◌}
use Rattle.routes.proofs.fill_costs.Given as goal

abbrev pub invariant-loop-l : goal.invariant-loop-l
invariant-loop-l l = l.c ≡ up_to (cost_at l.ends.a.now l.ends.b.now l.homes l.row l.i l.r) l.l ++ drop l.l l.initial.c
