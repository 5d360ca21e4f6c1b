use mathlib.Core.List.{◌++◌}
use lib.ListN.{drop}
use Rattle.rules.specs.Basics.{up_to}
use Rattle.nexthops.specs.Ties.{hop_at}
use mathlib.Core.Path.{◌≡◌}
use Rattle.nexthops.proofs.hop_row.Given as goal

abbrev pub invariant-loop-t : goal.invariant-loop-t
invariant-loop-t l = l.out ≡ up_to (hop_at l.w l.u) l.t ++ drop l.t l.initial.out
