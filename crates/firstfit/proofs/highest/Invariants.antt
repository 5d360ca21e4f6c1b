use Rattle.rules.specs.Building.{highest}
use mathlib.Core.Path.{◌≡◌}
use Rattle.firstfit.proofs.highest.Given as goal

abbrev pub invariant-loop-home : goal.invariant-loop-home
invariant-loop-home l = l.top ≡ highest l.homes l.home-index
