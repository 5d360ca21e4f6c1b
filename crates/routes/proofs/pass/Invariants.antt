use Rattle.routes.specs.Passes.{pass}
use mathlib.Core.Path.{◌≡◌}
use Rattle.routes.proofs.pass.Given as goal

abbrev pub invariant-loop-u : goal.invariant-loop-u
invariant-loop-u l = l.d ≡ pass l.v l.u l.initial.d
