use Rattle.alternates.specs.Alternates.{outlets_by}
use mathlib.Core.Path.{◌≡◌}
use Rattle.alternates.proofs.Homes.outlets.Given as goal

abbrev pub invariant-loop-l : goal.invariant-loop-l
invariant-loop-l l = l.near ≡ outlets_by l.self.ends.a.now l.self.ends.b.now l.self.homes.now l.u l.l
