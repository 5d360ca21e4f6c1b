use Rattle.alternates.specs.Alternates.{near_word}
use mathlib.Core.Path.{◌≡◌}
use Rattle.alternates.proofs.Outlets.nearest.Given as goal

abbrev pub invariant-loop-w : goal.invariant-loop-w
invariant-loop-w l = l.word ≡ near_word l.self.near.now l.self.d.now l.v l.best l.w
