use mathlib.Core.Path.{◌≡◌}
use mathlib.Core.Bool.{true}
use Rattle.rules.specs.Basics.{all}
use Rattle.rules.specs.Judgement.{row_weight_fits}
use Rattle.judgement.proofs.Counted.weights.Given as goal

abbrev pub invariant-loop-l : goal.invariant-loop-l
invariant-loop-l l = all (row_weight_fits l.self.bytes.now l.self.net l.j) l.l ≡ true
