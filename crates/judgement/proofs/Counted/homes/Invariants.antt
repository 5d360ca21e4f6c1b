use mathlib.Core.Path.{◌≡◌}
use Rattle.rules.specs.Verdict.{Accepted}
use Rattle.rules.specs.Limits.{home_place}
use Rattle.rules.specs.Judgement.{in_turn, home_number}
use Rattle.judgement.specs.Turns.{judged}
use Rattle.judgement.proofs.Counted.homes.Given as goal

abbrev pub invariant-loop-v : goal.invariant-loop-v
invariant-loop-v l = in_turn (judged (home_number l.self.bytes.now l.self.net) (home_place l.self.net)) l.v ≡ Accepted
