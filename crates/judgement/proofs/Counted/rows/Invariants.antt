use mathlib.Core.Path.{◌≡◌}
use Rattle.rules.specs.Verdict.{Accepted}
use Rattle.rules.specs.Limits.{row_place}
use Rattle.rules.specs.Judgement.{in_turn, row_number}
use Rattle.judgement.specs.Turns.{judged}
use Rattle.judgement.proofs.Counted.rows.Given as goal

abbrev pub invariant-loop-j : goal.invariant-loop-j
invariant-loop-j l = in_turn (judged (row_number l.self.bytes.now l.self.net) (row_place l.self.net)) l.j ≡ Accepted
