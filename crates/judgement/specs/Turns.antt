-- Each record's verdict, and what a link must come after.
use Rattle.std.specs.Prelude.{List, ℕ, zero, suc, ◌+◌, ◌*◌}
use Rattle.rules.specs.Verdict.{Verdict}
use Rattle.rules.specs.File.{end_a, end_b}
use Rattle.rules.specs.Judgement.{refuse}

-- ---- verdicts by number and place

-- record i's refusal number, at its place
unfoldable pub judged : (ℕ → ℕ) → (ℕ → ℕ) → ℕ → Verdict
judged number place i = refuse (number i) (place i)

-- ---- what a link must come after: 0 before the first, which any link with a < b passes; else 256 × a + b of the link before, with its b below 256

unfoldable pub rank_before : List ℕ → ℕ → ℕ
rank_before s zero = 0
rank_before s (suc l) = 256 * end_a s l + end_b s l

unfoldable pub low_before : List ℕ → ℕ → ℕ
low_before s zero = 0
low_before s (suc l) = end_b s l
