-- What is asked before a file is laid, and what a laid file answers.
use Rattle.std.specs.Prelude.{◌≡◌, List, [], ◌∷◌, ℕ, leb, length}
use Rattle.rules.specs.declared.Network.{Network}
use Rattle.rules.specs.Verdict.{Verdict}
use Rattle.rules.specs.Basics.{need, laid}
use Rattle.rules.specs.Limits.{need_counts}
use Rattle.rules.specs.Judgement.{refuse, and_then, take_in}
use Rattle.rules.specs.Answers.{LengthAnswer, tell, length_tells}
use Rattle.rules.specs.Entries.Entry.{on_accept}
use Rattle.needs.specs.Numbers.{lists_verdict}

-- counts within their limits, and lists of these lengths that are long enough
unfoldable pub given_verdict : Network → ℕ → ℕ → ℕ → ℕ → ℕ → Verdict
given_verdict h a b weights homes rows = and_then (refuse (need_counts h 0) 0) (lists_verdict 1 h a b weights homes rows)

-- the verdict on a file s that is laid, and on lent room of this length
unfoldable pub laid_verdict : List ℕ → ℕ → Verdict
laid_verdict s room = and_then (take_in s) (refuse (need (leb (length s) room) 14 0) 0)

-- what it answers and leaves: its length and itself at the front of the room, or the refusal and the room as it came
pub record Copied (s before : List ℕ) (r : LengthAnswer) (after : List ℕ) : Type 0 where
  pub answer : length_tells r ≡ tell (laid_verdict s (length before)) (length s ∷ [])
  pub lent : after ≡ on_accept (laid_verdict s (length before)) (laid s before) before
