-- A text into any room.
use mathlib.Core.Path.{◌≡◌, sym, ◌∙◌}
use mathlib.Core.List.{List, ◌++◌}
use Prim.Native.Nat.{ℕ, ◌≤◌}
use lib.Dec.{leb}
use lib.ListN.{length, drop}
use Rattle.rules.specs.Verdict.{Accepted}
use Rattle.rules.specs.Basics.{need, laid}
use Rattle.rules.specs.Judgement.{refuse}
use Rattle.rules.specs.Answers.{LengthAnswer}
use Rattle.rules.proofs.Ground.Choices.{need_ok, refuse_zero}
use borrow.Author.Tests.{leb-true}
use Rattle.rules.proofs.Entries.Determined.{length_one}
use Rattle.anyroom.specs.Laying.{Copied}

-- ---- a copy

pub copy_fits : (long room : ℕ) → Accepted ≡ refuse (need (leb long room) 14 0) 0 → long ≤ room
copy_fits long room t = leb-true long room (need_ok (leb long room) 13 0 (refuse_zero _ 0 (sym t))).0

pub laid_at : (text before after : List ℕ) → after ≡ text ++ drop (length text) before → after ≡ laid text before
unfolding laid
laid_at text before after e = e

-- the promise leaves no room: two results that it allows coincide
pub one_laying : (bytes text after after' : List ℕ) (r r' : LengthAnswer) → Copied bytes text r after → Copied bytes text r' after' → (r ≡ r') × (after ≡ after')
one_laying bytes text after after' r r' p q = (length_one r r' (p.answer ∙ sym q.answer), p.lent ∙ sym q.lent)

pub ruleset texts = (copy_fits, laid_at)
