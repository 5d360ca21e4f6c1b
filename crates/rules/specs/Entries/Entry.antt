-- What an entry is, and what it promises.
use Rattle.std.specs.Prelude.{◌≡◌, List, ℕ}
use Rattle.rules.specs.Verdict.{Verdict, Accepted, Refused}
use Rattle.rules.specs.Answers.{Told, tell}

-- An entry is given an input and is lent something. `verdict` is the refusal by number and place, or acceptance; `tells` is its answer in 01's numbers;
-- `gives` are the values of an accepted call, and `leaves` is what an accepted call leaves in what it was lent
pub record Entry (Input Lent Answer : Type 0) : Type 0 where
  pub verdict : Input → Lent → Verdict
  pub tells : Answer → Told
  pub gives : Input → Lent → List ℕ
  pub leaves : Input → Lent → Lent

-- what stands in lent room after a call: `new` where it is accepted, and as it came where it is refused
unfoldable pub on_accept {ℓ} : {A : Type ℓ} → Verdict → A → A → A
on_accept Accepted new old = new
on_accept (Refused number place) new old = old

-- The promise of entry E: given i and lent `before`, it answers r and leaves `after`. It fixes the whole answer and every lent byte
pub record Promise {Input Lent Answer : Type 0} (E : Entry Input Lent Answer) (i : Input) (before : Lent) (r : Answer) (after : Lent) : Type 0 where
  pub answer : E.tells r ≡ tell (E.verdict i before) (E.gives i before)
  pub lent : after ≡ on_accept (E.verdict i before) (E.leaves i before) before

-- nothing is lent
abbrev pub NothingLent : Type 0
NothingLent = Unit {0}
