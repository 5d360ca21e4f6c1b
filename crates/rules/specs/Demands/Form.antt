-- What demands 2 and 3 say of an entry: two statements of what it returns, in one form for all seven.
use Rattle.std.specs.Prelude.{◌≡◌, ◌↔◌, List, ℕ, length, take, drop, Ok}
use Rattle.rules.specs.declared.Network.{Network}
use Rattle.rules.specs.declared.Step.{Step}
use Rattle.rules.specs.declared.Journey.{Journey}
use Rattle.rules.specs.File.{Set}
use Rattle.rules.specs.Answers.{StepAnswer, ReadAnswer, LengthAnswer, RunAnswer}
use Rattle.rules.specs.Entries.Entry.{Entry, Promise}

-- it accepts exactly when, for some set S, `Meets` holds of what it is given and lent. `Yes` is an answer that is no refusal; `Fair` says of the input what
-- its types say in the code, that a file's entries are bytes
abbrev pub AcceptsExactly : {Input Lent Answer : Type 0} → Entry Input Lent Answer → (Answer → Type 0) → (Input → Type 0) → (Set → Input → Lent → Type 0) → Type 0
AcceptsExactly {Input} {Lent} {Answer} E Yes Fair Meets =
    (i : Input) (before after : Lent) (r : Answer) → Fair i → Promise E i before r after → Yes r ↔ ((S : Set) × Meets S i before)

-- and then `Gives` holds of its answer and of what it leaves
abbrev pub ThenGives : {Input Lent Answer : Type 0} → Entry Input Lent Answer → (Set → Input → Lent → Type 0) → (Set → Input → Lent → Answer → Lent → Type 0) → Type 0
ThenGives {Input} {Lent} {Answer} E Meets Gives =
    (S : Set) (i : Input) (before after : Lent) (r : Answer) → Promise E i before r after → Meets S i before → Gives S i before r after

-- answers that are no refusal
abbrev pub IsRead : ReadAnswer → Type 0
IsRead r = (h : Network) × (r ≡ Ok h)

abbrev pub IsLength : LengthAnswer → Type 0
IsLength r = (bytes : ℕ) × (r ≡ Ok bytes)

abbrev pub IsTaken : StepAnswer → Type 0
IsTaken r = (s : Step) × (r ≡ Ok s)

abbrev pub IsEnded : RunAnswer → Type 0
IsEnded r = (j : Journey) × (r ≡ Ok j)

-- `new` stands at the front of lent room, and what lies past it is as it came
pub record Front (new before after : List ℕ) : Type 0 where
  pub is : take (length new) after ≡ new
  pub rest : drop (length new) after ≡ drop (length new) before
