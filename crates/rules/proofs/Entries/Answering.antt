-- From a promise to what an entry returns: an answer that is no refusal goes with an accepted verdict, and with nothing else.
use Rattle.std.specs.Prelude.{Ok}
use mathlib.Core.Path.{◌≡◌, refl, sym, ap, ◌∙◌}
use mathlib.Core.List.{List, [], ◌∷◌}
use Prim.Native.Nat.{ℕ}
use native.Mathlib.Omega.{arith}
use Rattle.rules.specs.declared.Network.{Network}
use Rattle.rules.specs.declared.Journey.{Journey}
use Rattle.rules.specs.Verdict.{Verdict, Accepted, Refused}
use Rattle.rules.specs.declared.Step.{Step}
use Rattle.rules.specs.Basics.{laid}
use Rattle.rules.specs.File.{Set}
use Rattle.rules.specs.Forwarding.{Run, hops}
use Rattle.rules.specs.Answers.{ReadAnswer, LengthAnswer, StepAnswer, RunAnswer, accepted, refused, tell, header_values, read_tells, length_tells, step_values, step_tells, journey_values, run_tells, tells}
use Rattle.rules.specs.Entries.Entry.{Entry, on_accept, Promise}
use Rattle.rules.specs.Entries.Run.{run_values}
use Rattle.rules.specs.Demands.Form.{AcceptsExactly, IsRead, IsLength, IsTaken, IsEnded, Front}
use Rattle.rules.proofs.Ground.Rows.{laid_rest, laid_front}
use Rattle.rules.proofs.Entries.Determined.{read_one, length_one, step_one, run_one}

-- values are told of an accepted verdict alone
pub tells_accepted : (v : Verdict) (given values : List ℕ) → accepted values ≡ tell v given → v ≡ Accepted
unfolding tell
tells_accepted Accepted given values e = refl
tells_accepted (Refused number place) given values e = let z : ◌≡◌ {A = ℕ} 0 1 = cc in absurd (omega arith)

module _ {Input Lent Answer : Type 0} (E : Entry Input Lent Answer) (i : Input) (before after : Lent) (r : Answer) (P : Promise E i before r after) where
  -- an answer with values was accepted
  pub was_accepted : (values : List ℕ) → E.tells r ≡ accepted values → E.verdict i before ≡ Accepted
  was_accepted values e = tells_accepted (E.verdict i before) (E.gives i before) values (sym e ∙ P.answer)

  -- an accepted call tells its values
  pub told : E.verdict i before ≡ Accepted → E.tells r ≡ accepted (E.gives i before)
  unfolding tell
  told e = P.answer ∙ rw e

  -- and leaves what it gives
  pub left : E.verdict i before ≡ Accepted → after ≡ E.leaves i before
  unfolding on_accept
  left e = P.lent ∙ rw e

-- what a promise asks of a call that is refused, and of one that is accepted: its answer, and what was lent
pub tell_refused : (v : Verdict) (given : List ℕ) (number place : ℕ) → Refused number place ≡ v → refused number place ≡ tell v given
unfolding tell
tell_refused v given number place e = rw (← e)

pub tell_accepted : (v : Verdict) (given values : List ℕ) → Accepted ≡ v → values ≡ given → accepted values ≡ tell v given
unfolding tell
tell_accepted v given values e d = rw (← e, d)

pub lent_refused : {A : Type 0} (v : Verdict) (new old : A) (number place : ℕ) → Refused number place ≡ v → old ≡ on_accept v new old
unfolding on_accept
lent_refused v new old number place e = rw (← e)

pub lent_accepted : {A : Type 0} (v : Verdict) (new old after : A) → Accepted ≡ v → after ≡ new → after ≡ on_accept v new old
unfolding on_accept
lent_accepted v new old after e d = rw (← e) d

pub ruleset promising = (tell_refused, tell_accepted, lent_refused, lent_accepted)

-- the first statement of an entry, from what its verdict asks
pub accepts : {Input Lent Answer : Type 0} (E : Entry Input Lent Answer) (Yes : Answer → Type 0) (Fair : Input → Type 0) (Meets : Set → Input → Lent → Type 0)
    → ((r : Answer) → Yes r → (values : List ℕ) × (E.tells r ≡ accepted values))
    → ((i : Input) (before : Lent) (r : Answer) → E.tells r ≡ accepted (E.gives i before) → Yes r)
    → ((i : Input) (before : Lent) → Fair i → E.verdict i before ≡ Accepted → (S : Set) × Meets S i before)
    → ((S : Set) (i : Input) (before : Lent) → Meets S i before → E.verdict i before ≡ Accepted)
    → AcceptsExactly E Yes Fair Meets
accepts E Yes Fair Meets values answers asked meets i before after r fair P = (
  λ y. let v = values r y in asked i before fair (was_accepted E i before after r P v.0 v.1),
  λ m. answers i before r (told E i before after r P (meets m.0 i before m.1)),
)

-- what is laid into lent room stands at its front, and the rest is as it came
pub front_laid : (new old : List ℕ) → Front new old (laid new old)
front_laid new old = record { is = laid_front new old; rest = laid_rest new old }

-- ---- the answers that are no refusal

pub read_values : (r : ReadAnswer) → IsRead r → (values : List ℕ) × (read_tells r ≡ accepted values)
unfolding tells
read_values r y = (header_values y.0, ap read_tells y.1)

pub read_is : (r : ReadAnswer) (h : Network) → read_tells r ≡ accepted (header_values h) → r ≡ Ok h
unfolding tells
read_is r h e = read_one r (Ok h) e

pub length_values : (r : LengthAnswer) → IsLength r → (values : List ℕ) × (length_tells r ≡ accepted values)
unfolding tells
length_values r y = (y.0 ∷ [], ap length_tells y.1)

pub length_is : (r : LengthAnswer) (bytes : ℕ) → length_tells r ≡ accepted (bytes ∷ []) → r ≡ Ok bytes
unfolding tells
length_is r bytes e = length_one r (Ok bytes) e

pub step_values_of : (r : StepAnswer) → IsTaken r → (values : List ℕ) × (step_tells r ≡ accepted values)
unfolding tells
step_values_of r y = (step_values y.0, ap step_tells y.1)

pub step_is : (r : StepAnswer) (s : Step) → step_tells r ≡ accepted (step_values s) → r ≡ Ok s
unfolding tells
step_is r s e = step_one r (Ok s) e

pub run_values_of : (r : RunAnswer) → IsEnded r → (values : List ℕ) × (run_tells r ≡ accepted values)
unfolding tells
run_values_of r y = (journey_values y.0, ap run_tells y.1)

-- a run as the answer has it
abbrev pub journey_of : Run → Journey
journey_of made = record { outcome = made.outcome; hops = hops made; topology = made.topology; kind = made.kind }

pub run_is : (r : RunAnswer) (made : Run) → run_tells r ≡ accepted (run_values made) → r ≡ Ok (journey_of made)
unfolding tells run_values journey_values
run_is r made e = run_one r (Ok (journey_of made)) e
