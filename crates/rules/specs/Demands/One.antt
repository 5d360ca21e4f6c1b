-- Demand 1. "Every entry takes every input. What is outside the written limits is refused by number and place, nothing lent is altered, no caller has to check
-- first."
use Rattle.std.specs.Prelude.{◌≡◌, List, [], ◌∷◌, ℕ, ◌≤◌, ◌<◌, length}
use Rattle.rules.specs.Verdict.{Verdict, Refused}
use Rattle.rules.specs.Limits.{longest}
use Rattle.rules.specs.Answers.{refused}
use Rattle.rules.specs.Entries.Entry.{Entry, Promise, NothingLent}
use Rattle.rules.specs.Entries.Lists.{Lists}
use Rattle.rules.specs.Entries.Read.{read_entry}
use Rattle.rules.specs.Entries.Write.{write_entry}
use Rattle.rules.specs.Entries.Build.{build_entry}
use Rattle.rules.specs.Entries.Tables.{tables_entry}
use Rattle.rules.specs.Entries.Step.{step_entry}
use Rattle.rules.specs.Entries.Run.{RunLent, run_entry}
use Rattle.rules.specs.Entries.Report.{report_entry}

-- 01's refusals are 1 to 15, and no place lies past the longest file
pub record InTable (number place : ℕ) : Type 0 where
  pub low : 1 ≤ number
  pub high : number ≤ 15
  pub inside : place < longest.file

-- so is what a verdict refuses by
abbrev pub Numbered : Verdict → Type 0
Numbered v = (number place : ℕ) → v ≡ Refused number place → InTable number place

-- No entry has a `requires`; of its promise, where `lengths` are those of what it is lent:
pub record TakesEveryInput {Input Lent Answer : Type 0} (E : Entry Input Lent Answer) (lengths : Lent → List ℕ) : Type 0 where
  -- whatever it is given and lent, the promise allows a result
  pub taken : (i : Input) (before : Lent) → (r : Answer) × (after : Lent) × Promise E i before r after
  -- a refusal tells its number and place
  pub refuses : (i : Input) (before : Lent) (r : Answer) (after : Lent) (number place : ℕ) → Promise E i before r after
      → E.verdict i before ≡ Refused number place → E.tells r ≡ refused number place
  -- the number is one of 01's table and the place lies within the longest file
  pub numbered : (i : Input) (before : Lent) (r : Answer) (after : Lent) (number place : ℕ) → Promise E i before r after
      → E.tells r ≡ refused number place → InTable number place
  -- and what was lent is as it came
  pub unaltered : (i : Input) (before : Lent) (r : Answer) (after : Lent) (number place : ℕ) → Promise E i before r after
      → E.tells r ≡ refused number place → after ≡ before
  -- accepted or refused, what was lent is as long as it was
  pub kept : (i : Input) (before : Lent) (r : Answer) (after : Lent) → Promise E i before r after → lengths after ≡ lengths before
  -- two results that it allows coincide
  pub determined : (i : Input) (before : Lent) (r r' : Answer) (after after' : Lent) → Promise E i before r after → Promise E i before r' after'
      → (r ≡ r') × (after ≡ after')

-- the lengths of what is lent: nothing; one list or buffer; five lists; tables and a trail
abbrev pub no_lengths : NothingLent → List ℕ
no_lengths d = []

abbrev pub its_length : List ℕ → List ℕ
its_length d = length d ∷ []

abbrev pub list_lengths : Lists → List ℕ
list_lengths d = length d.a ∷ length d.b ∷ length d.weights ∷ length d.homes ∷ length d.rows ∷ []

abbrev pub run_lengths : RunLent → List ℕ
run_lengths d = length d.tables ∷ length d.trail ∷ []

-- demand 1, of each entry
pub record Demand1 : Type 0 where
  pub read : TakesEveryInput read_entry list_lengths
  pub write : TakesEveryInput write_entry its_length
  pub build : TakesEveryInput build_entry its_length
  pub tables : TakesEveryInput tables_entry its_length
  pub step : TakesEveryInput step_entry no_lengths
  pub run : TakesEveryInput run_entry run_lengths
  pub report : TakesEveryInput report_entry its_length
