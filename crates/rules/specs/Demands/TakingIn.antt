-- 02's request h: "Every caller reads and then checks, and one tool forgot the check." No entry but the step accepts a set that breaks 7 or 8.
use Rattle.std.specs.Prelude.{◌≡◌, ℕ, ◌≤◌, ◌<◌}
use Rattle.rules.specs.File.{Set}
use Rattle.rules.specs.Answers.{StepAnswer, refused}
use Rattle.rules.specs.Entries.Entry.{Entry, Promise, NothingLent}
use Rattle.rules.specs.Entries.Lists.{LongLists}
use Rattle.rules.specs.Entries.Read.{read_entry}
use Rattle.rules.specs.Entries.Write.{WriteInput, write_entry}
use Rattle.rules.specs.Entries.Build.{build_entry}
use Rattle.rules.specs.Entries.Tables.{tables_entry}
use Rattle.rules.specs.Entries.Step.{StepInput, step_entry}
use Rattle.rules.specs.Entries.Run.{run_entry}
use Rattle.rules.specs.Entries.Report.{report_entry}
use Rattle.rules.specs.Sets.{MeetsRules, FileOf, Sound}
use Rattle.rules.specs.Demands.Form.{IsRead, IsLength, IsEnded}
use Rattle.rules.specs.Demands.Two.{cut_to}
use Rattle.rules.specs.Refusals.{BackboneJoined, TopologyFault}

-- the first topology of S that breaks a rule is i, and the number says which: 7 before 8
pub record FirstBroken (S : Set) (number i : ℕ) : Type 0 where
  pub fault : TopologyFault S number i
  pub earlier : (j : ℕ) → 1 ≤ j → j < i → Sound S j
  pub seven_first : number ≡ 8 → BackboneJoined S i

-- an entry that is given, or would write, the file of a set that breaks a rule. `Given` says whose file it is, by the rules of the file; `Yes` is an answer
-- that is no refusal
pub record RefusesBroken {Input Lent Answer : Type 0} (E : Entry Input Lent Answer) (Yes : Answer → Type 0) (Given : Set → Input → Type 0) : Type 0 where
  -- it never accepts
  pub never : (S : Set) (topology : ℕ) → 1 ≤ topology → topology ≤ S.net.k → (Sound S topology → ⊥)
      → (i : Input) (before after : Lent) (r : Answer) → Given S i → Promise E i before r after → Yes r → ⊥
  -- it tells the first broken topology, whatever else it could refuse: 13, 11, 9, 10, 12 and 14 come after
  pub tells_first : (S : Set) (number topology : ℕ) → FirstBroken S number topology
      → (i : Input) (before after : Lent) (r : Answer) → Given S i → Promise E i before r after → E.tells r ≡ refused number topology

-- the writer is given lists, which it would write as the file of this set
pub record WouldWrite (S : Set) (i : WriteInput) : Type 0 where
  pub lists : LongLists i.net i.lists
  pub set : S ≡ cut_to i.net i.lists
  pub rules : MeetsRules S

-- of every entry but the step, which never tells 7 or 8: "The single step doesn't repeat 7 and 8"
pub record BrokenRefused : Type 0 where
  pub read : RefusesBroken read_entry IsRead FileOf
  pub write : RefusesBroken write_entry IsLength WouldWrite
  pub build : RefusesBroken build_entry IsLength (λ S i. FileOf S i.file)
  pub tables : RefusesBroken tables_entry IsLength FileOf
  pub run : RefusesBroken run_entry IsEnded (λ S i. FileOf S i.file)
  pub report : RefusesBroken report_entry IsLength FileOf
  pub step : (i : StepInput) (before after : NothingLent) (r : StepAnswer) (number place : ℕ) → Promise step_entry i before r after → step_entry.tells r ≡ refused number place
      → (number ≡ 7 → ⊥) × (number ≡ 8 → ⊥)
