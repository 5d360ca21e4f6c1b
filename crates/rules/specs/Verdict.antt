-- 01, 'Refusal numbers': the number of each rule, and what is said of an input: accepted, or refused "by number and place".
use Rattle.std.specs.Prelude.{ℕ, Result, Ok, Err}
use Rattle.rules.specs.declared.Rule.{Rule}
use Rattle.rules.specs.declared.Rule.TheVariants as rule
use Rattle.rules.specs.declared.Refusal.{Refusal}

-- accepted, or refused with 01's number and place
pub data Verdict : Type 0 where
  Accepted : Verdict
  Refused : ℕ → ℕ → Verdict

-- the number of a rule, by 01's table
abbrev pub number_of : Rule → ℕ
number_of rule.Length = 1
number_of rule.Mark = 2
number_of rule.Counts = 3
number_of rule.Ends = 4
number_of rule.Weight = 5
number_of rule.Home = 6
number_of rule.Backbone = 7
number_of rule.TwoLinks = 8
number_of rule.CutNode = 9
number_of rule.Cap = 10
number_of rule.Range = 11
number_of rule.Source = 12
number_of rule.SetOrGraph = 13
number_of rule.Room = 14
number_of rule.Lookup = 15

-- the number of the rule that is broken; 0 where none is
abbrev pub broken : Result (Unit {0}) Rule → ℕ
broken (Ok x) = 0
broken (Err rule) = number_of rule

-- the verdict that a result of the code says
abbrev pub says : Result (Unit {0}) Refusal → Verdict
says (Ok x) = Accepted
says (Err refusal) = Refused (number_of refusal.rule) refusal.place
