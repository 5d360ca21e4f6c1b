-- Rules by their numbers: a number of 01's table has one rule, and what an answer tells has one answer.
use Rattle.std.specs.Prelude.{if◌then◌else◌, Result, Ok, Err, is_ok}
use mathlib.Core.Path.{◌≡◌, refl, sym, ap, ◌∙◌}
use mathlib.Core.Bool.{Bool, true, false}
use mathlib.Core.List.{List}
use Prim.Native.Nat.{ℕ, zero, suc, ◌≤◌}
use native.Mathlib.Omega.{arith}
use lib.Dec.{eqb}
use borrow.Author.Tests.{ne_eqb}
use Rattle.rules.specs.declared.Rule.{Rule}
use Rattle.rules.specs.declared.Rule.TheVariants as rule
use Rattle.rules.specs.declared.Refusal.{Refusal}
use Rattle.rules.specs.Verdict.{Verdict, Accepted, Refused, number_of, broken}
use Rattle.rules.specs.Basics.{need}
use Rattle.rules.specs.Judgement.{refuse, and_then}
use Rattle.rules.specs.Answers.{Told, accepted, refused, tell, tells}
use Rattle.rules.specs.Demands.One.{Numbered}
use Rattle.rules.proofs.Ground.Choices.{refuse_no, refuse_ok, then_ok, then_no}

-- a rule by its number
rule_for : ℕ → Rule
rule_for x = if eqb x 1 then rule.Length else (if eqb x 2 then rule.Mark else (if eqb x 3 then rule.Counts else (if eqb x 4 then rule.Ends else (if eqb x 5 then rule.Weight else (if eqb x 6 then rule.Home else (if eqb x 7 then rule.Backbone else (if eqb x 8 then rule.TwoLinks else (if eqb x 9 then rule.CutNode else (if eqb x 10 then rule.Cap else (if eqb x 11 then rule.Range else (if eqb x 12 then rule.Source else (if eqb x 13 then rule.SetOrGraph else (if eqb x 14 then rule.Room else (rule.Lookup))))))))))))))

rule_back : (r : Rule) → rule_for (number_of r) ≡ r
unfolding rule_for
rule_back rule.Length = refl
rule_back rule.Mark = refl
rule_back rule.Counts = refl
rule_back rule.Ends = refl
rule_back rule.Weight = refl
rule_back rule.Home = refl
rule_back rule.Backbone = refl
rule_back rule.TwoLinks = refl
rule_back rule.CutNode = refl
rule_back rule.Cap = refl
rule_back rule.Range = refl
rule_back rule.Source = refl
rule_back rule.SetOrGraph = refl
rule_back rule.Room = refl
rule_back rule.Lookup = refl

rule_one : (r r' : Rule) → number_of r ≡ number_of r' → r ≡ r'
rule_one r r' e = sym (rule_back r) ∙ ap rule_for e ∙ rule_back r'

-- each number of the table is a rule's
numbered_back : (n : ℕ) → 1 ≤ n → n ≤ 15 → number_of (rule_for n) ≡ n
unfolding rule_for
numbered_back zero low high = absurd (omega arith)
numbered_back (suc zero) low high = refl
numbered_back (suc (suc zero)) low high = refl
numbered_back (suc (suc (suc zero))) low high = refl
numbered_back (suc (suc (suc (suc zero)))) low high = refl
numbered_back (suc (suc (suc (suc (suc zero))))) low high = refl
numbered_back (suc (suc (suc (suc (suc (suc zero)))))) low high = refl
numbered_back (suc (suc (suc (suc (suc (suc (suc zero))))))) low high = refl
numbered_back (suc (suc (suc (suc (suc (suc (suc (suc zero)))))))) low high = refl
numbered_back (suc (suc (suc (suc (suc (suc (suc (suc (suc zero))))))))) low high = refl
numbered_back (suc (suc (suc (suc (suc (suc (suc (suc (suc (suc zero)))))))))) low high = refl
numbered_back (suc (suc (suc (suc (suc (suc (suc (suc (suc (suc (suc zero))))))))))) low high = refl
numbered_back (suc (suc (suc (suc (suc (suc (suc (suc (suc (suc (suc (suc zero)))))))))))) low high = refl
numbered_back (suc (suc (suc (suc (suc (suc (suc (suc (suc (suc (suc (suc (suc zero))))))))))))) low high = refl
numbered_back (suc (suc (suc (suc (suc (suc (suc (suc (suc (suc (suc (suc (suc (suc zero)))))))))))))) low high = refl
numbered_back (suc (suc (suc (suc (suc (suc (suc (suc (suc (suc (suc (suc (suc (suc (suc zero))))))))))))))) low high = refl
numbered_back (suc (suc (suc (suc (suc (suc (suc (suc (suc (suc (suc (suc (suc (suc (suc (suc n)))))))))))))))) low high = absurd (omega arith)

-- two refusals that tell the same are the same
refusal_one : (r r' : Refusal) → refused (number_of r.rule) r.place ≡ refused (number_of r'.rule) r'.place → r ≡ r'
refusal_one r r' e =
    let same = rule_one r.rule r'.rule (cc) in
    let place : r.place ≡ r'.place = cc in
    λ i. record { rule = same i; place = place i }

values_of : (l l' : List ℕ) → accepted l ≡ accepted l' → l ≡ l'
values_of l l' e = cc

-- two answers that tell the same are the same, where values tell what they are of
pub tells_one : {A : Type 0} (values : A → List ℕ) → ((x y : A) → values x ≡ values y → x ≡ y) → (r r' : Result A Refusal) → tells values r ≡ tells values r' → r ≡ r'
unfolding tells
tells_one values one (Ok x) (Ok y) e = ap Ok (one x y (values_of (values x) (values y) e))
tells_one values one (Ok x) (Err r) e = cc
tells_one values one (Err r) (Ok x) e = cc
tells_one values one (Err r) (Err r') e = ap Err (refusal_one r r' e)

-- each verdict with a number of the table has an answer
pub tells_some : {A : Type 0} (values : A → List ℕ) (x : A) (v : Verdict) → Numbered v → (r : Result A Refusal) × (tells values r ≡ tell v (values x))
unfolding tells tell
tells_some values x Accepted f = (Ok x, refl)
tells_some values x (Refused number place) f =
    let table = f number place refl in
    (Err (record { rule = rule_for number; place = place }), ap (λ (n : ℕ). refused n place) (numbered_back number table.low table.high))

-- ---- results of the code

-- ---- rules in turn: the first that is broken refuses

pub number_some : (r : Rule) → number_of r ≡ 0 → ⊥
number_some rule.Length e = omega arith
number_some rule.Mark e = omega arith
number_some rule.Counts e = omega arith
number_some rule.Ends e = omega arith
number_some rule.Weight e = omega arith
number_some rule.Home e = omega arith
number_some rule.Backbone e = omega arith
number_some rule.TwoLinks e = omega arith
number_some rule.CutNode e = omega arith
number_some rule.Cap e = omega arith
number_some rule.Range e = omega arith
number_some rule.Source e = omega arith
number_some rule.SetOrGraph e = omega arith
number_some rule.Room e = omega arith
number_some rule.Lookup e = omega arith

-- where a needed test fails the rest is not asked
pub broken_first : (r : Rule) (t : Bool) (number rest : ℕ) → number_of r ≡ need t number 0 → number_of r ≡ need t number rest
unfolding need
broken_first r true number rest e = absurd (number_some r e)
broken_first r false number rest e = e

-- where it holds the rest decides
pub broken_then : (t : Bool) (number rest result : ℕ) → 0 ≡ need t (suc number) 0 → result ≡ rest → result ≡ need t (suc number) rest
unfolding need
broken_then true number rest result e f = f
broken_then false number rest result e f = let z : 0 ≡ suc number = e in absurd (omega arith)

-- the same of a rule that is given
pub broken_then_by : (t : Bool) (r : Rule) (rest result : ℕ) → 0 ≡ need t (number_of r) 0 → result ≡ rest → result ≡ need t (number_of r) rest
unfolding need
broken_then_by true r rest result e f = f
broken_then_by false r rest result e f = absurd (number_some r (sym e))

pub ruleset needing = (broken_first, broken_then)

-- nothing is broken exactly where the number is 0
pub unbroken : (v : Result (Unit {0}) Rule) → is_ok v ≡ eqb (broken v) 0
unbroken (Ok x) = refl
unbroken (Err r) = sym (ne_eqb (number_of r) 0 (number_some r))

-- tests in order with a rest to come: the rest decides exactly where each test before it holds
pub record InOrder (g : ℕ → ℕ) : Type 0 where
  pub on : (rest : ℕ) → 0 ≡ g 0 → rest ≡ g rest
  pub stop : (r : Rule) (rest : ℕ) → number_of r ≡ g 0 → number_of r ≡ g rest

pub order_end : InOrder (λ rest. rest)
order_end = record { on = λ rest e. refl; stop = λ r rest e. absurd (number_some r e) }

pub order_need : (t : Bool) (number : ℕ) (g : ℕ → ℕ) → InOrder g → InOrder (λ rest. need t (suc number) (g rest))
unfolding need
order_need true number g o = record { on = o.on; stop = o.stop }
order_need false number g o = record { on = λ rest e. let z : 0 ≡ suc number = e in absurd (omega arith); stop = λ r rest e. e }

-- ---- verdicts of the code

-- a rule at a place refuses by its number there
pub says_number : (r : Refusal) (number place : ℕ) → number_of r.rule ≡ number → r.place ≡ place → Refused (number_of r.rule) r.place ≡ refuse number place
says_number r number place e d =
    let some : number ≡ 0 → ⊥ = λ z. number_some r.rule (e ∙ z) in
    rw (e, d) (refuse_no number place some)

-- the refusal of what is asked first is that of both
pub says_first : (r : Refusal) (a b : Verdict) → Refused (number_of r.rule) r.place ≡ a → Refused (number_of r.rule) r.place ≡ and_then a b
says_first r a b e = sym (then_no a b (number_of r.rule) r.place (sym e))

-- and where that is accepted, the rest decides
pub says_then : (a b w : Verdict) → Accepted ≡ a → w ≡ b → w ≡ and_then a b
says_then a b w e d = d ∙ sym (then_ok a b (sym e))

-- a refusal by a rule, by its number
pub says_rule : (r : Refusal) (rule : Rule) (number place : ℕ) (v : Verdict) → r ≡ record { rule = rule; place = place } → number_of rule ≡ number
    → Refused number place ≡ v → Refused (number_of r.rule) r.place ≡ v
says_rule r rule number place v e n d = rw e (ap (λ (x : ℕ). Refused x place) n ∙ d)

-- a record's or a topology's rules, at its place
pub placed_refused : (v : Result (Unit {0}) Rule) (rule : Rule) (r : Refusal) (place : ℕ) → v ≡ Err rule → r ≡ record { rule = rule; place = place }
    → Refused (number_of r.rule) r.place ≡ refuse (broken v) place
placed_refused v rule r place e d = says_number r (broken v) place (ap (λ (x : Refusal). number_of x.rule) d ∙ sym (ap broken e)) (ap (λ (x : Refusal). x.place) d)

pub placed_taken : (v : Result (Unit {0}) Rule) (x : Unit {0}) (place : ℕ) → v ≡ Ok x → Accepted ≡ refuse (broken v) place
placed_taken v x place e = refuse_ok (broken v) place (ap broken e)

pub ruleset placing = (placed_refused, placed_taken)

pub ruleset asking = (broken_first, broken_then, says_number, says_first, says_then, says_rule, refuse_ok)
