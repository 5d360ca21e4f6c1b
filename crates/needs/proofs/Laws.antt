-- What is down, as the code asks it; and what lists that are asked for say.
use Rattle.std.specs.Prelude.{Result, Ok, Err}
use mathlib.Core.Path.{◌≡◌, refl, sym, ap, ◌∙◌}
use mathlib.Core.Bool.{Bool, true, false, ◌&&◌}
use Prim.Native.Nat.{ℕ, ◌*◌}
use lib.Dec.{ltb}
use borrow.Author.Tests.{eq-eqb, ne_eqb}
use Rattle.rules.specs.declared.Network.{Network}
use Rattle.rules.specs.declared.Rule.{Rule}
use Rattle.rules.specs.declared.Refusal.{Refusal}
use Rattle.rules.specs.declared.Failure.{Failure}
use Rattle.rules.specs.declared.Failure.TheVariants.{Nothing, Link, Node}
use Rattle.rules.specs.Verdict.{Accepted, Refused, number_of, broken}
use Rattle.rules.specs.Limits.{home_records, row_weights}
use Rattle.rules.specs.Basics.{need}
use Rattle.rules.specs.Judgement.{refuse, need_failure, source_number, need_source}
use Rattle.rules.proofs.Ground.Choices.{refuse_ok}
use Rattle.rules.proofs.Ground.Ruling.{says_number}
use Rattle.needs.specs.Numbers.{lists_rule, lists_verdict, lists_hold, asked, by_number}

-- it is there
pub there_nothing : (h : Network) (f : Failure) → f ≡ Nothing → need true 11 0 ≡ need_failure h f 0
unfolding need_failure need
there_nothing h f e = rw e

pub there_link : (h : Network) (f : Failure) (l : ℕ) → f ≡ Link l → need (ltb l h.m) 11 0 ≡ need_failure h f 0
unfolding need_failure
there_link h f l e = rw e

pub there_node : (h : Network) (f : Failure) (v : ℕ) → f ≡ Node v → need (ltb v h.n) 11 0 ≡ need_failure h f 0
unfolding need_failure
there_node h f v e = rw e

-- whether it is the packet's node
pub source_nothing : (u : ℕ) (f : Failure) → f ≡ Nothing → Accepted ≡ need_source u f
unfolding need_source source_number refuse
source_nothing u f e = rw e

pub source_link : (u : ℕ) (f : Failure) (l : ℕ) → f ≡ Link l → Accepted ≡ need_source u f
unfolding need_source source_number refuse
source_link u f l e = rw e

pub source_failed : (u : ℕ) (f : Failure) (v : ℕ) → f ≡ Node v → v ≡ u → Refused 12 0 ≡ need_source u f
unfolding need_source source_number refuse
source_failed u f v e d = rw (e, eq-eqb v u d)

pub source_up : (u : ℕ) (f : Failure) (v : ℕ) → f ≡ Node v → (v ≡ u → ⊥) → Accepted ≡ need_source u f
unfolding need_source source_number refuse
source_up u f v e d = rw (e, ne_eqb v u d)

-- ---- lists

-- the published verdict, by the number that the five lengths give
module _ (number : ℕ) (h : Network) (a b weights homes rows nodes entries : ℕ) (n : nodes ≡ home_records h) (k : entries ≡ h.k * row_weights h) where
  pub lists_refused : (r : Refusal) → number_of r.rule ≡ lists_rule number h a b weights homes rows nodes entries → r.place ≡ 0
      → Refused (number_of r.rule) r.place ≡ lists_verdict number h a b weights homes rows
  unfolding lists_verdict
  lists_refused r e p = says_number r (lists_rule number h a b weights homes rows (home_records h) (h.k * row_weights h)) 0 (e ∙ rw (n, k)) p

  pub lists_taken : 0 ≡ lists_rule number h a b weights homes rows nodes entries → Accepted ≡ lists_verdict number h a b weights homes rows
  unfolding lists_verdict
  lists_taken e = refuse_ok (lists_rule number h a b weights homes rows (home_records h) (h.k * row_weights h)) 0 (rw (← n, ← k) (sym e))

pub ruleset lists_are = (lists_refused, lists_taken)

-- two needed tests at once, or one after the other
need_both : (p q : Bool) (number rest : ℕ) → need (p && q) number rest ≡ need p number (need q number rest)
unfolding need
need_both true q number rest = refl
need_both false q number rest = refl

-- a test that refuses by a number, by a rule, and after a `?`
asked_number : (t : Bool) (number : ℕ) → by_number (asked t number) ≡ refuse (need t number 0) 0
unfolding by_number asked need refuse
asked_number true number = refl
asked_number false number = refl

asked_rule : (t : Bool) (by : Rule) → broken (asked t by) ≡ need t (number_of by) 0
unfolding asked need
asked_rule true by = refl
asked_rule false by = refl

asked_broken : (t : Bool) (by rule : Rule) (number : ℕ) → Err rule ≡ asked t by → number_of by ≡ number → number_of rule ≡ need t number 0
unfolding asked need
asked_broken true by rule number e n = cc
asked_broken false by rule number e n = cc

asked_held : {A : Type 0} (t : Bool) (by : A) (x : Unit {0}) (number : ℕ) → Ok x ≡ asked t by → 0 ≡ need t number 0
unfolding asked need
asked_held true by x number e = refl
asked_held false by x number e = cc

module _ (h : Network) (a b weights homes rows : ℕ) where
  lists_number : (number : ℕ) → need (lists_hold h a b weights homes rows) number 0 ≡ lists_rule number h a b weights homes rows (home_records h) (h.k * row_weights h)
  unfolding lists_hold lists_rule
  lists_number number = simp need_both

  lists_by : (number : ℕ) → refuse (need (lists_hold h a b weights homes rows) number 0) 0 ≡ lists_verdict number h a b weights homes rows
  unfolding lists_verdict
  lists_by number = ap (λ (x : ℕ). refuse x 0) (lists_number number)

  -- what is refused by a number says the published verdict, whatever the number is
  pub lists_numbered : (number : ℕ) (v : Result (Unit {0}) ℕ) → v ≡ asked (lists_hold h a b weights homes rows) number → by_number v ≡ lists_verdict number h a b weights homes rows
  lists_numbered number v e = ap by_number e ∙ asked_number (lists_hold h a b weights homes rows) number ∙ lists_by number

  -- and so does what is refused by a rule
  pub lists_said : (by : Rule) (v : Result (Unit {0}) Rule) → v ≡ asked (lists_hold h a b weights homes rows) by → refuse (broken v) 0 ≡ lists_verdict (number_of by) h a b weights homes rows
  lists_said by v e =
      ap (λ (x : Result (Unit {0}) Rule). refuse (broken x) 0) e ∙ ap (λ (x : ℕ). refuse x 0) (asked_rule (lists_hold h a b weights homes rows) by) ∙ lists_by (number_of by)

  -- the same after a `?`
  pub asked_refused : (by rule : Rule) (r : Refusal) (number : ℕ) → Err rule ≡ asked (lists_hold h a b weights homes rows) by → number_of by ≡ number → r ≡ record { rule = rule; place = 0 }
      → Refused (number_of r.rule) r.place ≡ lists_verdict number h a b weights homes rows
  asked_refused by rule r number e n d =
      let broke = asked_broken (lists_hold h a b weights homes rows) by rule number e n in
      lists_refused number h a b weights homes rows (home_records h) (h.k * row_weights h) refl refl r (ap (λ (x : Refusal). number_of x.rule) d ∙ broke ∙ lists_number number) (ap (λ (x : Refusal). x.place) d)

  pub asked_taken : {A : Type 0} (by : A) (x : Unit {0}) (number : ℕ) → Ok x ≡ asked (lists_hold h a b weights homes rows) by → Accepted ≡ lists_verdict number h a b weights homes rows
  asked_taken by x number e =
      let held = asked_held (lists_hold h a b weights homes rows) by x number e in
      lists_taken number h a b weights homes rows (home_records h) (h.k * row_weights h) refl refl (held ∙ lists_number number)

pub ruleset asked_lists = (asked_refused, asked_taken)

pub ruleset down = (there_nothing, there_link, there_node, source_nothing, source_link, source_failed, source_up)
