-- Laws of tests in order: a choice, a needed test, a refusal, and verdicts one after the other.
use Rattle.std.specs.Prelude.{if◌then◌else◌}
use mathlib.Core.Path.{◌≡◌, refl, sym, ap, ap₂, subst, ◌∙◌}
use mathlib.Core.Bool.{Bool, true, false, ◌&&◌, ◌||◌, true≢false, false≢true}
use mathlib.Core.Logic.{◌⊎◌, inl, inr}
use Prim.Native.Nat.{ℕ, zero, suc, ◌+◌, ◌≤◌, ◌<◌}
use native.Mathlib.Numerals.{add-one}
use native.Mathlib.Omega.{arith}
use native.Mathlib.Decide.{dec_lt}
use lib.Dec.{eqb, ltb, leb}
use borrow.Author.Tests.{lt-ltb, le-ltb, le-leb, lt-leb, eq-eqb, ne_eqb}
use Rattle.rules.specs.Verdict.{Verdict, Accepted, Refused}
use Rattle.rules.specs.Basics.{need}
use Rattle.rules.specs.Judgement.{refuse, and_then, in_turn}

-- ---- Bool

pub and_of : (a b : Bool) → a ≡ true → b ≡ true → (a && b) ≡ true
and_of true b p q = q
and_of false b p q = p

pub and_left : (a b : Bool) → (a && b) ≡ true → a ≡ true
and_left true b e = refl
and_left false b e = e

pub and_right : (a b : Bool) → (a && b) ≡ true → b ≡ true
and_right true b e = e
and_right false b e = absurd (false≢true e)

pub or_left : (a b : Bool) → a ≡ true → (a || b) ≡ true
or_left true b e = refl
or_left false b e = absurd (false≢true e)

pub or_right : (a b : Bool) → b ≡ true → (a || b) ≡ true
or_right true b e = refl
or_right false b e = e

pub or_cases : (a b : Bool) → (a || b) ≡ true → (a ≡ true) ⊎ (b ≡ true)
or_cases true b e = inl refl
or_cases false b e = inr e

-- a test cannot both hold and fail
pub clash : (b : Bool) → b ≡ true → b ≡ false → ⊥
clash b e g = true≢false (sym e ∙ g)

pub false_of : (b : Bool) → (b ≡ true → ⊥) → b ≡ false
false_of true h = absurd (h refl)
false_of false h = refl

pub true_of : (b : Bool) → (b ≡ false → ⊥) → b ≡ true
true_of true h = refl
true_of false h = absurd (h refl)

-- two tests that follow from each other are one
pub same_test : (a b : Bool) → (a ≡ true → b ≡ true) → (b ≡ true → a ≡ true) → a ≡ b
same_test true b f g = sym (f refl)
same_test false true f g = g refl
same_test false false f g = refl

-- ---- if

module _ {A : Type 0} where
  pub if_yes : (t : Bool) (x y : A) → t ≡ true → (if t then x else y) ≡ x
  if_yes true x y e = refl
  if_yes false x y e = absurd (false≢true e)

  pub if_no : (t : Bool) (x y : A) → t ≡ false → (if t then x else y) ≡ y
  if_no true x y e = absurd (true≢false e)
  if_no false x y e = refl

-- ---- need: the laws that `search` answers a chain's returns by

pub need_yes : (t : Bool) (number rest x : ℕ) → t ≡ true → x ≡ rest → x ≡ need t number rest
unfolding need
need_yes t number rest x h e = rw h e

pub need_no : (t : Bool) (number rest x : ℕ) → t ≡ false → x ≡ number → x ≡ need t number rest
unfolding need
need_no t number rest x h e = rw h e

pub need_lt : (a b number rest x : ℕ) → a < b → x ≡ rest → x ≡ need (ltb a b) number rest
need_lt a b number rest x h e = need_yes (ltb a b) number rest x (lt-ltb a b h) e

pub need_lt_no : (a b number rest x : ℕ) → b ≤ a → x ≡ number → x ≡ need (ltb a b) number rest
need_lt_no a b number rest x h e = need_no (ltb a b) number rest x (le-ltb a b h) e

pub need_le : (a b number rest x : ℕ) → a ≤ b → x ≡ rest → x ≡ need (leb a b) number rest
need_le a b number rest x h e = need_yes (leb a b) number rest x (le-leb a b h) e

pub need_le_no : (a b number rest x : ℕ) → b < a → x ≡ number → x ≡ need (leb a b) number rest
need_le_no a b number rest x h e = need_no (leb a b) number rest x (lt-leb a b h) e

pub need_eq : (a b number rest x : ℕ) → a ≡ b → x ≡ rest → x ≡ need (eqb a b) number rest
need_eq a b number rest x h e = need_yes (eqb a b) number rest x (eq-eqb a b h) e

pub need_eq_no : (a b number rest x : ℕ) → (a ≡ b → ⊥) → x ≡ number → x ≡ need (eqb a b) number rest
need_eq_no a b number rest x h e = need_no (eqb a b) number rest x (ne_eqb a b h) e

-- where the number is 0, the test held and so did the rest
pub need_ok : (t : Bool) (number rest : ℕ) → need t (suc number) rest ≡ 0 → (t ≡ true) × (rest ≡ 0)
unfolding need
need_ok true number rest e = (refl, e)
need_ok false number rest e = absurd (omega arith)

-- ---- refuse

pub refuse_no : (number place : ℕ) → (number ≡ 0 → ⊥) → Refused number place ≡ refuse number place
unfolding refuse
refuse_no zero place h = absurd (h refl)
refuse_no (suc number) place h = refl

pub refuse_ok : (number place : ℕ) → number ≡ 0 → Accepted ≡ refuse number place
unfolding refuse
refuse_ok zero place h = refl
refuse_ok (suc number) place h = absurd (omega arith)

pub refuse_zero : (number place : ℕ) → refuse number place ≡ Accepted → number ≡ 0
unfolding refuse
refuse_zero zero place e = refl
refuse_zero (suc number) place e = let z : ◌≡◌ {A = ℕ} 0 1 = cc in absurd (omega arith)

pub ruleset numbers = (need_yes, need_no, need_lt, need_lt_no, need_le, need_le_no, need_eq, need_eq_no, refuse_no, refuse_ok)

-- ---- and_then

pub then_ok : (v w : Verdict) → v ≡ Accepted → and_then v w ≡ w
unfolding and_then
then_ok v w e = rw e

pub then_both : (v w : Verdict) → v ≡ Accepted → w ≡ Accepted → and_then v w ≡ Accepted
then_both v w e f = then_ok v w e ∙ f

pub then_no : (v w : Verdict) (number place : ℕ) → v ≡ Refused number place → and_then v w ≡ Refused number place
unfolding and_then
then_no v w number place e = rw e

-- verdicts in order may be grouped either way
pub then_assoc : (u v w : Verdict) → and_then u (and_then v w) ≡ and_then (and_then u v) w
unfolding and_then
then_assoc Accepted v w = refl
then_assoc (Refused number place) v w = refl

-- both parts of an acceptance
pub then_first : (v w : Verdict) → and_then v w ≡ Accepted → v ≡ Accepted
unfolding and_then
then_first Accepted w e = refl
then_first (Refused number place) w e = e

pub then_second : (v w : Verdict) → and_then v w ≡ Accepted → w ≡ Accepted
unfolding and_then
then_second Accepted w e = e
then_second (Refused number place) w e = let z : ◌≡◌ {A = ℕ} 0 1 = cc in absurd (omega arith)

-- the same of answers that calls gave: v for the first verdict a, w for the second verdict b
pub then_on : (v w a b : Verdict) → v ≡ Accepted → v ≡ a → w ≡ b → w ≡ and_then a b
then_on v w a b t e d = d ∙ sym (then_ok a b (sym e ∙ t))

pub then_stop : (v a b : Verdict) (number place : ℕ) → v ≡ Refused number place → v ≡ a → v ≡ and_then a b
then_stop v a b number place t e = t ∙ sym (then_no a b number place (sym e ∙ t))

-- ---- in_turn

pub turn_none : (f : ℕ → Verdict) → in_turn f 0 ≡ Accepted
unfolding in_turn
turn_none f = refl

pub turn_more : (f : ℕ → Verdict) (i : ℕ) → in_turn f i ≡ Accepted → f i ≡ Accepted → in_turn f (i + 1) ≡ Accepted
unfolding in_turn and_then
turn_more f i e d = rw (add-one, e) d

-- one that is refused, with all before it accepted, is the answer of any longer turn
turn_stop_step : (f : ℕ → Verdict) (i m number place : ℕ) → Dec (i < m) → (i < m → in_turn f m ≡ Refused number place) → i < suc m → in_turn f i ≡ Accepted → f i ≡ Refused number place → in_turn f (suc m) ≡ Refused number place
unfolding in_turn
turn_stop_step f i m number place (yes q) ih h e d = then_no (in_turn f m) (f m) number place (ih q)
turn_stop_step f i m number place (no q) ih h e d =
    let same : i ≡ m = omega arith in
    subst (λ (k : ℕ). and_then (in_turn f k) (f k) ≡ Refused number place) same (then_ok (in_turn f i) (f i) e ∙ d)

pub turn_stop : (f : ℕ → Verdict) (i m number place : ℕ) → i < m → in_turn f i ≡ Accepted → f i ≡ Refused number place → in_turn f m ≡ Refused number place
turn_stop f i zero number place h e d = absurd (omega arith)
turn_stop f i (suc m) number place h e d =
    turn_stop_step f i m number place (dec_lt i m) (λ q. turn_stop f i m number place q e d) h e d

pub turn_on : (f : ℕ → Verdict) (i : ℕ) (v : Verdict) → v ≡ Accepted → v ≡ f i → in_turn f i ≡ Accepted → in_turn f (i + 1) ≡ Accepted
turn_on f i v t e h = turn_more f i h (sym e ∙ t)

pub turn_out : (f : ℕ → Verdict) (i m : ℕ) (v : Verdict) (number place : ℕ) → v ≡ Refused number place → v ≡ f i → in_turn f i ≡ Accepted → i < m → v ≡ in_turn f m
turn_out f i m v number place t e h l = t ∙ sym (turn_stop f i m number place l h (sym e ∙ t))

pub turn_done : (f : ℕ → Verdict) (i m : ℕ) → in_turn f i ≡ Accepted → i ≤ m → m ≤ i → Accepted ≡ in_turn f m
turn_done f i m h p q = let same : i ≡ m = omega arith in subst (λ (k : ℕ). Accepted ≡ in_turn f k) same (sym h)

-- accepted exactly where each is
pub turn_all : (f : ℕ → Verdict) (n : ℕ) → ((i : ℕ) → i < n → f i ≡ Accepted) → in_turn f n ≡ Accepted
unfolding in_turn
turn_all f zero h = refl
turn_all f (suc n) h = then_ok (in_turn f n) (f n) (turn_all f n (λ i l. h i (omega arith))) ∙ h n (omega arith)

turn_each_step : (f : ℕ → Verdict) (n i : ℕ) → Dec (i < n) → (i < n → f i ≡ Accepted) → f n ≡ Accepted → i < suc n → f i ≡ Accepted
turn_each_step f n i (yes q) ih e l = ih q
turn_each_step f n i (no q) ih e l = let same : i ≡ n = omega arith in ap f same ∙ e

pub turn_each : (f : ℕ → Verdict) (n : ℕ) → in_turn f n ≡ Accepted → (i : ℕ) → i < n → f i ≡ Accepted
unfolding in_turn
turn_each f zero e i l = absurd (omega arith)
turn_each f (suc n) e i l =
    turn_each_step f n i (dec_lt i n) (λ q. turn_each f n (then_first (in_turn f n) (f n) e) i q) (then_second (in_turn f n) (f n) e) l

-- two turns agree where each agrees once all before it are accepted
turn_step : (f g : ℕ → Verdict) (n : ℕ) (v : Verdict) → in_turn f n ≡ v → in_turn f n ≡ in_turn g n → (in_turn f n ≡ Accepted → f n ≡ g n) → and_then (in_turn f n) (f n) ≡ and_then (in_turn g n) (g n)
unfolding and_then
turn_step f g n Accepted e p q = ap₂ and_then p (q e)
turn_step f g n (Refused number place) e p q = rw (← p, e)

pub turn_agree : (f g : ℕ → Verdict) (n : ℕ) → ((i : ℕ) → i < n → in_turn f i ≡ Accepted → f i ≡ g i) → in_turn f n ≡ in_turn g n
unfolding in_turn
turn_agree f g zero h = refl
turn_agree f g (suc n) h = turn_step f g n (in_turn f n) refl (turn_agree f g n (λ i l. h i (omega arith))) (h n (omega arith))

-- the same count gives the same answer
pub turn_count : (f : ℕ → Verdict) (m n : ℕ) (v : Verdict) → v ≡ in_turn f m → m ≡ n → v ≡ in_turn f n
turn_count f m n v e d = e ∙ ap (in_turn f) d

pub ruleset turns = (then_on, then_stop, turn_on, turn_out, turn_done)
