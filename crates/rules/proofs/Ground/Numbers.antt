-- Laws of all, any, count, lowest and least over the numbers below n.
use Rattle.std.specs.Prelude.{if◌then◌else◌}
use mathlib.Core.Path.{◌≡◌, refl, sym, ap, ap₂, ◌∙◌}
use mathlib.Core.Bool.{Bool, true, false, ◌&&◌, ◌||◌, true≢false, false≢true}
use mathlib.Core.Logic.{◌⊎◌, inl, inr}
use Prim.Native.Nat.{ℕ, zero, suc, ◌+◌, ◌≤◌, ◌<◌, min}
use native.Mathlib.Omega.{arith}
use lib.Dec.{eqb, leb}
use borrow.Author.Tests.{eqb-true, eqb-false, eq-eqb, ne_eqb, leb-true, leb-false}
use Rattle.rules.specs.Basics.{all, any, count, lowest, least}
use Rattle.rules.specs.Sets.{Two}
use Rattle.rules.proofs.Ground.Choices.{and_of, and_left, and_right, or_left, or_right, or_cases, clash, false_of, if_yes, if_no}

-- ---- all, any

pub all_at : (p : ℕ → Bool) (n : ℕ) → all p n ≡ true → (x : ℕ) → x < n → p x ≡ true
unfolding all
all_at p zero e x l = absurd (omega arith)
all_at p (suc n) e x l = go (all_at p n (and_left (all p n) (p n) e) x) (eqb x n) refl
  where
    go : (x < n → p x ≡ true) → (t : Bool) → eqb x n ≡ t → p x ≡ true
    go r true q = rw (eqb-true x n q) (and_right (all p n) (p n) e)
    go r false q = let ne = eqb-false x n q in r (omega arith)

pub all_of : (p : ℕ → Bool) (n : ℕ) → ((x : ℕ) → x < n → p x ≡ true) → all p n ≡ true
unfolding all
all_of p zero h = refl
all_of p (suc n) h = and_of (all p n) (p n) (all_of p n (λ x l. h x (omega arith))) (h n (omega arith))

pub any_at : (p : ℕ → Bool) (n : ℕ) → any p n ≡ true → (x : ℕ) × (x < n) × (p x ≡ true)
unfolding any
any_at p zero e = absurd (false≢true e)
any_at p (suc n) e = go (any_at p n) (or_cases (any p n) (p n) e)
  where
    go : (any p n ≡ true → (x : ℕ) × (x < n) × (p x ≡ true)) → (any p n ≡ true) ⊎ (p n ≡ true) → (x : ℕ) × (x < suc n) × (p x ≡ true)
    go r (inl q) = let s = r q in let l = s.1 in (s.0, omega arith, s.2)
    go r (inr q) = (n, omega arith, q)

pub any_of : (p : ℕ → Bool) (n x : ℕ) → x < n → p x ≡ true → any p n ≡ true
unfolding any
any_of p zero x l e = absurd (omega arith)
any_of p (suc n) x l e = go (λ h. any_of p n x h e) (eqb x n) refl
  where
    go : (x < n → any p n ≡ true) → (t : Bool) → eqb x n ≡ t → (any p n || p n) ≡ true
    go r true q = or_right (any p n) (p n) (rw (← eqb-true x n q) e)
    go r false q = let ne = eqb-false x n q in or_left (any p n) (p n) (r (omega arith))

-- the same test gives the same answer
pub all_ext : (p q : ℕ → Bool) (n : ℕ) → ((x : ℕ) → x < n → p x ≡ q x) → all p n ≡ all q n
unfolding all
all_ext p q zero h = refl
all_ext p q (suc n) h = ap₂ ◌&&◌ (all_ext p q n (λ x l. h x (omega arith))) (h n (omega arith))

pub any_ext : (p q : ℕ → Bool) (n : ℕ) → ((x : ℕ) → x < n → p x ≡ q x) → any p n ≡ any q n
unfolding any
any_ext p q zero h = refl
any_ext p q (suc n) h = ap₂ ◌||◌ (any_ext p q n (λ x l. h x (omega arith))) (h n (omega arith))

-- ---- count

abbrev pub bit : Bool → ℕ
bit true = 1
bit false = 0

if_bit : (t : Bool) → (if t then 1 else 0) ≡ bit t
if_bit true = refl
if_bit false = refl

pub count_none : (p : ℕ → Bool) → count p 0 ≡ 0
unfolding count
count_none p = refl

pub count_more : (p : ℕ → Bool) (n : ℕ) → count p (suc n) ≡ bit (p n) + count p n
unfolding count
count_more p n = ap (λ (x : ℕ). x + count p n) (if_bit (p n))

bit_le : (a b : Bool) → (a ≡ true → b ≡ true) → bit a ≤ bit b
bit_le true true h = omega arith
bit_le true false h = absurd (false≢true (h refl))
bit_le false b h = omega arith

pub count_le : (p q : ℕ → Bool) (n : ℕ) → ((x : ℕ) → x < n → p x ≡ true → q x ≡ true) → count p n ≤ count q n
count_le p q zero h = omega (arith, count_none p, count_none q)
count_le p q (suc n) h =
    omega (arith, count_more p n, count_more q n, bit_le (p n) (q n) (h n (omega arith)), count_le p q n (λ x l. h x (omega arith)))

pub count_ext : (p q : ℕ → Bool) (n : ℕ) → ((x : ℕ) → x < n → p x ≡ q x) → count p n ≡ count q n
unfolding count
count_ext p q zero h = refl
count_ext p q (suc n) h = ap₂ (λ (t : Bool) (x : ℕ). (if t then 1 else 0) + x) (h n (omega arith)) (count_ext p q n (λ x l. h x (omega arith)))

-- strictly fewer, where some number passes the second test only
pub count_lt : (p q : ℕ → Bool) (n a : ℕ) → ((x : ℕ) → x < n → p x ≡ true → q x ≡ true) → a < n → p a ≡ false → q a ≡ true → count p n < count q n
count_lt p q zero a h l e g = absurd (omega arith)
count_lt p q (suc n) a h l e g = go (λ k. count_lt p q n a (λ x lx. h x (omega arith)) k e g) (eqb a n) refl
  where
    go : (a < n → count p n < count q n) → (b : Bool) → eqb a n ≡ b → count p (suc n) < count q (suc n)
    go r true d =
        let s = eqb-true a n d in
        let e' : bit (p n) ≡ 0 = rw (← s, e) in
        let g' : bit (q n) ≡ 1 = rw (← s, g) in
        omega (arith, count_more p n, count_more q n, count_le p q n (λ x lx. h x (omega arith)))
    go r false d =
        let s = eqb-false a n d in
        omega (arith, r (omega arith), count_more p n, count_more q n, bit_le (p n) (q n) (h n (omega arith)))

pub count_all : (p : ℕ → Bool) (n : ℕ) → count p n ≤ n
count_all p zero = omega (arith, count_none p)
count_all p (suc n) = omega (arith, count_more p n, count_all p n, bit_le (p n) true (λ x. refl))

count_some : (p : ℕ → Bool) (n : ℕ) → 1 ≤ count p n → (x : ℕ) × (x < n) × (p x ≡ true)
count_some p zero h = absurd (omega (arith, count_none p))
count_some p (suc n) h = go (count_some p n) (p n) refl
  where
    go : (1 ≤ count p n → (x : ℕ) × (x < n) × (p x ≡ true)) → (b : Bool) → p n ≡ b → (x : ℕ) × (x < suc n) × (p x ≡ true)
    go r true q = (n, omega arith, q)
    go r false q =
        let z : bit (p n) ≡ 0 = rw q in
        let s = r (omega (arith, count_more p n)) in
        let l = s.1 in
        (s.0, omega arith, s.2)

-- two or more are counted exactly where two different numbers pass
pub two_of : (p : ℕ → Bool) (n : ℕ) → 2 ≤ count p n → Two p
two_of p zero h = absurd (omega (arith, count_none p))
two_of p (suc n) h = go (two_of p n) (p n) refl
  where
    go : (2 ≤ count p n → Two p) → (b : Bool) → p n ≡ b → Two p
    go r true q =
        let z : bit (p n) ≡ 1 = rw q in
        let s = count_some p n (omega (arith, count_more p n)) in
        let l = s.1 in
        record { one = n; other = s.0; apart = λ e. omega arith; one_passes = q; other_passes = s.2 }
    go r false q = let z : bit (p n) ≡ 0 = rw q in r (omega (arith, count_more p n))

-- two different numbers below n that pass
pub two_counted : (p : ℕ → Bool) (n a b : ℕ) → a < n → b < n → (a ≡ b → ⊥) → p a ≡ true → p b ≡ true → 2 ≤ count p n
two_counted p n a b la lb apart ea eb =
    let one = count_lt (λ x. false) (λ x. eqb x a) n a (λ x l e. absurd (false≢true e)) la refl (eq-eqb a a refl) in
    let two = count_lt (λ x. eqb x a) p n b (λ x l e. rw (eqb-true x a e) ea) lb (ne_eqb b a (λ z. apart (sym z))) eb in
    omega arith

pub of_two : (p : ℕ → Bool) (n : ℕ) → ((x : ℕ) → p x ≡ true → x < n) → Two p → 2 ≤ count p n
of_two p n below t =
    two_counted p n t.one t.other (below t.one t.one_passes) (below t.other t.other_passes) t.apart t.one_passes t.other_passes

-- ---- lowest

pub none_of : (p : ℕ → Bool) (n : ℕ) → any p n ≡ false → (x : ℕ) → x < n → p x ≡ false
none_of p n q x l = false_of (p x) (λ e. true≢false (sym (any_of p n x l e) ∙ q))

pub lowest_none : (p : ℕ → Bool) (n other : ℕ) → ((x : ℕ) → x < n → p x ≡ false) → lowest p n other ≡ other
unfolding lowest
lowest_none p zero other h = refl
lowest_none p (suc n) other h =
    lowest_none p n (if p n then n else other) (λ x l. h x (omega arith)) ∙ if_no (p n) n other (h n (omega arith))

pub lowest_ext : (p q : ℕ → Bool) (n other : ℕ) → ((x : ℕ) → x < n → p x ≡ q x) → lowest p n other ≡ lowest q n other
unfolding lowest
lowest_ext p q zero other h = refl
lowest_ext p q (suc n) other h =
    ap (λ (t : Bool). lowest p n (if t then n else other)) (h n (omega arith)) ∙ lowest_ext p q n (if q n then n else other) (λ x l. h x (omega arith))

-- where a number passes, the lowest is at most that one, and passes
pub lowest_found : (p : ℕ → Bool) (n other x : ℕ) → x < n → p x ≡ true → (lowest p n other ≤ x) × (p (lowest p n other) ≡ true)
unfolding lowest
lowest_found p zero other x l e = absurd (omega arith)
lowest_found p (suc n) other x l e = go (lowest_found p n (if p n then n else other)) (any p n) refl (eqb x n) refl
  where
    r : ℕ
    r = lowest p n (if p n then n else other)

    go : ((y : ℕ) → y < n → p y ≡ true → (r ≤ y) × (p r ≡ true)) → (t : Bool) → any p n ≡ t → (b : Bool) → eqb x n ≡ b → (r ≤ x) × (p r ≡ true)
    go ih t q false d = let ne = eqb-false x n d in ih x (omega arith) e
    go ih true q true d =
        let same = eqb-true x n d in
        let s = any_at p n q in
        let f = ih s.0 s.1 s.2 in
        (omega (arith, f.0, s.1), f.1)
    go ih false q true d =
        let same = eqb-true x n d in
        let pn : p n ≡ true = rw (← same) e in
        let is : r ≡ n = lowest_none p n (if p n then n else other) (none_of p n q) ∙ if_yes (p n) n other pn in
        (omega arith, rw is pn)

-- none before the lowest passes
pub lowest_before : (p : ℕ → Bool) (n other x : ℕ) → x < n → x < lowest p n other → p x ≡ false
lowest_before p n other x l h = false_of (p x) (λ e. let f = (lowest_found p n other x l e).0 in omega arith)

-- either none passes, or the lowest is one that does
pub lowest_is : (p : ℕ → Bool) (n other : ℕ) → (lowest p n other ≡ other) ⊎ ((lowest p n other < n) × (p (lowest p n other) ≡ true))
lowest_is p n other = go (any p n) refl
  where
    go : (t : Bool) → any p n ≡ t → (lowest p n other ≡ other) ⊎ ((lowest p n other < n) × (p (lowest p n other) ≡ true))
    go true q = let s = any_at p n q in let f = lowest_found p n other s.0 s.1 s.2 in inr (omega (arith, s.1, f.0), f.1)
    go false q = inl (lowest_none p n other (none_of p n q))

-- the one number below n that passes with none before it
pub lowest_one : (p : ℕ → Bool) (n other x : ℕ) → x < n → p x ≡ true → ((y : ℕ) → y < x → p y ≡ false) → lowest p n other ≡ x
lowest_one p n other x l e h = go (eqb (lowest p n other) x) refl
  where
    go : (t : Bool) → eqb (lowest p n other) x ≡ t → lowest p n other ≡ x
    go true q = eqb-true (lowest p n other) x q
    go false q =
        let ne = eqb-false (lowest p n other) x q in
        let f = lowest_found p n other x l e in
        absurd (clash (p (lowest p n other)) f.1 (h (lowest p n other) (omega (arith, f.0))))

-- ---- least

least_more : (p : ℕ → Bool) (key : ℕ → ℕ) (n other : ℕ) → ((p n ≡ true) × (least p key (suc n) other ≡ min (key n) (least p key n other))) ⊎ ((p n ≡ false) × (least p key (suc n) other ≡ least p key n other))
unfolding least
least_more p key n other = go (p n) refl
  where
    go : (t : Bool) → p n ≡ t → ((p n ≡ true) × ((if p n then min (key n) (least p key n other) else least p key n other) ≡ min (key n) (least p key n other)))
        ⊎ ((p n ≡ false) × ((if p n then min (key n) (least p key n other) else least p key n other) ≡ least p key n other))
    go true q = inl (q, if_yes (p n) _ _ q)
    go false q = inr (q, if_no (p n) _ _ q)

pub least_other : (p : ℕ → Bool) (key : ℕ → ℕ) (n other : ℕ) → least p key n other ≤ other
unfolding least
least_other p key zero other = omega arith
least_other p key (suc n) other = go (least_other p key n other) (least_more p key n other)
  where
    go : least p key n other ≤ other → ((p n ≡ true) × (least p key (suc n) other ≡ min (key n) (least p key n other))) ⊎ ((p n ≡ false) × (least p key (suc n) other ≡ least p key n other)) → least p key (suc n) other ≤ other
    go r (inl q) = omega (arith, q.1)
    go r (inr q) = omega (arith, q.1)

-- no number that passes has a lesser key
pub least_le : (p : ℕ → Bool) (key : ℕ → ℕ) (n other x : ℕ) → x < n → p x ≡ true → least p key n other ≤ key x
least_le p key zero other x l e = absurd (omega arith)
least_le p key (suc n) other x l e = go (λ h. least_le p key n other x h e) (eqb x n) refl (least_more p key n other)
  where
    go : (x < n → least p key n other ≤ key x) → (b : Bool) → eqb x n ≡ b
        → ((p n ≡ true) × (least p key (suc n) other ≡ min (key n) (least p key n other))) ⊎ ((p n ≡ false) × (least p key (suc n) other ≡ least p key n other))
        → least p key (suc n) other ≤ key x
    go r true d (inl q) = let same = eqb-true x n d in omega (arith, q.1, ap key same)
    go r true d (inr q) = absurd (clash (p n) (rw (← eqb-true x n d) e) q.0)
    go r false d (inl q) = let ne = eqb-false x n d in omega (arith, q.1, r (omega arith))
    go r false d (inr q) = let ne = eqb-false x n d in omega (arith, q.1, r (omega arith))

-- the least is `other`, or the key of a number that passes
pub least_is : (p : ℕ → Bool) (key : ℕ → ℕ) (n other : ℕ) → (least p key n other ≡ other) ⊎ ((x : ℕ) × (x < n) × (p x ≡ true) × (least p key n other ≡ key x))
unfolding least
least_is p key zero other = inl refl
least_is p key (suc n) other = go (least_is p key n other) (least_more p key n other) (leb (key n) (least p key n other)) refl
  where
    go : (least p key n other ≡ other) ⊎ ((x : ℕ) × (x < n) × (p x ≡ true) × (least p key n other ≡ key x))
        → ((p n ≡ true) × (least p key (suc n) other ≡ min (key n) (least p key n other))) ⊎ ((p n ≡ false) × (least p key (suc n) other ≡ least p key n other))
        → (t : Bool) → leb (key n) (least p key n other) ≡ t
        → (least p key (suc n) other ≡ other) ⊎ ((x : ℕ) × (x < suc n) × (p x ≡ true) × (least p key (suc n) other ≡ key x))
    go ih (inl q) true d = let h = leb-true (key n) (least p key n other) d in inr (n, omega arith, q.0, omega (arith, q.1))
    go (inl e) (inl q) false d = let h = leb-false (key n) (least p key n other) d in inl (omega (arith, q.1))
    go (inr s) (inl q) false d =
        let h = leb-false (key n) (least p key n other) d in
        inr (s.0, omega (arith, s.1), s.2, omega (arith, q.1, s.3))
    go (inl e) (inr q) false d = inl (q.1 ∙ e)
    go (inl e) (inr q) true d = inl (q.1 ∙ e)
    go (inr s) (inr q) false d = inr (s.0, omega (arith, s.1), s.2, q.1 ∙ s.3)
    go (inr s) (inr q) true d = inr (s.0, omega (arith, s.1), s.2, q.1 ∙ s.3)

pub least_ext : (p q : ℕ → Bool) (key other_key : ℕ → ℕ) (n other : ℕ) → ((x : ℕ) → x < n → p x ≡ q x) → ((x : ℕ) → x < n → key x ≡ other_key x) → least p key n other ≡ least q other_key n other
unfolding least
least_ext p q key other_key zero other h g = refl
least_ext p q key other_key (suc n) other h g =
    let r = least_ext p q key other_key n other (λ x l. h x (omega arith)) (λ x l. g x (omega arith)) in
    rw (h n (omega arith), g n (omega arith), r)
