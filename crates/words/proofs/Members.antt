-- Who is in each word of `Word`, and in the word of a test; a word is its members.
use Rattle.std.specs.Prelude.{if◌then◌else◌}
use mathlib.Core.Path.{◌≡◌, refl, sym, ap, ap₂, ◌∙◌}
use mathlib.Core.Bool.{Bool, true, false, ◌&&◌, ◌||◌, not, and-true, and-false, or-true, or-false, true≢false, false≢true}
use Prim.Native.Nat.{ℕ, zero, suc, ◌+◌, ◌-◌, ◌*◌, ◌/◌, ◌%◌, ◌^◌, ◌≤◌, ◌<◌}
use native.Mathlib.Nat.{zero-add, suc-add, pow-suc, mod-lt}
use native.Mathlib.Numerals.{one-add}
use native.Mathlib.Omega.{arith}
use lib.Dec.{eqb, ltb, leb-zero, leb-suc-zero, leb-suc-suc, eqb-zero-suc, eqb-suc-zero, eqb-suc-suc}
use lib.Arith.{lt-one}
use lib.Pow.{pow_pos, shr-shr, pow-lt, pow_mono}
use lib.Bits.{bit_and, bit_or, and_shr, or_shr, and_mod, or_mod, or_lt, and_le_l}
use borrow.Author.Tests.{eqb-true, eqb-false, ltb-true, lt-ltb, le-ltb}
use Rattle.rules.specs.Isolation.{word}
use Rattle.rules.proofs.Ground.Choices.{if_yes, if_no}
use Rattle.words.specs.Word.{has, both, either, minus, only, adding, removing, firsts, put}

two_pos : 0 < 2
two_pos = omega arith

-- ---- digits
and_digit : (x y : ℕ) → x < 2 → y < 2 → eqb (bit_and x y) 1 ≡ (eqb x 1 && eqb y 1)
and_digit zero y p q = refl
and_digit (suc zero) zero p q = refl
and_digit (suc zero) (suc zero) p q = refl
and_digit (suc zero) (suc (suc y)) p q = absurd (omega arith)
and_digit (suc (suc x)) y p q = absurd (omega arith)

or_digit : (x y : ℕ) → x < 2 → y < 2 → eqb (bit_or x y) 1 ≡ (eqb x 1 || eqb y 1)
or_digit zero y p q = refl
or_digit (suc zero) zero p q = refl
or_digit (suc zero) (suc zero) p q = refl
or_digit (suc zero) (suc (suc y)) p q = absurd (omega arith)
or_digit (suc (suc x)) y p q = absurd (omega arith)

not_digit : (x : ℕ) → x < 2 → eqb (1 - x) 1 ≡ not (eqb x 1)
not_digit zero p = refl
not_digit (suc zero) p = refl
not_digit (suc (suc x)) p = absurd (omega arith)

same_digit : (x y : ℕ) → x < 2 → y < 2 → eqb x 1 ≡ eqb y 1 → x ≡ y
same_digit zero zero p q e = refl
same_digit zero (suc zero) p q e = absurd (false≢true e)
same_digit zero (suc (suc y)) p q e = absurd (omega arith)
same_digit (suc zero) zero p q e = absurd (true≢false e)
same_digit (suc zero) (suc zero) p q e = refl
same_digit (suc zero) (suc (suc y)) p q e = absurd (omega arith)
same_digit (suc (suc x)) y p q e = absurd (omega arith)

-- ---- the operations
pub has_none : (v : ℕ) → has 0 v ≡ false
unfolding has
has_none zero = refl
has_none (suc v) = has_none v

has_and : (a b v : ℕ) → has (bit_and a b) v ≡ (has a v && has b v)
unfolding has
has_and a b zero = ap (λ (x : ℕ). eqb x 1) (and_mod a b 1) ∙ and_digit (a % 2) (b % 2) (mod-lt a two_pos) (mod-lt b two_pos)
has_and a b (suc v) = ap (λ (x : ℕ). has x v) (and_shr a b 1) ∙ has_and (a / 2) (b / 2) v

has_or : (a b v : ℕ) → has (bit_or a b) v ≡ (has a v || has b v)
unfolding has
has_or a b zero = ap (λ (x : ℕ). eqb x 1) (or_mod a b 1) ∙ or_digit (a % 2) (b % 2) (mod-lt a two_pos) (mod-lt b two_pos)
has_or a b (suc v) = ap (λ (x : ℕ). has x v) (or_shr a b 1) ∙ has_or (a / 2) (b / 2) v

flip_half : (p w : ℕ) → w < p * 2 → (p * 2 - 1 - w) / 2 ≡ p - 1 - w / 2
flip_half p w h = omega arith

flip_digit : (p w : ℕ) → w < p * 2 → (p * 2 - 1 - w) % 2 ≡ 1 - w % 2
flip_digit p w h = omega arith

pub has_flip : (k w v : ℕ) → w < 2 ^ k → v < k → has (2 ^ k - 1 - w) v ≡ not (has w v)
unfolding has
has_flip zero w v h l = absurd (omega arith)
has_flip (suc k) w zero h l =
    let h' : w < 2 ^ k * 2 = rw pow-suc at h in
    rw (pow-suc, flip_digit (2 ^ k) w h') (not_digit (w % 2) (mod-lt w two_pos))
has_flip (suc k) w (suc v) h l =
    let h' : w < 2 ^ k * 2 = rw pow-suc at h in
    rw (pow-suc, flip_half (2 ^ k) w h') (has_flip k (w / 2) v (omega arith) (omega arith))

pub has_only : (u v : ℕ) → has (2 ^ u) v ≡ eqb v u
unfolding has
has_only zero zero = refl
has_only zero (suc v) = has_none v ∙ sym (eqb-suc-zero v)
has_only (suc u) zero = rw (pow-suc, eqb-zero-suc) (ap (λ (x : ℕ). eqb x 1) (twice (2 ^ u)))
  where
    twice : (p : ℕ) → p * 2 % 2 ≡ 0
    twice p = omega arith
has_only (suc u) (suc v) = rw (pow-suc, eqb-suc-suc) (ap (λ (x : ℕ). has x v) (half (2 ^ u)) ∙ has_only u v)
  where
    half : (p : ℕ) → p * 2 / 2 ≡ p
    half p = omega arith

pub has_firsts : (n v : ℕ) → has (2 ^ n - 1) v ≡ ltb v n
unfolding has
has_firsts zero v = has_none v ∙ sym (leb-suc-zero v)
has_firsts (suc n) zero = rw pow-suc (ap (λ (x : ℕ). eqb x 1) (last (2 ^ n) (pow_pos n)) ∙ sym (leb-suc-suc 0 n ∙ leb-zero n))
  where
    last : (p : ℕ) → 0 < p → (p * 2 - 1) % 2 ≡ 1
    last p h = omega arith
has_firsts (suc n) (suc v) = rw pow-suc (ap (λ (x : ℕ). has x v) (half (2 ^ n)) ∙ has_firsts n v ∙ sym (leb-suc-suc (suc v) n))
  where
    half : (p : ℕ) → (p * 2 - 1) / 2 ≡ p - 1
    half p = omega arith

pub has_shift : (k w v : ℕ) → has (w / 2 ^ k) v ≡ has w (k + v)
unfolding has
has_shift zero w v = rw zero-add (ap (λ (x : ℕ). has x v) (whole w))
  where
    whole : (x : ℕ) → x / 1 ≡ x
    whole x = omega arith
has_shift (suc k) w v = rw suc-add (ap (λ (x : ℕ). has x v) (sym (shr-shr w 1 k ∙ ap (λ (j : ℕ). w / 2 ^ j) (one-add k))) ∙ has_shift k (w / 2) v)

-- ---- a word is its members
pub has_bound : (k w v : ℕ) → w < 2 ^ k → has w v ≡ true → v < k
unfolding has
has_bound zero w v h e = absurd (false≢true (sym (has_none v) ∙ ap (λ (x : ℕ). has x v) (sym (lt-one h)) ∙ e))
has_bound (suc k) w zero h e = omega arith
has_bound (suc k) w (suc v) h e =
    let h' : w < 2 ^ k * 2 = rw pow-suc at h in
    let r = has_bound k (w / 2) v (omega arith) e in
    omega arith

pub has_ext : (k a b : ℕ) → a < 2 ^ k → b < 2 ^ k → ((v : ℕ) → v < k → has a v ≡ has b v) → a ≡ b
unfolding has
has_ext zero a b p q h = lt-one p ∙ sym (lt-one q)
has_ext (suc k) a b p q h =
    let p' : a < 2 ^ k * 2 = rw pow-suc at p in
    let q' : b < 2 ^ k * 2 = rw pow-suc at q in
    let d = same_digit (a % 2) (b % 2) (mod-lt a two_pos) (mod-lt b two_pos) (h 0 (omega arith)) in
    let r = has_ext k (a / 2) (b / 2) (omega arith) (omega arith) (λ v l. h (suc v) (omega arith)) in
    omega arith

-- ---- the laws by name
pub has_both : (a b v : ℕ) → has (both a b) v ≡ (has a v && has b v)
unfolding both
has_both a b v = has_and a b v

pub has_either : (a b v : ℕ) → has (either a b) v ≡ (has a v || has b v)
unfolding either
has_either a b v = has_or a b v

pub has_minus : (a b v : ℕ) → b < 2 ^ 32 → v < 32 → has (minus a b) v ≡ (has a v && not (has b v))
unfolding minus
has_minus a b v h l = has_and a (2 ^ 32 - 1 - b) v ∙ ap (λ (x : Bool). has a v && x) (has_flip 32 b v h l)

pub has_adding : (w u v : ℕ) → has (adding w u) v ≡ (has w v || eqb v u)
unfolding adding
has_adding w u v = has_or w (2 ^ u) v ∙ ap (λ (x : Bool). has w v || x) (has_only u v)

pub has_removing : (w u v : ℕ) → u < 32 → v < 32 → has (removing w u) v ≡ (has w v && not (eqb v u))
unfolding removing
has_removing w u v h l =
    has_and w (2 ^ 32 - 1 - 2 ^ u) v ∙ ap (λ (x : Bool). has w v && x) (has_flip 32 (2 ^ u) v (pow-lt h) l ∙ ap not (has_only u v))

pub has_one : (u v : ℕ) → has (only u) v ≡ eqb v u
unfolding only
has_one u v = has_only u v

pub has_first : (n v : ℕ) → has (firsts n) v ≡ ltb v n
unfolding firsts
has_first n v = has_firsts n v

pub has_put : (b : Bool) (w u v : ℕ) → has (put b w u) v ≡ (has w v || (b && eqb v u))
unfolding put
has_put true w u v = has_adding w u v
has_put false w u v = sym (or-false (has w v))

-- ---- each stays a word
pub both_fits : (a b : ℕ) → a < 2 ^ 32 → both a b < 2 ^ 32
unfolding both
both_fits a b h = let l = and_le_l a b in omega arith

pub either_fits : (a b : ℕ) → a < 2 ^ 32 → b < 2 ^ 32 → either a b < 2 ^ 32
unfolding either
either_fits a b h g = or_lt 32 a b h g

pub minus_fits : (a b : ℕ) → a < 2 ^ 32 → minus a b < 2 ^ 32
unfolding minus
minus_fits a b h = let l = and_le_l a (2 ^ 32 - 1 - b) in omega arith

pub only_fits : (u : ℕ) → u < 32 → only u < 2 ^ 32
unfolding only
only_fits u h = pow-lt h

pub adding_fits : (w u : ℕ) → w < 2 ^ 32 → u < 32 → adding w u < 2 ^ 32
unfolding adding
adding_fits w u h l = or_lt 32 w (2 ^ u) h (pow-lt l)

pub removing_fits : (w u : ℕ) → w < 2 ^ 32 → removing w u < 2 ^ 32
unfolding removing
removing_fits w u h = let l = and_le_l w (2 ^ 32 - 1 - 2 ^ u) in omega arith

pub firsts_fits : (n : ℕ) → n ≤ 32 → firsts n < 2 ^ 32
unfolding firsts
firsts_fits n h = let p = pow_mono h in omega arith

pub put_fits : (b : Bool) (w u : ℕ) → w < 2 ^ 32 → u < 32 → put b w u < 2 ^ 32
unfolding put
put_fits true w u h l = adding_fits w u h l
put_fits false w u h l = h

-- ---- the word of a test
ltb_suc : (v n : ℕ) → ltb v (suc n) ≡ (ltb v n || eqb v n)
ltb_suc v n = go (eqb v n) refl (ltb v n) refl
  where
    go : (b : Bool) → eqb v n ≡ b → (c : Bool) → ltb v n ≡ c → ltb v (suc n) ≡ (ltb v n || eqb v n)
    go true e c f = let q = eqb-true v n e in rw (e, lt-ltb v (suc n) (omega arith)) (sym (or-true (ltb v n)))
    go false e true f = let q = ltb-true v n f in rw (e, f, lt-ltb v (suc n) (omega arith))
    go false e false f =
        let q = eqb-false v n e in
        let r = borrow.Author.Tests.ltb-false v n f in
        rw (e, f, le-ltb v (suc n) (omega arith))

has_put_at : (p : ℕ → Bool) (a t : Bool) (n v : ℕ) → eqb v n ≡ t → ((a && p v) || (p n && t)) ≡ ((a || t) && p v)
has_put_at p true true n v e = rw (eqb-true v n e) (both_true (p n))
  where
    both_true : (x : Bool) → (x || (x && true)) ≡ x
    both_true true = refl
    both_true false = refl
has_put_at p true false n v e = none (p v) (p n)
  where
    none : (x y : Bool) → (x || (y && false)) ≡ x
    none true y = refl
    none false true = refl
    none false false = refl
has_put_at p false true n v e = rw (eqb-true v n e) (and-true (p n))
has_put_at p false false n v e = and-false (p n)

-- 2 to the power n and a word below it: n comes in
has_plus : (n w v : ℕ) → w < 2 ^ n → has (2 ^ n + w) v ≡ (has w v || eqb v n)
unfolding has
has_plus zero w v h = rw (lt-one h) (has_only 0 v ∙ ap (λ (t : Bool). t || eqb v 0) (sym (has_none v)))
has_plus (suc n) w zero h = rw (pow-suc, eqb-zero-suc) (ap (λ (x : ℕ). eqb x 1) (last (2 ^ n) w) ∙ sym (or-false (eqb (w % 2) 1)))
  where
    last : (p x : ℕ) → (p * 2 + x) % 2 ≡ x % 2
    last p x = omega arith
has_plus (suc n) w (suc v) h =
    let h' : w < 2 ^ n * 2 = rw pow-suc at h in
    rw (pow-suc, eqb-suc-suc) (ap (λ (x : ℕ). has x v) (half (2 ^ n) w) ∙ has_plus n (w / 2) v (omega arith))
  where
    half : (p x : ℕ) → (p * 2 + x) / 2 ≡ p + x / 2
    half p x = omega arith

pub word_below : (p : ℕ → Bool) (n : ℕ) → word p n < 2 ^ n
unfolding word
word_below p zero = omega arith
word_below p (suc n) = go (word_below p n) (p n) refl
  where
    go : word p n < 2 ^ n → (t : Bool) → p n ≡ t → (if p n then 2 ^ n else 0) + word p n < 2 ^ suc n
    go h true e = rw (pow-suc) (omega (arith, if_yes (p n) (2 ^ n) 0 e))
    go h false e = rw (pow-suc) (omega (arith, if_no (p n) (2 ^ n) 0 e))

has_more : (t : Bool) (n w v : ℕ) → w < 2 ^ n → has ((if t then 2 ^ n else 0) + w) v ≡ (has w v || (t && eqb v n))
has_more true n w v h = has_plus n w v h
has_more false n w v h = ap (λ (x : ℕ). has x v) (zero-add w) ∙ sym (or-false (has w v))

pub has_word : (p : ℕ → Bool) (n v : ℕ) → has (word p n) v ≡ (ltb v n && p v)
unfolding word
has_word p zero v = has_none v ∙ ap (λ (x : Bool). x && p v) (sym (leb-suc-zero v))
has_word p (suc n) v =
    has_more (p n) n (word p n) v (word_below p n) ∙ rw (has_word p n v, ltb_suc v n) (has_put_at p (ltb v n) (eqb v n) n v refl)

pub word_fits : (p : ℕ → Bool) (n : ℕ) → n ≤ 32 → word p n < 2 ^ 32
word_fits p n h = let b = word_below p n in let m = pow_mono h in omega arith

-- the word of a test is the same where the test is
pub word_ext : (p q : ℕ → Bool) (n : ℕ) → ((v : ℕ) → v < n → p v ≡ q v) → word p n ≡ word q n
unfolding word
word_ext p q zero h = refl
word_ext p q (suc n) h =
    ap₂ (λ (t : Bool) (w : ℕ). (if t then 2 ^ n else 0) + w) (h n (omega arith)) (word_ext p q n (λ v l. h v (omega arith)))

pub word_none : (p : ℕ → Bool) → 0 ≡ word p 0
unfolding word
word_none p = refl

-- one test more: its number comes in where it passes
pub word_more : (p : ℕ → Bool) (n : ℕ) → n < 32 → put (p n) (word p n) n ≡ word p (suc n)
unfolding word
word_more p n l =
    has_ext 32 (put (p n) (word p n) n) (word p (suc n)) (put_fits (p n) (word p n) n (word_fits p n (omega arith)) l) (word_fits p (suc n) l)
    (λ v lv. has_put (p n) (word p n) n v ∙ sym (at v))
  where
    at : (v : ℕ) → has (word p (suc n)) v ≡ (has (word p n) v || (p n && eqb v n))
    at v = has_more (p n) n (word p n) v (word_below p n)
