-- How many are in a word, and the lowest: the ones counted and the trailing zeros, as `count` and `lowest` of 01's definitions.
use mathlib.Core.Path.{◌≡◌, refl, sym, ap, ap₂, ◌∙◌}
use mathlib.Core.Bool.{Bool, true, false, ◌&&◌}
use Prim.Native.Nat.{ℕ, zero, suc, ◌+◌, ◌*◌, ◌/◌, ◌%◌, ◌^◌, ◌<◌}
use native.Mathlib.Nat.{pow-suc, mod-lt}
use native.Mathlib.Omega.{arith}
use lib.Dec.{eqb, ltb}
use lib.Arith.{lt-one}
use lib.Count.{ones, ones_in, ones_step, count_trailing_zeros, trailing_le, under}
use borrow.Author.Tests.{ltb-true, ltb-false, lt-ltb}
use Rattle.rules.specs.Basics.{count, lowest}
use Rattle.rules.specs.Isolation.{word}
use Rattle.rules.proofs.Ground.Numbers.{bit, count_none, count_more, count_ext, lowest_none, lowest_one}
use Rattle.words.specs.Word.{has, lowest_in}
use Rattle.words.proofs.Members.{has_none, has_ext, has_word, word_below}

-- ---- how many

count_front : (p : ℕ → Bool) (n : ℕ) → count p (suc n) ≡ bit (p 0) + count (λ x. p (suc x)) n
count_front p zero = omega (arith, count_more p 0, count_none p, count_none (λ x. p (suc x)))
count_front p (suc n) = omega (arith, count_more p (suc n), count_front p n, count_more (λ x. p (suc x)) n)

bit_digit : (x : ℕ) → x < 2 → x ≡ bit (eqb x 1)
bit_digit zero h = refl
bit_digit (suc zero) h = refl
bit_digit (suc (suc x)) h = absurd (omega arith)

none_counted : ones 0 ≡ 0
unfolding ones ones_in
none_counted = refl

pub ones_count : (k w : ℕ) → w < 2 ^ k → ones w ≡ count (has w) k
unfolding has
ones_count zero w h = rw (lt-one h) (none_counted ∙ sym (count_none (has 0)))
ones_count (suc k) w h =
    let h' : w < 2 ^ k * 2 = rw pow-suc at h in
    let r = ones_count k (w / 2) (omega arith) in
    ones_step w ∙ ap₂ (λ (x y : ℕ). x + y) (bit_digit (w % 2) (mod-lt w (omega arith))) r ∙ sym (count_front (has w) k)

-- the ones in the word of a test are the numbers that pass
pub ones_word : (p : ℕ → Bool) (n : ℕ) → ones (word p n) ≡ count p n
ones_word p n =
    ones_count n (word p n) (word_below p n)
    ∙ count_ext (has (word p n)) p n (λ v l. has_word p n v ∙ ap (λ (t : Bool). t && p v) (lt-ltb v n l))

-- ---- the lowest

trailing_none : (k w v : ℕ) → v < count_trailing_zeros k w → has w v ≡ false
unfolding count_trailing_zeros has
trailing_none zero w v h = absurd (omega arith)
trailing_none (suc k) w v h = go (w % 2) refl v h (trailing_none k (w / 2))
  where
    go : (x : ℕ) → w % 2 ≡ x → (u : ℕ) → u < under (w % 2) (count_trailing_zeros k (w / 2)) → ((z : ℕ) → z < count_trailing_zeros k (w / 2) → has (w / 2) z ≡ false) → has w u ≡ false
    go zero e zero l ih = rw e
    go zero e (suc u) l ih = let m : suc u < under 0 (count_trailing_zeros k (w / 2)) = rw e at l in ih u (omega arith)
    go (suc x) e u l ih = let m : u < under (suc x) (count_trailing_zeros k (w / 2)) = rw e at l in absurd (omega arith)

trailing_there : (k w : ℕ) → count_trailing_zeros k w < k → has w (count_trailing_zeros k w) ≡ true
unfolding count_trailing_zeros has
trailing_there zero w h = absurd (omega arith)
trailing_there (suc k) w h = go (w % 2) refl (mod-lt w (omega arith)) h (trailing_there k (w / 2))
  where
    go : (x : ℕ) → w % 2 ≡ x → x < 2 → under (w % 2) (count_trailing_zeros k (w / 2)) < suc k → (count_trailing_zeros k (w / 2) < k → has (w / 2) (count_trailing_zeros k (w / 2)) ≡ true)
        → has w (under (w % 2) (count_trailing_zeros k (w / 2))) ≡ true
    go zero e b l ih = let m : under 0 (count_trailing_zeros k (w / 2)) < suc k = rw e at l in rw e (ih (omega arith))
    go (suc zero) e b l ih = rw e (ap (λ (x : ℕ). eqb x 1) e)
    go (suc (suc x)) e b l ih = absurd (omega arith)

-- the lowest member of a word, or 32
pub lowest_in_is : (w : ℕ) → lowest_in w ≡ lowest (has w) 32 32
unfolding lowest_in
lowest_in_is w = go (ltb (count_trailing_zeros 32 w) 32) refl
  where
    go : (t : Bool) → ltb (count_trailing_zeros 32 w) 32 ≡ t → count_trailing_zeros 32 w ≡ lowest (has w) 32 32
    go true q =
        let l = ltb-true (count_trailing_zeros 32 w) 32 q in
        sym (lowest_one (has w) 32 32 (count_trailing_zeros 32 w) l (trailing_there 32 w l) (trailing_none 32 w))
    go false q =
        let l = ltb-false (count_trailing_zeros 32 w) 32 q in
        let m = trailing_le 32 w in
        let s : count_trailing_zeros 32 w ≡ 32 = omega arith in
        s ∙ sym (lowest_none (has w) 32 32 (λ v h. trailing_none 32 w v (omega arith)))

-- a word with a member: its lowest is one, and none is lower
pub lowest_there : (w r : ℕ) → w < 2 ^ 32 → (w ≡ 0 → ⊥) → r ≡ lowest_in w → (r < 32) × (has w r ≡ true)
unfolding lowest_in
lowest_there w r h ne e = go (ltb r 32) refl
  where
    go : (t : Bool) → ltb r 32 ≡ t → (r < 32) × (has w r ≡ true)
    go true q = let l = ltb-true r 32 q in (l, rw e (trailing_there 32 w (rw (← e) l)))
    go false q =
        let l = ltb-false r 32 q in
        absurd (ne (has_ext 32 w 0 h (omega arith) (λ v lv. trailing_none 32 w v (rw (← e) (omega arith)) ∙ sym (has_none v))))
