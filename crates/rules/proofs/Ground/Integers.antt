-- The difference of two counts, as an integer.
use mathlib.Core.Path.{◌≡◌, refl, sym, ap, subst, ◌∙◌}
use mathlib.Core.Bool.{Bool, true, false, cond}
use Prim.Native.Nat.{ℕ, zero, suc, ◌+◌, ◌-◌, ◌≤◌, ◌<◌}
use native.Mathlib.Omega.{arith}
use lib.Dec.{ltb, le→leb, lt→ltb}
use lib.IntN.{ℤ, pos, negsuc, neg_ℤ, ◌-ℤ◌}
use lib.Signed.{◌≤ℤ◌, ◌<ℤ◌}
use borrow.Author.Tests.{lt-ltb, le-ltb, ltb-true, ltb-false}

pub minus_fewer : (a b : ℕ) → a < b → pos a -ℤ pos b ≡ negsuc (b - a - 1)
minus_fewer a zero h = absurd (omega arith)
minus_fewer a (suc b) h = ap (λ (c : Bool). cond c (negsuc (suc b - suc a)) (pos (a - suc b))) (lt-ltb a (suc b) h) ∙ ap negsuc (omega arith)

pub minus_more : (a b : ℕ) → b ≤ a → pos a -ℤ pos b ≡ pos (a - b)
minus_more a zero h = ap pos (omega arith)
minus_more a (suc b) h = ap (λ (c : Bool). cond c (negsuc (suc b - suc a)) (pos (a - suc b))) (le-ltb a (suc b) h)

-- what holds of every difference, by which of the two is the larger
pub by_larger : (P : ℤ → Type 0) (a b : ℕ) → (a < b → P (negsuc (b - a - 1))) → (b ≤ a → P (pos (a - b))) → P (pos a -ℤ pos b)
by_larger P a b fewer more = go (ltb a b) refl
  where
    go : (c : Bool) → ltb a b ≡ c → P (pos a -ℤ pos b)
    go true e = let h = ltb-true a b e in subst P (sym (minus_fewer a b h)) (fewer h)
    go false e = let h = ltb-false a b e in subst P (sym (minus_more a b h)) (more h)

-- ---- its bounds

pub minus_most : (a b c : ℕ) → a ≤ b + c → (pos a -ℤ pos b) ≤ℤ pos c
minus_most a b c h =
    by_larger (λ z. z ≤ℤ pos c) a b (λ l. record { le = tt }) (λ l. record { le = le→leb (a - b) c (omega arith) })

pub minus_least : (a b c : ℕ) → b ≤ a + c → neg_ℤ (pos c) ≤ℤ (pos a -ℤ pos b)
minus_least a b zero h =
    by_larger (λ z. pos zero ≤ℤ z) a b (λ l. absurd (omega arith)) (λ l. record { le = le→leb 0 (a - b) (omega arith) })
minus_least a b (suc c) h =
    by_larger (λ z. negsuc c ≤ℤ z) a b (λ l. record { le = le→leb (b - a - 1) c (omega arith) }) (λ l. record { le = tt })

pub minus_above : (a b : ℕ) → b < a → pos 0 <ℤ (pos a -ℤ pos b)
minus_above a b h =
    by_larger (λ z. pos 0 <ℤ z) a b (λ l. absurd (omega arith)) (λ l. record { lt = lt→ltb 0 (a - b) (omega arith) })
