-- Walks: one after another, back, by another test, and the first hop.
use mathlib.Core.Path.{◌≡◌, refl}
use mathlib.Core.Bool.{Bool, true, false}
use Prim.Native.Nat.{ℕ}
use lib.Dec.{eqb}
use borrow.Author.Tests.{eqb-true, eqb-false}
use Rattle.rules.specs.Sets.{Walk, stay, go}

module _ (E : ℕ → ℕ → Bool) where
  pub join : (u w z : ℕ) → Walk E u w → Walk E w z → Walk E u z
  join u w z p stay = p
  join u w z p (go {w = y} q e) = go (join u w y p q) e

  pub turn : ((u w : ℕ) → E u w ≡ true → E w u ≡ true) → (u w : ℕ) → Walk E u w → Walk E w u
  turn back u w stay = stay
  turn back u w (go {w = y} q e) = join w y u (go stay (back y w e)) (turn back u y q)

  -- a walk that ends elsewhere leaves its first node
  pub leaves : (u w : ℕ) → Walk E u w → (w ≡ u → ⊥) → (x : ℕ) × (x ≡ u → ⊥) × (E u x ≡ true)
  leaves u w stay ne = absurd (ne refl)
  leaves u w (go {w = y} q e) ne = pick (leaves u y q) (eqb y u) refl
    where
      pick : ((y ≡ u → ⊥) → (x : ℕ) × (x ≡ u → ⊥) × (E u x ≡ true)) → (t : Bool) → eqb y u ≡ t → (x : ℕ) × (x ≡ u → ⊥) × (E u x ≡ true)
      pick r true s = (w, ne, rw (eqb-true y u s) at e)
      pick r false s = r (eqb-false y u s)

pub walk_map : (E F : ℕ → ℕ → Bool) → ((u w : ℕ) → E u w ≡ true → F u w ≡ true) → (u w : ℕ) → Walk E u w → Walk F u w
walk_map E F f u w stay = stay
walk_map E F f u w (go {w = y} q e) = go (walk_map E F f u y q) (f y w e)
