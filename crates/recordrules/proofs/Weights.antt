-- A weight by its link's class.
use mathlib.Core.Path.{◌≡◌, refl, ◌∙◌}
use mathlib.Core.Bool.{Bool, true, false}
use mathlib.Core.Logic.{◌⊎◌, inl, inr}
use Prim.Native.Nat.{ℕ, ◌<◌}
use native.Mathlib.Omega.{arith}
use lib.Dec.{eqb, leb}
use borrow.Author.Tests.{eq-eqb, ne_eqb}
use Rattle.rules.specs.Basics.{need}
use Rattle.rules.specs.Isolation.{class_by, weight_fits}
use Rattle.rules.proofs.Ground.Choices.{need_le}
use Rattle.recordrules.specs.Rules.{weight_rule}

-- a weight by its class: an end isolated, the other end isolated, a normal link
module _ (wmax i p q w x : ℕ) where
  pub weight_first : p ≡ i → x ≡ need (eqb w 0) 5 0 → x ≡ weight_rule wmax i p q w
  unfolding weight_rule class_by weight_fits
  weight_first e d = go (eqb q i) refl
    where
      go : (t : Bool) → eqb q i ≡ t → x ≡ need (weight_fits (class_by (eqb p i) (eqb q i)) wmax w) 5 0
      go true g = rw (eq-eqb p i e, g) d
      go false g = rw (eq-eqb p i e, g) d

  pub weight_second : (p ≡ i → ⊥) → q ≡ i → x ≡ need (eqb w 0) 5 0 → x ≡ weight_rule wmax i p q w
  unfolding weight_rule class_by weight_fits
  weight_second n e d = rw (ne_eqb p i n, eq-eqb q i e) d

  pub weight_normal : (p ≡ i → ⊥) → (q ≡ i → ⊥) → x ≡ need (leb 1 w) 5 (need (leb w wmax) 5 0) → x ≡ weight_rule wmax i p q w
  unfolding weight_rule class_by weight_fits need
  weight_normal n k d = go (leb 1 w) refl
    where
      go : (t : Bool) → leb 1 w ≡ t → x ≡ need (weight_fits (class_by (eqb p i) (eqb q i)) wmax w) 5 0
      go true g = rw (ne_eqb p i n, ne_eqb q i k, g) (d ∙ rw g)
      go false g = rw (ne_eqb p i n, ne_eqb q i k, g) (d ∙ rw g)

  -- an end isolated, one or the other
  pub weight_isolated : (p ≡ i) ⊎ ((p ≡ i → ⊥) × (q ≡ i)) → x ≡ need (eqb w 0) 5 0 → x ≡ weight_rule wmax i p q w
  weight_isolated (inl e) d = weight_first e d
  weight_isolated (inr e) d = weight_second e.0 e.1 d

pub ruleset by_class = (weight_isolated, weight_normal)
