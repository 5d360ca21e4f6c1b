-- Laws of the row in force and of the cost row, as the functions use them.
use Prim.Native.Nat.{ℕ, suc, ◌+◌, ◌-◌, ◌*◌, ◌<◌}
use native.Mathlib.Omega.{arith}
use mathlib.Core.Path.{◌≡◌, sym, ap}
use mathlib.Core.List.{List, ◌++◌}
use lib.ListN.{length, get_or, set, take, drop}
use borrow.Author.Tests.{eq-eqb, ne_eqb}
use Rattle.rules.specs.Basics.{up_to}
use Rattle.rules.specs.Isolation.{class_by}
use Rattle.rules.specs.Distance.{far}
use Rattle.routes.specs.Costs.{cost_by, row_of, HoldsRow, cost_of, cost_at}
use Rattle.routes.proofs.Filling.{fill_more}

-- ---- `row_in_force`

module _ (weights rows : List ℕ) (m i : ℕ) (H : HoldsRow weights rows m i) where
  pub row_links : i ≡ 0 → take m weights ≡ row_of weights rows m i
  unfolding row_of
  row_links e = rw e

  pub row_backup : (i ≡ 0 → ⊥) → take ((i - 1) * m + m - (i - 1) * m) (drop ((i - 1) * m) rows) ≡ row_of weights rows m i
  unfolding row_of
  row_backup ne =
      let e : i ≡ suc (i - 1) = omega arith in
      let w : (i - 1) * m + m - (i - 1) * m ≡ m = omega arith in
      rw w (ap (row_of weights rows m) (sym e))

-- ---- `cost_of`, `fill_costs`

module _ (p q i w r : ℕ) where
  pub cost_isolated : p ≡ i → q ≡ i → far ≡ cost_of p q i w r
  unfolding cost_of cost_by class_by
  cost_isolated e f = rw (eq-eqb p i e, eq-eqb q i f)

  pub cost_left : p ≡ i → (q ≡ i → ⊥) → r ≡ cost_of p q i w r
  unfolding cost_of cost_by class_by
  cost_left e f = rw (eq-eqb p i e, ne_eqb q i f)

  pub cost_right : (p ≡ i → ⊥) → q ≡ i → r ≡ cost_of p q i w r
  unfolding cost_of cost_by class_by
  cost_right e f = rw (ne_eqb p i e, eq-eqb q i f)

  pub cost_normal : (p ≡ i → ⊥) → (q ≡ i → ⊥) → w ≡ cost_of p q i w r
  unfolding cost_of cost_by class_by
  cost_normal e f = rw (ne_eqb p i e, ne_eqb q i f)

pub costs_more : (a b homes row : List ℕ) (i r : ℕ) (d e : List ℕ) (l v : ℕ) → e ≡ up_to (cost_at a b homes row i r) l ++ drop l d → l < length d → length e ≡ length d
    → v ≡ cost_of (get_or homes (get_or a l 0) 0) (get_or homes (get_or b l 0) 0) i (get_or row l 0) r → set e l v ≡ up_to (cost_at a b homes row i r) (l + 1) ++ drop (l + 1) d
unfolding cost_at
costs_more a b homes row i r d e l v q h g k = fill_more (cost_at a b homes row i r) d e l v q (omega arith) g k
