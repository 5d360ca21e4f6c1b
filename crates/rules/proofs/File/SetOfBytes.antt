-- What the set that a file's bytes hold has in its lists.
use mathlib.Core.Path.{◌≡◌, refl, ap, ap₂, ◌∙◌}
use mathlib.Core.List.{List}
use Prim.Native.Nat.{ℕ, suc, ◌+◌, ◌*◌, ◌<◌}
use lib.Dec.{eqb}
use lib.ListN.{length, get_or}
use Rattle.rules.specs.Basics.{up_to}
use Rattle.rules.specs.Limits.{home_records, row_weights}
use Rattle.rules.specs.File.{row_start, header_of, end_a, end_b, link_weight, home_topology, row_weight, set_of}
use Rattle.rules.specs.Isolation.{home, isolated, class_by, class}
use Rattle.rules.proofs.Ground.Rows.{length_up_to, get_d_up_to, length_flat, get_d_flat}
use Rattle.rules.proofs.Isolation.HomesAndRows.{isolated_by_home}

module _ (s : List ℕ) where
  pub net_held : (set_of s).net ≡ header_of s
  unfolding set_of
  net_held = refl

  pub a_held : (l : ℕ) → l < (header_of s).m → get_or (set_of s).a l 0 ≡ end_a s l
  unfolding set_of
  a_held l h = get_d_up_to (end_a s) (header_of s).m l 0 h

  pub b_held : (l : ℕ) → l < (header_of s).m → get_or (set_of s).b l 0 ≡ end_b s l
  unfolding set_of
  b_held l h = get_d_up_to (end_b s) (header_of s).m l 0 h

  pub weight_held : (l : ℕ) → l < (header_of s).m → get_or (set_of s).weights l 0 ≡ link_weight s l
  unfolding set_of
  weight_held l h = get_d_up_to (link_weight s) (header_of s).m l 0 h

  pub home_held : (v : ℕ) → v < home_records (header_of s) → home (set_of s) v ≡ home_topology s (header_of s) v
  unfolding set_of home
  home_held v h = get_d_up_to (home_topology s (header_of s)) (home_records (header_of s)) v 0 h

  pub row_held : (j x : ℕ) → j < (header_of s).k → x < row_weights (header_of s)
      → get_or (set_of s).rows (row_start (header_of s) j + x) 0 ≡ row_weight s (header_of s) j x
  unfolding set_of row_start
  row_held j x h g =
      get_d_flat (λ i. up_to (row_weight s (header_of s) i) (row_weights (header_of s))) (row_weights (header_of s)) (header_of s).k j x 0
      (λ i l. length_up_to (row_weight s (header_of s) i) (row_weights (header_of s))) h g
      ∙ get_d_up_to (row_weight s (header_of s) j) (row_weights (header_of s)) x 0 g

  -- the class of a link whose ends have home records
  pub class_held : (j l : ℕ) → l < (header_of s).m → end_a s l < home_records (header_of s) → end_b s l < home_records (header_of s)
      → class (set_of s) (suc j) l
      ≡ class_by (eqb (home_topology s (header_of s) (end_a s l)) (suc j)) (eqb (home_topology s (header_of s) (end_b s l)) (suc j))
  unfolding class
  class_held j l h p q =
      ap₂ class_by (ap (isolated (set_of s) (suc j)) (a_held l h) ∙ isolated_by_home (set_of s) j (end_a s l) ∙ ap (λ (x : ℕ). eqb x (suc j)) (home_held (end_a s l) p))
      (ap (isolated (set_of s) (suc j)) (b_held l h) ∙ isolated_by_home (set_of s) j (end_b s l) ∙ ap (λ (x : ℕ). eqb x (suc j)) (home_held (end_b s l) q))

  -- ---- how long its lists are

  pub a_long : length (set_of s).a ≡ (header_of s).m
  unfolding set_of
  a_long = length_up_to (end_a s) (header_of s).m

  pub b_long : length (set_of s).b ≡ (header_of s).m
  unfolding set_of
  b_long = length_up_to (end_b s) (header_of s).m

  pub weights_long : length (set_of s).weights ≡ (header_of s).m
  unfolding set_of
  weights_long = length_up_to (link_weight s) (header_of s).m

  pub homes_long : length (set_of s).homes ≡ home_records (header_of s)
  unfolding set_of
  homes_long = length_up_to (home_topology s (header_of s)) (home_records (header_of s))

  pub rows_long : length (set_of s).rows ≡ (header_of s).k * row_weights (header_of s)
  unfolding set_of
  rows_long =
      length_flat (λ j. up_to (row_weight s (header_of s) j) (row_weights (header_of s))) (row_weights (header_of s)) (header_of s).k
      (λ j l. length_up_to (row_weight s (header_of s) j) (row_weights (header_of s)))
