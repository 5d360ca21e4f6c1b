-- What the functions on the matrix ask of each other, and that their turns follow the definitions.
use Prim.Native.Nat.{ℕ, zero, suc, ◌+◌, ◌≤◌, ◌<◌, min}
use native.Mathlib.Numerals.{add-one}
use native.Mathlib.Omega.{arith}
use mathlib.Core.Path.{◌≡◌, refl, sym, ap, subst, ◌∙◌}
use mathlib.Core.List.{List, []}
use lib.ListN.{length, get_or, set}
use lib.Seq.{ext_get_or}
use Rattle.rules.specs.Basics.{up_to}
use Rattle.rules.specs.Distance.{far}
use Rattle.rules.proofs.Ground.Rows.{length_up_to, get_d_up_to}
use Rattle.routes.specs.Lanes.{lanes, unit_row, entry, LowRows}
use Rattle.routes.specs.Passes.{net_of, Wired, direct, direct_link, direct_links, Spot, lower_row, through, pass, passes, settled}
use Rattle.routes.proofs.Lanes.{low_falls}
use Rattle.routes.proofs.Passes.{direct_length, direct_le, through_far, through_near, through_length, through_low, units_low}

-- ---- `begin`
pub begun : (d e : List (List ℕ)) (i : ℕ) → ((v : ℕ) → v < i → get_or e v [] ≡ unit_row v) → length d ≤ i → length e ≡ length d → e ≡ up_to unit_row (length d)
begun d e i all h l =
    ext_get_or [] e (up_to unit_row (length d)) (l ∙ sym (length_up_to unit_row (length d)))
    (λ u g. all u (omega arith) ∙ sym (get_d_up_to unit_row (length d) u [] (omega arith)))

-- ---- `direct`
pub direct_is : (x y c v : ℕ) (d : List (List ℕ)) → v ≡ min (get_or (get_or d x []) y 0) c → set d x (set (get_or d x []) y v) ≡ direct x y c d
unfolding direct entry
direct_is x y c v d e = rw e

-- ---- `direct_links`
module _ (a b c : List ℕ) (l : ℕ) (d e : List (List ℕ)) (F : Wired a b c (length d)) (h : l < length c) (long : length e ≡ length d) where
  pub spot : Spot e (get_or a l 0) (get_or b l 0)
  spot = record { x_in = omega (arith, F.a_in l (omega (arith, F.c_long))); y_in = omega (arith, F.b_in l (omega (arith, F.c_long)), F.few) }

direct_low : (x y c : ℕ) (d : List (List ℕ)) → LowRows d → x < length d → LowRows (direct x y c d)
direct_low x y c d L h = low_falls d (direct x y c d) L (λ u t g. direct_le x y c u t d h)

module _ (a b c : List ℕ) (d : List (List ℕ)) (F : Wired a b c (length d)) (L : LowRows d) where
  taken : (l : ℕ) → l ≤ length a → (length (direct_links (net_of a b c) l d) ≡ length d) × LowRows (direct_links (net_of a b c) l d)
  unfolding direct_links direct_link
  taken zero h = (refl, L)
  taken (suc l) h =
      let q = taken l (omega arith) in
      let e = direct_links (net_of a b c) l d in
      let k = direct_length (get_or a l 0) (get_or b l 0) (get_or c l 0) e in
      let one = direct_low (get_or a l 0) (get_or b l 0) (get_or c l 0) e q.1 (omega (arith, F.a_in l h, q.0)) in (
        direct_length (get_or b l 0) (get_or a l 0) (get_or c l 0) _ ∙ k ∙ q.0,
        direct_low (get_or b l 0) (get_or a l 0) (get_or c l 0) _ one (omega (arith, k, q.0, F.b_in l h)),
      )

  low_all : (e : List (List ℕ)) → e ≡ direct_links (net_of a b c) (length a) d → LowRows e
  low_all e is = rw is (taken (length a) (omega arith)).1

pub links_none : (a b c : List ℕ) (d : List (List ℕ)) → d ≡ direct_links (net_of a b c) 0 d
unfolding direct_links
links_none a b c d = refl

pub links_more : (a b c : List ℕ) (l : ℕ) (d e f g : List (List ℕ)) → e ≡ direct_links (net_of a b c) l d → f ≡ direct (get_or a l 0) (get_or b l 0) (get_or c l 0) e
    → g ≡ direct (get_or b l 0) (get_or a l 0) (get_or c l 0) f → g ≡ direct_links (net_of a b c) (l + 1) d
unfolding direct_links direct_link
links_more a b c l d e f g is one two = rw (two, one, is, add-one)

pub links_done : (a b c : List ℕ) (l n : ℕ) (d e : List (List ℕ)) → Wired a b c n → e ≡ direct_links (net_of a b c) l d → l ≤ length c → length c ≤ l → e ≡ direct_links (net_of a b c) (length a) d
links_done a b c l n d e F is h g = let q : l ≡ length a = omega (arith, F.c_long) in subst (λ (k : ℕ). e ≡ direct_links (net_of a b c) k d) q is

-- ---- `lower_row`
pub lowered : (x y c : ℕ) (d : List (List ℕ)) (p : List ℕ) → p ≡ lanes c (get_or d y []) 32 (get_or d x []) → set d x p ≡ lower_row x y c d
unfolding lower_row
lowered x y c d p e = ap (set d x) e

-- ---- `through`
pub through_is : (v u c : ℕ) (d e : List (List ℕ)) → c ≡ get_or (get_or d u []) v 0 → c < far → e ≡ lower_row u v c d → e ≡ through v u d
unfolding entry
through_is v u c d e ec h is = is ∙ rw ec (sym (through_near v u d (omega arith)))

pub through_none : (v u : ℕ) (d : List (List ℕ)) → far ≤ get_or (get_or d u []) v 0 → d ≡ through v u d
unfolding entry
through_none v u d h = sym (through_far v u d h)

-- ---- `pass`
module _ (v : ℕ) (d : List (List ℕ)) where
  passed_low : (u : ℕ) → LowRows d → u ≤ length d → (length (pass v u d) ≡ length d) × LowRows (pass v u d)
  unfolding pass
  passed_low zero L h = (refl, L)
  passed_low (suc u) L h =
      let q = passed_low u L (omega arith) in
      (through_length v u (pass v u d) ∙ q.0, through_low v u (pass v u d) q.1 (omega (arith, q.0)))

  pub pass_low : (u : ℕ) (e : List (List ℕ)) → LowRows d → e ≡ pass v u d → u ≤ length d → LowRows e
  pass_low u e L is h = rw is (passed_low u L h).1

  pub pass_none : d ≡ pass v 0 d
  unfolding pass
  pass_none = refl

  pub pass_more : (u : ℕ) (e f : List (List ℕ)) → e ≡ pass v u d → f ≡ through v u e → f ≡ pass v (u + 1) d
  unfolding pass
  pass_more u e f is more = rw (more, is, add-one)

-- ---- `settle`
module _ (d : List (List ℕ)) where
  passes_kept : (v : ℕ) → LowRows d → (length (passes (length d) v d) ≡ length d) × LowRows (passes (length d) v d)
  unfolding passes
  passes_kept zero L = (refl, L)
  passes_kept (suc v) L =
      let q = passes_kept v L in
      let e = passes (length d) v d in
      let r = passed_low v e (length d) q.1 (omega (arith, q.0)) in
      (r.0 ∙ q.0, r.1)

  pub passes_low : (v : ℕ) (e : List (List ℕ)) → LowRows d → e ≡ passes (length d) v d → LowRows e
  passes_low v e L is = rw is (passes_kept v L).1

  pub passes_none : d ≡ passes (length d) 0 d
  unfolding passes
  passes_none = refl

  pub passes_more : (v : ℕ) (e f : List (List ℕ)) → e ≡ passes (length d) v d → length e ≡ length d → f ≡ pass v (length e) e → f ≡ passes (length d) (v + 1) d
  unfolding passes
  passes_more v e f is l more = rw (more, l, is, add-one)

-- ---- `distances`
pub units_wired : (a b c : List ℕ) (d e : List (List ℕ)) → Wired a b c (length d) → length e ≡ length d → Wired a b c (length e)
units_wired a b c d e F l = rw l F

pub units_are_low : (a b c : List ℕ) (d e : List (List ℕ)) → Wired a b c (length d) → e ≡ up_to unit_row (length d) → LowRows e
units_are_low a b c d e F is = rw is (units_low (length d) F.few)

pub low_linked : (a b c : List ℕ) (d e f : List (List ℕ)) → Wired a b c (length d) → e ≡ up_to unit_row (length d) → length e ≡ length d → f ≡ direct_links (net_of a b c) (length a) e → LowRows f
low_linked a b c d e f F is l more = low_all a b c e (units_wired a b c d e F l) (units_are_low a b c d e F is) f more

pub distances_made : (a b c : List ℕ) (d e f g : List (List ℕ)) → e ≡ up_to unit_row (length d) → f ≡ direct_links (net_of a b c) (length a) e → length e ≡ length d → length f ≡ length e → g ≡ passes (length f) (length f) f → g ≡ settled (net_of a b c) (length d)
unfolding settled
distances_made a b c d e f g ie ig l m ih = let n : length f ≡ length d = m ∙ l in ih ∙ rw (n, ig, ie)
