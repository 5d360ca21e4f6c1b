-- Laws of rows by lanes and of matrices by entries, as the functions use them.
use Prim.Native.Nat.{ℕ, zero, suc, ◌+◌, ◌≤◌, ◌<◌, min, zero-le}
use native.Mathlib.Nat.{eq-or-lt_of_le, le_of_suc-le-suc, le_refl}
use native.Mathlib.Numerals.{add-one}
use native.Mathlib.Omega.{arith}
use mathlib.Core.Path.{◌≡◌, refl, sym, ap, ◌∙◌}
use mathlib.Core.Bool.{Bool, true, false}
use mathlib.Core.Logic.{◌⊎◌, inl, inr, ⊎_elim}
use mathlib.Core.List.{List, [], ◌∷◌, map}
use lib.Dec.{eqb}
use lib.ListN.{length, get_or, set, replicate, length-set, length-map, length-replicate, get_or-replicate, get_or-map}
use lib.Seq.{get_or-set_same, get_or-set_other}
use borrow.Author.Tests.{eqb-true, eqb-false}
use Rattle.rules.specs.Distance.{far}
use Rattle.rules.proofs.Ground.Rows.{past}
use Rattle.routes.specs.Lanes.{lane, lanes, LowRow, unit_row, column, entry, LowRows}

pub same? : (m n : ℕ) → (m ≡ n) ⊎ (m ≡ n → ⊥)
same? m n = go (eqb m n) refl
  where
    go : (b : Bool) → eqb m n ≡ b → (m ≡ n) ⊎ (m ≡ n → ⊥)
    go true e = inl (eqb-true m n e)
    go false e = inr (eqb-false m n e)

pub in_or_out : (m n : ℕ) → (m < n) ⊎ (n ≤ m)
in_or_out m zero = inr zero-le
in_or_out zero (suc n) = inl (omega arith)
in_or_out (suc m) (suc n) = ⊎_elim (λ (h : m < n). inl (omega arith)) (λ (h : n ≤ m). inr (omega arith)) (in_or_out m n)

-- ---- `lower_lanes`
pub lanes_none : (c : ℕ) (q p : List ℕ) → p ≡ lanes c q 0 p
unfolding lanes
lanes_none c q p = refl

pub lanes_more : (c t new : ℕ) (q p e : List ℕ) → e ≡ lanes c q t p → new ≡ min (get_or e t 0) (c + get_or q t 0) → set e t new ≡ lanes c q (t + 1) p
unfolding lanes lane
lanes_more c t new q p e is en = rw (en, is, add-one)

pub sum_low : (c t : ℕ) (q : List ℕ) → LowRow q → t < 32 → c < far → c + get_or q t 0 < 2147483648
sum_low c t q L g h = omega (arith, L.low t g)

-- ---- lanes of a row
-- a lane that may only fall: past the end it is 0, and stays so
pub lane_set : (t v : ℕ) (p : List ℕ) → get_or (set p t (min (get_or p t 0) v)) t 0 ≡ min (get_or p t 0) v
lane_set t v p =
    let w = min (get_or p t 0) v in
    ⊎_elim (λ (h : t < length p). get_or-set_same p t w 0 h)
    (λ (h : length p ≤ t).
    let beyond : length (set p t w) ≤ t = omega (arith, length-set p t w) in
    omega (arith, past p t h, past (set p t w) t beyond))
    (in_or_out t (length p))

lane_other : (c t u : ℕ) (q p : List ℕ) → (u ≡ t → ⊥) → get_or (lane c q t p) u 0 ≡ get_or p u 0
unfolding lane
lane_other c t u q p ne = get_or-set_other p t u (min (get_or p t 0) (c + get_or q t 0)) 0 ne

lanes_past : (c k u : ℕ) (q p : List ℕ) → k ≤ u → get_or (lanes c q k p) u 0 ≡ get_or p u 0
unfolding lanes
lanes_past c zero u q p h = refl
lanes_past c (suc k) u q p h = lane_other c k u q (lanes c q k p) (λ e. omega arith) ∙ lanes_past c k u q p (omega arith)

pub lanes_at : (c k t : ℕ) (q p : List ℕ) → t < k → get_or (lanes c q k p) t 0 ≡ min (get_or p t 0) (c + get_or q t 0)
unfolding lanes lane
lanes_at c zero t q p h = absurd (omega arith)
lanes_at c (suc k) t q p h =
    ⊎_elim (λ (e : t ≡ k). rw e (lane_set k (c + get_or q k 0) (lanes c q k p) ∙ rw (lanes_past c k k q p (le_refl k))))
    (λ (g : t < k). lane_other c k t q (lanes c q k p) (λ e. omega arith) ∙ lanes_at c k t q p g)
    (eq-or-lt_of_le (le_of_suc-le-suc h))

pub old_low : (c t : ℕ) (q p e : List ℕ) → e ≡ lanes c q t p → LowRow p → t < 32 → get_or e t 0 < 2147483648
old_low c t q p e is L h = rw (is, lanes_past c t t q p (le_refl t)) (omega (arith, L.low t h))

-- ---- `unit`
pub unit_is : (u : ℕ) → set (replicate 32 far) u 0 ≡ unit_row u
unfolding unit_row
unit_is u = refl

pub unit_at : (u t : ℕ) → u < 32 → t < 32 → ((u ≡ t) × (get_or (unit_row u) t 0 ≡ 0)) ⊎ (get_or (unit_row u) t 0 ≡ far)
unfolding unit_row
unit_at u t h g =
    ⊎_elim (λ (e : t ≡ u). inl (sym e, rw e (get_or-set_same (replicate 32 far) u 0 0 (omega (arith, length-replicate 32 far)))))
    (λ (ne : t ≡ u → ⊥). inr (get_or-set_other (replicate 32 far) u t 0 0 ne ∙ get_or-replicate 32 t far 0 g))
    (same? t u)

pub unit_own : (u : ℕ) → u < 32 → get_or (unit_row u) u 0 ≡ 0
unfolding unit_row
unit_own u h = get_or-set_same (replicate 32 far) u 0 0 (omega (arith, length-replicate 32 far))

pub unit_low : (u : ℕ) → u < 32 → LowRow (unit_row u)
unit_low u h =
    record { low = λ t g. ⊎_elim (λ (e : (u ≡ t) × (get_or (unit_row u) t 0 ≡ 0)). omega (arith, e.1)) (λ (e : get_or (unit_row u) t 0 ≡ far). omega arith) (unit_at u t h g) }

pub nothing_low : LowRow []
nothing_low = record { low = λ t h. zero-le }

-- ---- entries of a matrix
pub column_at : (t u : ℕ) (d : List (List ℕ)) → get_or (column t d) u 0 ≡ get_or (get_or d u []) t 0
unfolding column
column_at t u d = get_or-map (λ (r : List ℕ). get_or r t 0) d u []

pub column_long : (t : ℕ) (d : List (List ℕ)) → length (column t d) ≡ length d
unfolding column
column_long t d = length-map d (λ (r : List ℕ). get_or r t 0)

map_set : (f : List ℕ → ℕ) (d : List (List ℕ)) (x : ℕ) (r : List ℕ) → map f (set d x r) ≡ set (map f d) x (f r)
map_set f [] x r = refl
map_set f (y ∷ d) zero r = refl
map_set f (y ∷ d) (suc x) r = ap (λ (z : List ℕ). f y ∷ z) (map_set f d x r)

pub column_set : (t x : ℕ) (d : List (List ℕ)) (r : List ℕ) → column t (set d x r) ≡ set (column t d) x (get_or r t 0)
unfolding column
column_set t x d r = map_set (λ (s : List ℕ). get_or s t 0) d x r

pub low_row : (d : List (List ℕ)) (y : ℕ) → LowRows d → LowRow (get_or d y [])
low_row d y L = L.low y

pub row_here : (d : List (List ℕ)) (x t : ℕ) (r : List ℕ) → x < length d → entry (set d x r) x t ≡ get_or r t 0
unfolding entry
row_here d x t r h = ap (λ (p : List ℕ). get_or p t 0) (get_or-set_same d x r [] h)

pub row_other : (d : List (List ℕ)) (x u t : ℕ) (r : List ℕ) → (u ≡ x → ⊥) → entry (set d x r) u t ≡ entry d u t
unfolding entry
row_other d x u t r ne = ap (λ (p : List ℕ). get_or p t 0) (get_or-set_other d x u r [] ne)

-- where no entry rises a low matrix stays low
pub low_falls : (d e : List (List ℕ)) → LowRows d → ((u t : ℕ) → t < 32 → entry e u t ≤ entry d u t) → LowRows e
unfolding entry
low_falls d e L f = record { low = λ u. record { low = λ t h. let a = f u t h in let b = (L.low u).low t h in omega arith } }
