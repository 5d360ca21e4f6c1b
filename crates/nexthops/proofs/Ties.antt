-- Laws of tie words and next hops, as the functions use them.
use Prim.Native.Nat.{ℕ, zero, suc, ◌+◌, ◌-◌, ◌*◌, ◌≤◌, ◌<◌}
use native.Mathlib.Nat.{eq-or-lt_of_le, le_of_suc-le-suc, le_refl}
use native.Mathlib.Numerals.{add-one}
use native.Mathlib.Omega.{arith}
use mathlib.Core.Path.{◌≡◌, refl, sym, ap, subst, ◌∙◌}
use mathlib.Core.Logic.{⊎_elim}
use mathlib.Core.List.{List, [], ◌++◌}
use lib.ListN.{length, get_or, set, drop, take, replicate, length-set, length-replicate, get_or-replicate}
use lib.Seq.{get_or-set_same, get_or-set_other, ext_get_or}
use lib.Dec.{eqb}
use borrow.Author.Tests.{eq-eqb, ne_eqb}
use Rattle.rules.specs.Basics.{up_to, flat}
use Rattle.rules.proofs.Ground.Choices.{if_yes, if_no}
use Rattle.rules.proofs.Ground.Rows.{length_up_to, up_to_ext, flat_ext}
use Rattle.routes.specs.Lanes.{column}
use Rattle.routes.specs.Passes.{net_of, Wired}
use Rattle.routes.proofs.Lanes.{column_at, column_long, column_set}
use Rattle.routes.proofs.Filling.{fill_more, start_more}
use Rattle.words.specs.Word.{either, lowest_in, only}
use Rattle.nexthops.specs.Ties.{tie_of, mark_lane, marked, mark, mark_both, mark_link, marks, Marked, MarkSpot, Worded, hop_of, hop_at, hops_of, tie_hop, tie_table}
use Rattle.nexthops.proofs.Lowest.{hop_is}

-- ---- `tie`
pub tie_yes : (v o bit : ℕ) → v ≡ o → bit ≡ tie_of v o bit
unfolding tie_of
tie_yes v o bit e = sym (if_yes (eqb v o) bit 0 (eq-eqb v o e))

pub tie_no : (v o bit : ℕ) → (v ≡ o → ⊥) → 0 ≡ tie_of v o bit
unfolding tie_of
tie_no v o bit ne = sym (if_no (eqb v o) bit 0 (ne_eqb v o ne))

-- ---- `mark_row`
pub mark_none : (c bit : ℕ) (p q w : List ℕ) → w ≡ marked c bit p q 0 w
unfolding marked
mark_none c bit p q w = refl

pub mark_more : (c bit t v k : ℕ) (p q w e : List ℕ) → e ≡ marked c bit p q t w → v ≡ tie_of (c + get_or q t 0) (get_or p t 0) bit → k ≡ either (get_or e t 0) v → set e t k ≡ marked c bit p q (t + 1) w
unfolding marked mark_lane
mark_more c bit t v k p q w e B ev ek = rw (ek, ev, B, add-one)

module _ (c bit : ℕ) (p q w : List ℕ) where
  marked_length : (k : ℕ) → length (marked c bit p q k w) ≡ length w
  unfolding marked mark_lane
  marked_length zero = refl
  marked_length (suc k) = length-set (marked c bit p q k w) k (either (get_or (marked c bit p q k w) k 0) (tie_of (c + get_or q k 0) (get_or p k 0) bit)) ∙ marked_length k

  marked_past : (k u : ℕ) → k ≤ u → get_or (marked c bit p q k w) u 0 ≡ get_or w u 0
  unfolding marked mark_lane
  marked_past zero u h = refl
  marked_past (suc k) u h = get_or-set_other (marked c bit p q k w) k u (either (get_or (marked c bit p q k w) k 0) (tie_of (c + get_or q k 0) (get_or p k 0) bit)) 0 (λ e. omega arith) ∙ marked_past k u (omega arith)

  marked_at : (k t : ℕ) → t < k → k ≤ length w → get_or (marked c bit p q k w) t 0 ≡ either (get_or w t 0) (tie_of (c + get_or q t 0) (get_or p t 0) bit)
  unfolding marked mark_lane
  marked_at zero t h g = absurd (omega arith)
  marked_at (suc k) t h g =
      let v = either (get_or (marked c bit p q k w) k 0) (tie_of (c + get_or q k 0) (get_or p k 0) bit) in
      ⊎_elim
      (λ (e : t ≡ k). rw e (get_or-set_same (marked c bit p q k w) k v 0 (omega (arith, marked_length k)) ∙ rw (marked_past k k (le_refl k))))
      (λ (f : t < k). get_or-set_other (marked c bit p q k w) k t v 0 (λ e. omega arith) ∙ marked_at k t f (omega arith))
      (eq-or-lt_of_le (le_of_suc-le-suc h))

-- ---- `mark`
pub one_marked : (x y c bit : ℕ) (d w : List (List ℕ)) (v : List ℕ) → v ≡ marked c bit (get_or d x []) (get_or d y []) 32 (get_or w x []) → bit ≡ only y → MarkSpot d w x y c
    → ((u : ℕ) → u < length w → length (get_or w u []) ≡ 32) → Marked d w (set w x v) (mark x y c)
unfolding mark
one_marked x y c bit d w v e eb S wide =
    let p = get_or d x [] in
    let q = get_or d y [] in
    let l : length (get_or w x []) ≡ 32 = wide x S.w_in in
    record {
      is = λ t h. column_set t x w v ∙ ap (set (column t w) x) (ap (λ (r : List ℕ). get_or r t 0) e ∙ marked_at c bit p q (get_or w x []) 32 t h (omega (arith, l)) ∙ rw (column_at t x w, column_at t x d, column_at t y d, eb));
      long = length-set w x v;
    }

-- ---- `mark_links`
module _ (a b c : List ℕ) (l : ℕ) (d v w : List (List ℕ)) (F : Wired a b c (length d)) (h : l < length c) (long : length w ≡ length d) (same : length v ≡ length w) where
  pub spot : MarkSpot d v (get_or a l 0) (get_or b l 0) (get_or c l 0)
  spot =
      let g : l < length a = omega (arith, F.c_long) in
      record { x_in = F.a_in l g; w_in = omega (arith, F.a_in l g); y_in = F.b_in l g; c_low = F.c_low l g; y_few = omega (arith, F.b_in l g, F.few) }

pub links_none : (a b c : List ℕ) (d w : List (List ℕ)) → Marked d w w (marks (net_of a b c) 0)
unfolding marks
links_none a b c d w = record { is = λ t h. refl; long = refl }

pub links_more : (a b c : List ℕ) (l : ℕ) (d w e f g : List (List ℕ)) → Marked d w e (marks (net_of a b c) l) → Marked d e f (mark (get_or a l 0) (get_or b l 0) (get_or c l 0))
    → Marked d f g (mark (get_or b l 0) (get_or a l 0) (get_or c l 0)) → Marked d w g (marks (net_of a b c) (l + 1))
unfolding marks mark_link mark_both
links_more a b c l d w e f g M N P = record { is = λ t h. P.is t h ∙ rw (N.is t h, M.is t h, add-one); long = P.long ∙ N.long ∙ M.long }

pub links_done : (a b c : List ℕ) (l n : ℕ) (d w e : List (List ℕ)) → Wired a b c n → Marked d w e (marks (net_of a b c) l) → l ≤ length c → length c ≤ l → Marked d w e (marks (net_of a b c) (length a))
links_done a b c l n d w e F M h g = let z : l ≡ length a = omega (arith, F.c_long) in subst (λ (k : ℕ). Marked d w e (marks (net_of a b c) k)) z M

-- ---- `words`
clear_column : (w : List (List ℕ)) (n t : ℕ) → ((v : ℕ) → v < n → get_or w v [] ≡ replicate 32 0) → length w ≡ n → t < 32 → column t w ≡ replicate n 0
clear_column w n t all l h =
    ext_get_or 0 (column t w) (replicate n 0) (column_long t w ∙ l ∙ sym (length-replicate {A = ℕ} n 0))
    (λ u g.
    let f : u < n = omega (arith, column_long t w) in
    column_at t u w ∙ ap (λ (r : List ℕ). get_or r t 0) (all u f) ∙ get_or-replicate 32 t 0 0 h ∙ sym (get_or-replicate n u 0 0 f))

pub worded : (a b c : List ℕ) (d w v : List (List ℕ)) (n i : ℕ) → ((u : ℕ) → u < i → get_or w u [] ≡ replicate 32 0) → n ≤ i → length w ≡ n → n ≡ length d → Marked d w v (marks (net_of a b c) (length a))
    → Worded (net_of a b c) d v (length d)
worded a b c d w v n i all g l e M =
    record { is = λ t h. M.is t h ∙ rw (clear_column w n t (λ u z. all u (omega arith)) l h, e); long = M.long ∙ l ∙ e }

-- ---- `hop`
pub hop_self : (w u t : ℕ) → u ≡ t → u ≡ hop_of w u t
unfolding hop_of
hop_self w u t e = sym (if_yes (eqb u t) u (lowest_in w) (eq-eqb u t e))

pub hop_first : (w u t s : ℕ) → (u ≡ t → ⊥) → s ≡ lowest_in w → s ≡ hop_of w u t
unfolding hop_of
hop_first w u t s ne q = q ∙ sym (if_no (eqb u t) u (lowest_in w) (ne_eqb u t ne))

-- ---- `hop_row`
pub lane_more : (w : List ℕ) (u : ℕ) (d e : List ℕ) (t v : ℕ) → e ≡ up_to (hop_at w u) t ++ drop t d → t < length d → length e ≡ length d → v ≡ hop_of (get_or w t 0) u t
    → set e t v ≡ up_to (hop_at w u) (t + 1) ++ drop (t + 1) d
unfolding hop_at
lane_more w u d e t v q h l ev = fill_more (hop_at w u) d e t v q (omega arith) l ev

-- ---- `hop_rows`
pub hops_more : (w : List (List ℕ)) (u j : ℕ) (out e y : List ℕ) → y ≡ up_to (hop_at (get_or w u []) u) j → j ≡ length w → e ≡ flat (hops_of w (length w)) u ++ drop (u * length w) out
    → take (u * length w) e ++ (y ++ drop (u * length w + length w - u * length w) (drop (u * length w) e)) ≡ flat (hops_of w (length w)) (u + 1) ++ drop ((u + 1) * length w) out
unfolding hops_of
hops_more w u j out e y ey ej q =
    let n = length w in
    start_more (hops_of w n) n u out e y (λ i. length_up_to (hop_at (get_or w i []) i) n) q (ey ∙ rw ej)

-- ---- `hop_table`
pub table_is : (a b c : List ℕ) (d w : List (List ℕ)) (out : List ℕ) → Wired a b c (length d) → Worded (net_of a b c) d w (length d) → out ≡ flat (hops_of w (length w)) (length w)
    → out ≡ tie_table (net_of a b c) d (length d)
unfolding tie_table tie_hop hops_of hop_at
table_is a b c d w out F W q =
    let G = net_of a b c in
    let n = length d in
    q ∙ rw W.long (flat_ext (hops_of w n) (λ u. up_to (tie_hop G d u) n) n (λ u hu.
    up_to_ext (hop_at (get_or w u []) u) (tie_hop G d u) n (λ t ht.
    let h : t < 32 = omega (arith, F.few) in
    rw (← column_at t u w, W.is t h) (hop_is G n u (column t d) F.few F.a_in F.b_in hu t))))
