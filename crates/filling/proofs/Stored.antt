-- What the proofs of the stores cite: records stored in turn are their bytes together.
use mathlib.Core.Path.{◌≡◌, refl, ap, ◌∙◌}
use mathlib.Core.Bool.{Bool, true, false}
use mathlib.Core.List.{List, [], ◌∷◌, ◌++◌}
use Prim.Native.Nat.{ℕ, suc, ◌+◌, ◌*◌, ◌≤◌, ◌<◌}
use native.Mathlib.Nat.{zero-mul, suc-mul, mul-le-mul}
use native.Mathlib.Numerals.{add-one}
use native.Mathlib.Omega.{arith}
use lib.Dec.{eqb}
use lib.ListN.{length, get_or}
use borrow.Author.Tests.{eq-eqb, ne_eqb}
use Rattle.rules.specs.declared.Network.{Network}
use Rattle.rules.specs.Basics.{flat}
use Rattle.rules.specs.Limits.{home_records, row_length, row_weights, link_place, home_place, row_place, file_length}
use Rattle.rules.specs.File.{bytes2, header_bytes, end_a, end_b, link_weight}
use Rattle.rules.specs.Isolation.{class_by}
use Rattle.rules.specs.Building.{on_normal}
use Rattle.rules.proofs.Ground.Rows.{length_flat}
use Rattle.slices.specs.Stores.{put}
use Rattle.slices.proofs.Stores.{length_put, put_then, Storing, storing_done, storing_more}
use Rattle.layout.proofs.Places.{links_end, link_inside}
use Rattle.layout.specs.Records.{link_record, home_record, home_of, row_head}
use Rattle.filling.specs.Filled.{LinksIn, link_copy, weight_in, filled_bytes, filled_row, filled_file}

-- ---- links

pub link_room : (s d e : List ℕ) (m l : ℕ) → Storing d e (link_place 0) (link_copy s) l m → link_place m ≤ length d → l < m → link_place (l + 1) ≤ length e
link_room s d e m l S h g = rw S.long (link_inside d l l m h g refl)

pub link_copied : (s d e e' : List ℕ) (l m a b w : ℕ) → Storing d e (link_place 0) (link_copy s) l m → l < m → a ≡ end_a s l → b ≡ end_b s l → w ≡ link_weight s l
    → e' ≡ put e (link_place l) (link_record a b w) → Storing d e' (link_place 0) (link_copy s) (l + 1) m
unfolding link_place link_copy link_record bytes2
link_copied s d e e' l m a b w S g ea eb ew q = storing_more d e e' 8 (link_copy s) l m (8 + 6 * l) 6 _ S g (λ i _. refl) (omega arith) (rw (ea, eb, ew)) q

-- ---- rows

pub links_long : (s : List ℕ) (m n : ℕ) → LinksIn s m n → link_place m ≤ length s
links_long s m n E = E.long

pub place_inside : (s homes : List ℕ) (m l : ℕ) → LinksIn s m (length homes) → l < m → link_place (l + 1) ≤ length s
place_inside s homes m l E h = link_inside s l l m E.long h refl

pub a_below : (s homes : List ℕ) (m l : ℕ) → LinksIn s m (length homes) → l < m → end_a s l < length homes
a_below s homes m l E h = E.a_below l h

pub b_below : (s homes : List ℕ) (m l : ℕ) → LinksIn s m (length homes) → l < m → end_b s l < length homes
b_below s homes m l E h = E.b_below l h

pub weight_a : (s homes : List ℕ) (i l a x : ℕ) → a ≡ end_a s l → x ≡ get_or homes a 0 → x ≡ i → 0 ≡ weight_in s homes i l
unfolding weight_in on_normal class_by
weight_a s homes i l a x ea ex e = rw (← ea, ← ex, eq-eqb x i e) (none (eqb (get_or homes (end_b s l) 0) i))
  where
    none : (t : Bool) → 0 ≡ on_normal (class_by true t) (link_weight s l)
    none true = refl
    none false = refl

pub weight_b : (s homes : List ℕ) (i l b x : ℕ) → b ≡ end_b s l → x ≡ get_or homes b 0 → x ≡ i → 0 ≡ weight_in s homes i l
unfolding weight_in on_normal class_by
weight_b s homes i l b x eb ex e = rw (← eb, ← ex, eq-eqb x i e) (none (eqb (get_or homes (end_a s l) 0) i))
  where
    none : (t : Bool) → 0 ≡ on_normal (class_by t true) (link_weight s l)
    none true = refl
    none false = refl

pub weight_normal : (s homes : List ℕ) (i l a b w : ℕ) → a ≡ end_a s l → b ≡ end_b s l → (get_or homes a 0 ≡ i → ⊥) → (get_or homes b 0 ≡ i → ⊥) → w ≡ link_weight s l
    → w ≡ weight_in s homes i l
unfolding weight_in class_by on_normal
weight_normal s homes i l a b w ea eb ne nf ew = ew ∙ rw (← ea, ne_eqb (get_or homes a 0) i ne, ← eb, ne_eqb (get_or homes b 0) i nf)

pub weight_inside : (s homes d e : List ℕ) (base i m l : ℕ) → Storing d e base (filled_bytes s homes i) l m → base + 2 * m ≤ length d → l < m → base + 2 * l + 1 < length e
weight_inside s homes d e base i m l S h g = let k = S.long in omega arith

pub weight_filled : (s homes d e e' : List ℕ) (base i m l w : ℕ) → Storing d e base (filled_bytes s homes i) l m → l < m → w ≡ weight_in s homes i l
    → e' ≡ put e (base + 2 * l) (bytes2 w) → Storing d e' base (filled_bytes s homes i) (l + 1) m
unfolding filled_bytes bytes2
weight_filled s homes d e e' base i m l w S g ew q =
    storing_more d e e' base (filled_bytes s homes i) l m (base + 2 * l) 2 _ S g (λ y _. refl) (omega arith) (ap bytes2 ew) q

pub head_room : (d e : List ℕ) (h : Network) (at i : ℕ) → e ≡ put d at (row_head i) → at + row_length h ≤ length d → at + 3 + 2 * h.m ≤ length e
unfolding row_length row_weights
head_room d e h at i p l = let k = ap length p ∙ length_put d at (row_head i) in omega arith

pub row_filled : (s homes d e e' : List ℕ) (m at i j : ℕ) → i ≡ j + 1 → e ≡ put d at (row_head i) → e' ≡ put e (at + 3) (flat (filled_bytes s homes i) m) → e' ≡ put d at (filled_row s homes m j)
unfolding filled_row row_head
row_filled s homes d e e' m at i j ei p q =
    put_then d e e' at (at + 3) (0x42 ∷ 0x57 ∷ i ∷ []) (flat (filled_bytes s homes i) m) p q refl
    ∙ ap (λ (x : ℕ). put d at (0x42 ∷ 0x57 ∷ x ∷ flat (filled_bytes s homes x) m)) (ei ∙ add-one j)

filled_long : (s homes : List ℕ) (h : Network) (j : ℕ) → length (filled_row s homes h.m j) ≡ row_length h
unfolding filled_row row_head row_length row_weights filled_bytes bytes2
filled_long s homes h j = let e = length_flat (filled_bytes s homes (suc j)) 2 h.m (λ x l. refl) in omega arith

pub rows_filled : (s homes d e e' : List ℕ) (h : Network) (j k at : ℕ) → Storing d e (row_place h 0) (filled_row s homes h.m) j k → j < k → at ≡ row_place h j
    → e' ≡ put e at (filled_row s homes h.m j) → Storing d e' (row_place h 0) (filled_row s homes h.m) (j + 1) k
unfolding row_place
rows_filled s homes d e e' h j k at S g ep q =
    storing_more d e e' _ (filled_row s homes h.m) j k at (row_length h) _ S g (λ i _. filled_long s homes h i) (ep ∙ rw zero-mul (omega arith)) refl q

row_before : (h : Network) (j k : ℕ) → j < k → row_place h j + row_length h ≤ row_place h k
unfolding row_place
row_before h j k l = let p : suc j * row_length h ≤ k * row_length h = mul-le-mul {n₁ = suc j} {n₂ = k} l (omega arith) in let q = suc-mul j (row_length h) in omega arith

pub row_room : (s homes d e : List ℕ) (h : Network) (j k at : ℕ) → Storing d e (row_place h 0) (filled_row s homes h.m) j k → row_place h k ≤ length d → j < k → at ≡ row_place h j
    → at + row_length h ≤ length e
row_room s homes d e h j k at S room l p = let q = row_before h j k l in let g = S.long in omega arith

-- ---- the whole file

pub links_room : (d e : List ℕ) (h : Network) → file_length h ≤ length d → length e ≡ length d → link_place h.m ≤ length e
links_room d e h l q = let k = links_end h in omega arith

pub file_filled : (s homes d e f g r : List ℕ) (h : Network) (n : ℕ) → e ≡ put d 0 (header_bytes h) → f ≡ put e (link_place 0) (flat (link_copy s) h.m) → n ≡ home_records h
    → g ≡ put f (home_place h 0) (flat (home_of homes) n) → r ≡ put g (row_place h 0) (flat (filled_row s homes h.m) h.k) → r ≡ put d 0 (filled_file s homes h)
unfolding filled_file link_place home_place row_place link_copy link_record home_of home_record header_bytes bytes2
file_filled s homes d e f g r h n p q en t u =
    let L = flat (link_copy s) h.m in
    let H = flat (home_of homes) (home_records h) in
    let R = flat (filled_row s homes h.m) h.k in
    let a = length_flat (link_copy s) 6 h.m (λ x l. refl) in
    let b = length_flat (home_of homes) 4 (home_records h) (λ x l. refl) in
    let t' : g ≡ put f (8 + 6 * h.m + 4 * 0) H = t ∙ ap (λ (x : ℕ). put f (8 + 6 * h.m + 4 * 0) (flat (home_of homes) x)) en in
    let hr = put_then f g r (8 + 6 * h.m + 4 * 0) _ H R t' u (rw zero-mul (omega arith)) in
    let lhr = put_then e f r 8 _ L (H ++ R) q hr (omega arith) in
    put_then d e r 0 8 (header_bytes h) (L ++ (H ++ R)) p lhr refl

pub ruleset fills = (link_inside, link_room, link_copied, links_long, place_inside, a_below, b_below, weight_a, weight_b, weight_normal, weight_inside, weight_filled, head_room, row_filled, rows_filled, row_room, links_room, file_filled, storing_done)
