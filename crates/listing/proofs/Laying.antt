-- Lists that are written from the front: what the loops keep.
use mathlib.Core.Path.{◌≡◌, refl, sym, ap, ap₂, ◌∙◌}
use mathlib.Core.List.{List, [], ◌∷◌, ◌++◌, append-nil}
use Prim.Native.Nat.{ℕ, suc, ◌+◌, ◌-◌, ◌*◌, ◌≤◌, ◌<◌}
use native.Mathlib.Nat.{suc-mul, mul-le-mul_right}
use native.Mathlib.Numerals.{add-one}
use native.Mathlib.Omega.{arith}
use lib.ListN.{length, take, drop, set, length-append, length-take, length-drop, drop_of_length-le}
use lib.Seq.{take_all, length-take-le}
use borrow.Author.Rules.{part_to_end}
use Rattle.std.proofs.lemmas.List.{take_more_set}
use Rattle.rules.specs.declared.Network.{Network}
use Rattle.rules.specs.Basics.{up_to, flat, laid}
use Rattle.rules.specs.Limits.{row_weights, home_records}
use Rattle.rules.specs.File.{end_a, end_b, link_weight, home_topology, row_weight}
use Rattle.rules.specs.Entries.Lists.{lists}
use Rattle.rules.proofs.Ground.Rows.{length_up_to, length_flat, length_laid, laid_on}
use Rattle.listing.specs.Fields.{row_of, lists_of}

-- ---- one list

module _ {A : Type 0} (f : ℕ → A) where
  -- one entry more
  pub front_more : (e : List A) (i : ℕ) (v : A) → take i e ≡ up_to f i → i < length e → v ≡ f i → take (i + 1) (set e i v) ≡ up_to f (i + 1)
  unfolding up_to
  front_more e i v p h q = take_more_set e i v h ∙ ap₂ (λ (l : List A) (a : A). l ++ (a ∷ [])) p q ∙ ap (up_to f) (sym (add-one i))

  -- all of them
  pub front_all : (e d : List A) (i n : ℕ) → take i e ≡ up_to f i → length e ≡ length (take n d) → n ≤ length d → i ≡ length (take n d)
      → e ++ drop n d ≡ up_to f n ++ drop n d
  front_all e d i n p q h r =
      let long : i ≡ n = r ∙ length-take-le n d h in
      ap (λ (l : List A). l ++ drop n d) (sym (take_all i e (omega (arith, q, r))) ∙ p ∙ ap (up_to f) long)

-- where what is read are the fields of the records, they stand at the front
pub front_laid : (f : ℕ → ℕ) (e d : List ℕ) (n : ℕ) → e ≡ up_to f n ++ drop n d → e ≡ laid (up_to f n) d
unfolding laid
front_laid f e d n p = p ∙ ap (λ (x : ℕ). up_to f n ++ drop x d) (sym (length_up_to f n))

-- ---- the rows one after the other

-- after j turns e is d with j rows at its front
pub record LayingRows (s : List ℕ) (h : Network) (d e : List ℕ) (k j : ℕ) : Type 0 where
  pub low : j ≤ k
  pub entries : e ≡ laid (flat (row_of s h) j) d
  pub same : length e ≡ length d
  pub room : k * row_weights h ≤ length e

pub rows_none : (s : List ℕ) (h : Network) (d : List ℕ) (k : ℕ) → k * row_weights h ≤ length d → LayingRows s h d d k 0
unfolding laid flat
rows_none s h d k r = record { low = omega arith; entries = refl; same = refl; room = r }

-- the next row has room
rows_room : {s : List ℕ} {h : Network} {d e : List ℕ} {k j : ℕ} → LayingRows s h d e k j → j < k → j * row_weights h + row_weights h ≤ length e
rows_room {h = h} {k = k} {j = j} w l =
    let q : suc j * row_weights h ≤ k * row_weights h = mul-le-mul_right (row_weights h) l in
    omega (arith, w.room, suc-mul j (row_weights h))

pub row_starts : (s : List ℕ) (h : Network) (d e : List ℕ) (k j long : ℕ) → LayingRows s h d e k j → j < k → long ≡ row_weights h → j * long ≤ length e
row_starts s h d e k j long w l q = rw q (omega (arith, rows_room w l))

pub rows_fit : (s : List ℕ) (h : Network) (d e : List ℕ) (k j long : ℕ) → LayingRows s h d e k j → j < k → long ≡ row_weights h
    → long ≤ length (take (length e - j * long) (drop (j * long) e))
rows_fit s h d e k j long w l q = rw (part_to_end, length-drop, q) (omega (arith, rows_room w l))

-- a part that ends with the list, put back into its place
back_is : (e part : List ℕ) (base : ℕ) → take base e ++ (part ++ drop (length e - base) (drop base e)) ≡ take base e ++ part
back_is e part base =
    ap (λ (l : List ℕ). take base e ++ (part ++ l)) (drop_of_length-le (drop base e) {i = length e - base} (rw length-drop (omega arith)))
    ∙ ap (λ (l : List ℕ). take base e ++ l) (append-nil part)

module _ (s : List ℕ) (h : Network) where
  rows_long : (j : ℕ) → length (flat (row_of s h) j) ≡ j * row_weights h
  unfolding row_of
  rows_long j = length_flat (row_of s h) (row_weights h) j (λ x l. length_up_to (row_weight s h x) (row_weights h))

  rows_next : (d e : List ℕ) (j base : ℕ) → e ≡ laid (flat (row_of s h) j) d → base ≡ j * row_weights h
      → take base e ++ laid (row_of s h j) (drop base e) ≡ laid (flat (row_of s h) (suc j)) d
  unfolding flat
  rows_next d e j base p q =
      rw (p, q, ← rows_long j) (laid_on (flat (row_of s h) j) (row_of s h j) d)

  pub rows_more : (d e part : List ℕ) (k j base long : ℕ) → LayingRows s h d e k j → j < k → long ≡ row_weights h → base ≡ j * long
      → part ≡ laid (up_to (row_weight s h j) long) (take (length e - base) (drop base e))
      → LayingRows s h d (take base e ++ (part ++ drop (length e - base) (drop base e))) k (j + 1)
  unfolding row_of
  rows_more d e part k j base long w l q b p =
      let at : base ≡ j * row_weights h = b ∙ ap (λ (x : ℕ). j * x) q in
      let new : part ≡ laid (row_of s h j) (drop base e) = p ∙ rw (q, part_to_end) in
      let room : base + row_weights h ≤ length e = rw at (rows_room w l) in
      let long_enough : length (row_of s h j) ≤ length (drop base e) = rw (length_up_to, length-drop) (omega arith) in
      let part_long : length part ≡ length e - base = ap length new ∙ length_laid (row_of s h j) (drop base e) long_enough ∙ length-drop base e in
      let same : length (take base e ++ part) ≡ length e = length-append (take base e) part ∙ rw (length-take, part_long) (omega arith) in
      rw back_is
      (record {
        low = omega arith;
        entries = rw (add-one, new) (rows_next d e j base w.entries at);
        same = same ∙ w.same;
        room = rw same w.room;
      })

pub rows_done : (s : List ℕ) (h : Network) (d e : List ℕ) (k j : ℕ) → LayingRows s h d e k j → k ≤ j → e ≡ laid (flat (row_of s h) k) d
rows_done s h d e k j w l = let same : j ≡ k = omega arith in w.entries ∙ ap (λ (n : ℕ). laid (flat (row_of s h) n) d) same

-- ---- all lists

pub lists_are : (s : List ℕ) (h : Network) (a b w hs rs a' b' w' hs' rs' : List ℕ) (nodes : ℕ) → nodes ≡ home_records h
    → a' ≡ laid (up_to (end_a s) h.m) a → b' ≡ laid (up_to (end_b s) h.m) b → w' ≡ laid (up_to (link_weight s) h.m) w
    → hs' ≡ laid (up_to (home_topology s h) nodes) hs → rs' ≡ laid (flat (row_of s h) h.k) rs
    → lists a' b' w' hs' rs' ≡ lists_of s h (lists a b w hs rs)
unfolding lists_of
lists_are s h a b w hs rs a' b' w' hs' rs' nodes n ea eb ew eh er = rw (ea, eb, ew, eh, er, n)

pub ruleset rows_in_turn = (row_starts, rows_fit, rows_more, rows_done)
