-- What the functions' proofs cite.
use mathlib.Core.Path.{◌≡◌, refl, sym, ap, ap₂, ◌∙◌}
use mathlib.Core.Logic.{◌⊎◌, inl, inr}
use mathlib.Core.Bool.{Bool, true, false, not, ◌&&◌, ◌||◌, and-false, true≢false}
use mathlib.Core.List.{List}
use Prim.Native.Nat.{ℕ, ◌^◌, ◌<◌}
use lib.Count.{ones}
use lib.Dec.{eqb, ltb, leb}
use lib.ListN.{get_or, set}
use borrow.Author.Tests.{eqb-true, eq-eqb, ne_eqb, ltb-true, lt-ltb, not-true}
use Rattle.rules.specs.Basics.{need, all}
use Rattle.rules.specs.Sets.{Walk}
use Rattle.rules.specs.declared.Rule.{Rule}
use Rattle.rules.specs.Verdict.{number_of}
use Rattle.rules.proofs.Ground.Ruling.{broken_first, broken_then}
use Rattle.rules.proofs.Ground.Choices.{and_of, and_left, and_right, or_left, or_right, or_cases, clash, false_of}
use Rattle.rules.proofs.Ground.Numbers.{all_at, all_of, count_lt}
use Rattle.words.specs.Word.{has, only, both, either, minus, adding, removing, firsts, lowest_in}
use Rattle.words.proofs.Members.{has_none, has_both, has_either, has_minus, has_removing, has_one, has_first, has_bound, both_fits, either_fits, removing_fits, only_fits, minus_fits}
use Rattle.words.proofs.Tally.{ones_count, lowest_there}
use Rattle.topologyrules.specs.Entered.{entered}
use Rattle.topologyrules.specs.Topology.{backbone_word, normal, reached_word, connected_by, served_by, all_served, number_by}
use Rattle.topologyrules.proofs.Reached.{reached_one, reached_is}
use Rattle.topologyrules.proofs.Same.{both_low}

-- what has a node less has a one less
fewer_ones : (a b v : ℕ) → a < 2 ^ 32 → b < 2 ^ 32 → v < 32 → ((x : ℕ) → has a x ≡ true → has b x ≡ true) → has a v ≡ false → has b v ≡ true → ones a < ones b
fewer_ones a b v fa fb l h out there = rw (ones_count 32 a fa, ones_count 32 b fb) (count_lt (has a) (has b) 32 v (λ x lx e. h x e) l out there)

-- ---- joined

-- the nodes of the backbone that are not left are joined to the root, those of them that do not wait have been looked from, and where none waits one is left
pub record Growing (nb : List ℕ) (bb root left waiting : ℕ) : Type 0 where
  pub fits : left < 2 ^ 32
  pub fits_waiting : waiting < 2 ^ 32
  pub inside : (x : ℕ) → has left x ≡ true → has bb x ≡ true
  pub begun : has left root ≡ false
  pub waits : (x : ℕ) → has waiting x ≡ true → (has bb x ≡ true) × (has left x ≡ false)
  pub sound : (x : ℕ) → has bb x ≡ true → has left x ≡ false → Walk (normal nb bb) root x
  pub spread : (y x : ℕ) → has bb y ≡ true → has left y ≡ false → has waiting y ≡ false → normal nb bb y x ≡ true → has left x ≡ false
  pub one : left ≡ 0 → waiting ≡ 0 → ⊥

pub root_low : (nb : List ℕ) (bb root : ℕ) → bb < 2 ^ 32 → has bb root ≡ true → root < 32
root_low nb bb root R e = has_bound 32 bb root R e

pub grow_start : (nb : List ℕ) (bb root left waiting : ℕ) → bb < 2 ^ 32 → has bb root ≡ true → left ≡ removing bb root → waiting ≡ only root → Growing nb bb root left waiting
grow_start nb bb root left waiting R i el ew =
    record {
      fits = few;
      fits_waiting = rw ew (only_fits root low);
      inside = λ x q. and_left (has bb x) (not (eqb x root)) (sym (at x (has_bound 32 left x few q)) ∙ q);
      begun = start;
      waits = λ x q. let e = eqb-true x root (sym (at_waiting x) ∙ q) in (rw e i, rw e start);
      sound = λ x b o. rw (is_root x b o) Walk.stay;
      spread = λ y x b o w n. absurd (clash (has waiting y) (at_waiting y ∙ eq-eqb y root (is_root y b o)) w);
      one = λ e z. clash (has waiting root) (at_waiting root ∙ eq-eqb root root refl) (rw z (has_none root));
    }
  where
    low : root < 32
    low = root_low nb bb root R i

    few : left < 2 ^ 32
    few = rw el (removing_fits bb root R)

    at : (x : ℕ) → x < 32 → has left x ≡ (has bb x && not (eqb x root))
    at x l = ap (λ (w : ℕ). has w x) el ∙ has_removing bb root x low l

    at_waiting : (x : ℕ) → has waiting x ≡ eqb x root
    at_waiting x = ap (λ (w : ℕ). has w x) ew ∙ has_one root x

    start : has left root ≡ false
    start = at root low ∙ rw (i, eq-eqb root root refl)

    pick : (x : ℕ) (t : Bool) → eqb x root ≡ t → has bb x ≡ true → (has bb x && not (eqb x root)) ≡ false → x ≡ root
    pick x true e b o = eqb-true x root e
    pick x false e b o = absurd (clash (has bb x && not (eqb x root)) (rw (b, e)) o)

    is_root : (x : ℕ) → has bb x ≡ true → has left x ≡ false → x ≡ root
    is_root x b o = pick x (eqb x root) refl b (sym (at x (has_bound 32 bb x R b)) ∙ o)

module _ (nb : List ℕ) (bb root left waiting v : ℕ) (G : Growing nb bb root left waiting) (ne : waiting ≡ 0 → ⊥) (ev : v ≡ lowest_in waiting) where
  found_it : (v < 32) × (has waiting v ≡ true)
  found_it = lowest_there waiting v G.fits_waiting ne ev

  pub waiting_low : v < 32
  waiting_low = found_it.0

  not_left : has left v ≡ false
  not_left = (G.waits v found_it.1).1

  module _ (y found left' rest waiting' : ℕ) (ef : found ≡ both y left) (el : left' ≡ minus left found)
      (er : rest ≡ removing waiting v) (ew : waiting' ≡ either rest found) where
    found_fits : found < 2 ^ 32
    found_fits = rw ef (both_low y left G.fits)

    left_fits : left' < 2 ^ 32
    left_fits = rw el (minus_fits left found G.fits)

    waiting_fits : waiting' < 2 ^ 32
    waiting_fits = rw ew (either_fits rest found (rw er (removing_fits waiting v G.fits_waiting)) found_fits)

    at : (x : ℕ) → x < 32 → has left' x ≡ (has left x && not (has y x && has left x))
    at x l = ap (λ (w : ℕ). has w x) el ∙ has_minus left found x found_fits l ∙ ap (λ (t : Bool). has left x && not t) (ap (λ (w : ℕ). has w x) ef ∙ has_both y left x)

    at_waiting : (x : ℕ) → x < 32 → has waiting' x ≡ ((has waiting x && not (eqb x v)) || (has y x && has left x))
    at_waiting x l = rw (ew, er, ef) (has_either (removing waiting v) (both y left) x ∙ ap₂ ◌||◌ (has_removing waiting v x waiting_low l) (has_both y left x))

    -- what is not left stays so
    kept : (x : ℕ) → x < 32 → has left x ≡ false → has left' x ≡ false
    kept x l o = at x l ∙ rw o

    low_in : (x : ℕ) → has waiting' x ≡ true → x < 32
    low_in x q = has_bound 32 waiting' x waiting_fits q

    came : (x : ℕ) → has waiting' x ≡ true → ((has waiting x && not (eqb x v)) ≡ true) ⊎ ((has y x && has left x) ≡ true)
    came x q = or_cases (has waiting x && not (eqb x v)) (has y x && has left x) (sym (at_waiting x (low_in x q)) ∙ q)

    was_left : (x : ℕ) → has left' x ≡ true → has left x ≡ true
    was_left x q = and_left (has left x) (not (has y x && has left x)) (sym (at x (has_bound 32 left' x left_fits q)) ∙ q)

    pub grow_less : ones (either left' waiting') < ones (either left waiting)
    grow_less =
        fewer_ones (either left' waiting') (either left waiting) v (either_fits left' waiting' left_fits waiting_fits) (either_fits left waiting G.fits G.fits_waiting) waiting_low
        (λ x q. has_either left waiting x ∙ among x (or_cases (has left' x) (has waiting' x) (sym (has_either left' waiting' x) ∙ q)))
        (has_either left' waiting' v ∙ rw (kept v waiting_low not_left) (at_waiting v waiting_low ∙ rw (eq-eqb v v refl, not_left, found_it.1) (and-false (has y v))))
        (has_either left waiting v ∙ or_right (has left v) (has waiting v) found_it.1)
      where
        among : (x : ℕ) → (has left' x ≡ true) ⊎ (has waiting' x ≡ true) → (has left x || has waiting x) ≡ true
        among x (inl q) = or_left (has left x) (has waiting x) (was_left x q)
        among x (inr q) = pick (came x q)
          where
            pick : ((has waiting x && not (eqb x v)) ≡ true) ⊎ ((has y x && has left x) ≡ true) → (has left x || has waiting x) ≡ true
            pick (inl p) = or_right (has left x) (has waiting x) (and_left (has waiting x) (not (eqb x v)) p)
            pick (inr p) = or_left (has left x) (has waiting x) (and_right (has y x) (has left x) p)

    pub grow_more : y ≡ get_or nb v 0 → bb < 2 ^ 32 → has bb root ≡ true → (left ≡ 0 → ⊥) → Growing nb bb root left' waiting'
    grow_more ey R i some =
        record {
          fits = left_fits;
          fits_waiting = waiting_fits;
          inside = λ x q. G.inside x (was_left x q);
          begun = kept root (root_low nb bb root R i) G.begun;
          waits = λ x q. stands x (low_in x q) (came x q);
          sound = λ x b o. walk x b o (has left x) refl;
          spread = λ u x b o w n. onto u x b o w n (has left u) refl (eqb u v) refl;
          one = λ e z. let f = lowest_there left (lowest_in left) G.fits some refl in clash (has waiting' (lowest_in left)) (goes (lowest_in left) f.0 f.1 (rw e (has_none (lowest_in left)))) (rw z (has_none (lowest_in left)));
        }
      where
        low : (x : ℕ) → has bb x ≡ true → x < 32
        low x b = has_bound 32 bb x R b

        stands : (x : ℕ) → x < 32 → ((has waiting x && not (eqb x v)) ≡ true) ⊎ ((has y x && has left x) ≡ true) → (has bb x ≡ true) × (has left' x ≡ false)
        stands x l (inl p) = let w = G.waits x (and_left (has waiting x) (not (eqb x v)) p) in (w.0, kept x l w.1)
        stands x l (inr p) = (G.inside x (and_right (has y x) (has left x) p), at x l ∙ rw (p, and_right (has y x) (has left x) p))

        -- what left has lost is a neighbour of v
        lost : (x : ℕ) → x < 32 → has left x ≡ true → has left' x ≡ false → has y x ≡ true
        lost x l q o = go (has y x) refl
          where
            go : (t : Bool) → has y x ≡ t → has y x ≡ true
            go true e = e
            go false e = absurd (clash (has left' x) (at x l ∙ rw (q, e)) o)

        -- and waits
        goes : (x : ℕ) → x < 32 → has left x ≡ true → has left' x ≡ false → has waiting' x ≡ true
        goes x l q o = at_waiting x l ∙ or_right (has waiting x && not (eqb x v)) (has y x && has left x) (and_of (has y x) (has left x) (lost x l q o) q)

        walk : (x : ℕ) → has bb x ≡ true → has left' x ≡ false → (t : Bool) → has left x ≡ t → Walk (normal nb bb) root x
        walk x b o false q = G.sound x b q
        walk x b o true q =
            let w = G.waits v found_it.1 in
            Walk.go (G.sound v w.0 w.1)
            (and_of (has bb v) (has bb x && has (get_or nb v 0) x) w.0 (and_of (has bb x) (has (get_or nb v 0) x) b (rw (← ey) (lost x (low x b) q o))))

        far : (u x : ℕ) → normal nb bb u x ≡ true → has bb x && has (get_or nb u 0) x ≡ true
        far u x n = and_right (has bb u) (has bb x && has (get_or nb u 0) x) n

        onto : (u x : ℕ) → has bb u ≡ true → has left' u ≡ false → has waiting' u ≡ false → normal nb bb u x ≡ true → (s : Bool) → has left u ≡ s → (t : Bool) → eqb u v ≡ t → has left' x ≡ false
        onto u x b o w n true q t e = absurd (clash (has waiting' u) (goes u (low u b) q o) w)
        onto u x b o w n false q true e =
            let f : has bb x && has (get_or nb v 0) x ≡ true = rw (← eqb-true u v e) (far u x n) in
            let z : has y x ≡ true = rw ey (and_right (has bb x) (has (get_or nb v 0) x) f) in
            at x (low x (and_left (has bb x) (has (get_or nb v 0) x) f)) ∙ gone (has left x) (has y x) z
          where
            gone : (p r : Bool) → r ≡ true → (p && not (r && p)) ≡ false
            gone true true z = refl
            gone false true z = refl
            gone p false z = absurd (true≢false (sym z))
        onto u x b o w n false q false e =
            kept x (low x (and_left (has bb x) (has (get_or nb u 0) x) (far u x n))) (G.spread u x b q (still (has waiting u) refl) n)
          where
            still : (t : Bool) → has waiting u ≡ t → has waiting u ≡ false
            still false p = p
            still true p = absurd (clash (has waiting' u) (at_waiting u (low u b) ∙ rw (p, e)) w)

module _ (nb : List ℕ) (bb root left waiting : ℕ) (G : Growing nb bb root left waiting) (R : bb < 2 ^ 32) (i : has bb root ≡ true) where
  -- the word is the whole backbone
  pub grow_whole : left ≡ 0 → true ≡ eqb (reached_word nb bb root) bb
  grow_whole z =
      sym (eq-eqb (reached_word nb bb root) bb
      (reached_one nb bb root (reached_word nb bb root) bb (reached_is nb bb root R i)
      (record { fits = R; begun = i; sound = λ x e. G.sound x e (rw z (has_none x)); closed = λ y x p n. and_left (has bb x) (has (get_or nb y 0) x) (and_right (has bb y) (has bb x && has (get_or nb y 0) x) n) })))

  -- the word grows no longer
  pub grow_done : waiting ≡ 0 → false ≡ eqb (reached_word nb bb root) bb
  grow_done z = sym (ne_eqb (reached_word nb bb root) bb short)
    where
      at : (x : ℕ) → x < 32 → has (minus bb left) x ≡ (has bb x && not (has left x))
      at x l = has_minus bb left x G.fits l

      there : (x : ℕ) → has bb x ≡ true → has left x ≡ false → has (minus bb left) x ≡ true
      there x b o = at x (has_bound 32 bb x R b) ∙ rw (b, o)

      of : (x : ℕ) → has (minus bb left) x ≡ true → (has bb x ≡ true) × (has left x ≡ false)
      of x q =
          let p = sym (at x (has_bound 32 (minus bb left) x (minus_fits bb left R) q)) ∙ q in
          (and_left (has bb x) (not (has left x)) p, not-true (has left x) (and_right (has bb x) (not (has left x)) p))

      onward : (y x : ℕ) → (has bb y ≡ true) × (has left y ≡ false) → normal nb bb y x ≡ true → has (minus bb left) x ≡ true
      onward y x p n =
          there x (and_left (has bb x) (has (get_or nb y 0) x) (and_right (has bb y) (has bb x && has (get_or nb y 0) x) n))
          (G.spread y x p.0 p.1 (rw z (has_none y)) n)

      reached_part : reached_word nb bb root ≡ minus bb left
      reached_part =
          reached_one nb bb root (reached_word nb bb root) (minus bb left) (reached_is nb bb root R i)
          (record { fits = minus_fits bb left R; begun = there root i G.begun; sound = λ x q. let p = of x q in G.sound x p.0 p.1; closed = λ y x q n. onward y x (of y q) n })

      -- a node that is left is in the backbone and not reached
      short : reached_word nb bb root ≡ bb → ⊥
      short e =
          let f = lowest_there left (lowest_in left) G.fits (λ o. G.one o z) refl in
          clash (has left (lowest_in left)) f.1 (of (lowest_in left) (ap (λ (w : ℕ). has w (lowest_in left)) (sym reached_part ∙ e) ∙ G.inside (lowest_in left) f.1)).1

-- ---- connected
pub part_empty : (nb : List ℕ) (bb : ℕ) → bb ≡ 0 → false ≡ connected_by nb bb
unfolding connected_by
part_empty nb bb e = rw e

pub root_in : (bb r : ℕ) → bb < 2 ^ 32 → (bb ≡ 0 → ⊥) → r ≡ lowest_in bb → has bb r ≡ true
root_in bb r R ne e = (lowest_there bb r R ne e).1

pub part_full : (nb : List ℕ) (bb r : ℕ) (t : Bool) → (bb ≡ 0 → ⊥) → r ≡ lowest_in bb → t ≡ eqb (reached_word nb bb r) bb → t ≡ connected_by nb bb
unfolding connected_by
part_full nb bb r t ne er et = et ∙ rw (ne_eqb bb 0 ne, er)

-- ---- served, all_served

-- each isolated node below n that is not left has its two links
pub record Serving (nb : List ℕ) (iso bb n left : ℕ) : Type 0 where
  pub fits : left < 2 ^ 32
  pub inside : (x : ℕ) → has left x ≡ true → (has iso x ≡ true) × (x < n)
  pub enough : (x : ℕ) → x < n → has iso x ≡ true → has left x ≡ false → leb 2 (ones (both (get_or nb x 0) bb)) ≡ true

pub serve_start : (nb : List ℕ) (iso bb n f left : ℕ) → iso < 2 ^ 32 → f ≡ firsts n → left ≡ both iso f → Serving nb iso bb n left
serve_start nb iso bb n f left R ef el =
    record {
      fits = rw el (both_fits iso f R);
      inside = λ x q. let p = sym (at x) ∙ q in (and_left (has iso x) (ltb x n) p, ltb-true x n (and_right (has iso x) (ltb x n) p));
      enough = λ x l i o. absurd (clash (has left x) (at x ∙ and_of (has iso x) (ltb x n) i (lt-ltb x n l)) o);
    }
  where
    at : (x : ℕ) → has left x ≡ (has iso x && ltb x n)
    at x = rw (el, ef) (has_both iso (firsts n) x ∙ ap (λ (t : Bool). has iso x && t) (has_first n x))

pub served_at : (nb : List ℕ) (bb v y near c : ℕ) → y ≡ get_or nb v 0 → near ≡ both y bb → c ≡ ones near → leb 2 c ≡ leb 2 (ones (both (get_or nb v 0) bb))
served_at nb bb v y near c ey en ec = rw (ec, en, ey)

pub served_low : (nb : List ℕ) (iso bb n left v : ℕ) → Serving nb iso bb n left → (left ≡ 0 → ⊥) → v ≡ lowest_in left → v < 32
served_low nb iso bb n left v S ne ev = (lowest_there left v S.fits ne ev).0

module _ (nb : List ℕ) (iso bb n left v : ℕ) (S : Serving nb iso bb n left) (ne : left ≡ 0 → ⊥) (ev : v ≡ lowest_in left) where
  next : (v < 32) × (has left v ≡ true)
  next = lowest_there left v S.fits ne ev

  pub serve_out : (t : Bool) → t ≡ leb 2 (ones (both (get_or nb v 0) bb)) → t ≡ false → false ≡ all_served nb iso bb n
  unfolding all_served served_by
  serve_out t e f =
      let p = S.inside v next.1 in
      sym (false_of (all (served_by nb iso bb) n)
      (λ q. clash (leb 2 (ones (both (get_or nb v 0) bb))) (or_else (has iso v) (leb 2 (ones (both (get_or nb v 0) bb))) p.0 (all_at (served_by nb iso bb) n q v p.1)) (sym e ∙ f)))
    where
      or_else : (i t : Bool) → i ≡ true → (not i || t) ≡ true → t ≡ true
      or_else true t e p = p
      or_else false t e p = absurd (true≢false (sym e))

  module _ (left' : ℕ) (el : left' ≡ removing left v) where
    at_less : (x : ℕ) → x < 32 → has left' x ≡ (has left x && not (eqb x v))
    at_less x l = ap (λ (w : ℕ). has w x) el ∙ has_removing left v x next.0 l

    fewer : left' < 2 ^ 32
    fewer = rw el (removing_fits left v S.fits)

    was : (x : ℕ) → has left' x ≡ true → has left x ≡ true
    was x q = and_left (has left x) (not (eqb x v)) (sym (at_less x (has_bound 32 left' x fewer q)) ∙ q)

    pub serve_less : ones left' < ones left
    serve_less = fewer_ones left' left v fewer S.fits next.0 was (at_less v next.0 ∙ rw (eq-eqb v v refl) (and-false (has left v))) next.1

    pub serve_more : (t : Bool) → t ≡ leb 2 (ones (both (get_or nb v 0) bb)) → t ≡ true → iso < 2 ^ 32 → Serving nb iso bb n left'
    serve_more t e f R =
        record {
          fits = fewer;
          inside = λ x q. S.inside x (was x q);
          enough = λ x l i o. each x l i o (eqb x v) refl;
        }
      where
        each : (x : ℕ) → x < n → has iso x ≡ true → has left' x ≡ false → (u : Bool) → eqb x v ≡ u → leb 2 (ones (both (get_or nb x 0) bb)) ≡ true
        each x l i o true q = rw (eqb-true x v q) (sym e ∙ f)
        each x l i o false q = S.enough x l i (out (has left x) refl)
          where
            out : (u : Bool) → has left x ≡ u → has left x ≡ false
            out false p = p
            out true p = absurd (clash (has left' x) (at_less x (has_bound 32 iso x R i) ∙ rw (p, q)) o)

pub serve_done : (nb : List ℕ) (iso bb n left : ℕ) → Serving nb iso bb n left → left ≡ 0 → true ≡ all_served nb iso bb n
unfolding all_served served_by
serve_done nb iso bb n left S z = sym (all_of (served_by nb iso bb) n (λ v l. each v l (has iso v) refl))
  where
    each : (v : ℕ) → v < n → (t : Bool) → has iso v ≡ t → (not (has iso v) || leb 2 (ones (both (get_or nb v 0) bb))) ≡ true
    each v l false i = rw i
    each v l true i = rw i (S.enough v l i (rw z (has_none v)))

-- ---- backbone, topology_rule
pub backbone_at : (n iso f r : ℕ) → f ≡ firsts n → r ≡ minus f iso → r ≡ backbone_word n iso
unfolding backbone_word
backbone_at n iso f r ef er = er ∙ rw ef

module _ (nb : List ℕ) (n iso bb : ℕ) (c : Bool) (eb : bb ≡ backbone_word n iso) (ec : c ≡ connected_by nb bb) where
  pub rule_first : (r : Rule) → number_of r ≡ need c 7 0 → number_of r ≡ number_by nb n iso
  unfolding number_by
  rule_first r e = broken_first r c 7 (need (all_served nb iso bb n) 8 0) e ∙ rw (ec, eb)

  pub rule_last : (e : Bool) (number : ℕ) → 0 ≡ need c 7 0 → e ≡ all_served nb iso bb n → number ≡ need e 8 0 → number ≡ number_by nb n iso
  unfolding number_by
  rule_last e number z ee d = d ∙ broken_then c 6 (need e 8 0) (need e 8 0) z refl ∙ rw (ee, ec, eb)

-- ---- enter
pub entered_at : (nb : List ℕ) (x y w : ℕ) → w ≡ adding (get_or nb x 0) y → set nb x w ≡ entered nb x y
unfolding entered
entered_at nb x y w e = ap (set nb x) e
