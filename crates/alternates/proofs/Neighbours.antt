-- Laws of alternates, as the functions use them.
use Prim.Native.Nat.{ℕ, ◌+◌, ◌≤◌, ◌<◌, min}
use native.Mathlib.Numerals.{add-one}
use lib.Bits.{or_zero_r}
use Rattle.std.proofs.lemmas.List.{set-get_or}
use native.Mathlib.Omega.{arith}
use mathlib.Core.Path.{◌≡◌, refl, sym, ap, ◌∙◌}
use mathlib.Core.Bool.{Bool, true, false, ◌&&◌, ◌||◌}
use mathlib.Core.Logic.{⊎_elim}
use mathlib.Core.List.{List, []}
use lib.ListN.{length, get_or, set, replicate, length-set}
use lib.Seq.{get_or-set_same, get_or-set_other}
use lib.Dec.{eqb}
use borrow.Author.Tests.{eq-eqb, ne_eqb}
use Rattle.rules.specs.Basics.{least}
use Rattle.rules.specs.Distance.{far}
use Rattle.rules.proofs.Ground.Choices.{if_yes, if_no}
use Rattle.routes.proofs.Lanes.{same?, column_at}
use Rattle.words.specs.Word.{either, lowest_in, only}
use Rattle.alternates.specs.Alternates.{noted, noted_link, outlets_by, eligible, least_of, near_bit, near_word, alternate_by, alternate_of, RowBy, RowOf, RowsTo}

-- ---- `outlets`
pub outlets_none : (a b homes : List ℕ) (u : ℕ) → replicate 32 false ≡ outlets_by a b homes u 0
unfolding outlets_by
outlets_none a b homes u = refl

module _ (a b homes : List ℕ) (u l : ℕ) (near e : List Bool) (N : near ≡ outlets_by a b homes u l) where
  x : ℕ
  x = get_or a l 0

  y : ℕ
  y = get_or b l 0

  one : List Bool
  one = set near y (get_or near y false || eqb x u)

  pub outlets_more : (get_or homes (get_or a l 0) 0 ≡ get_or homes (get_or b l 0) 0 → ⊥)
      → e ≡ set (set near (get_or b l 0) (get_or near (get_or b l 0) false || eqb (get_or a l 0) u)) (get_or a l 0) (get_or (set near (get_or b l 0) (get_or near (get_or b l 0) false || eqb (get_or a l 0) u)) (get_or a l 0) false || eqb (get_or b l 0) u)
      → e ≡ outlets_by a b homes u (l + 1)
  unfolding outlets_by noted_link noted x y one
  outlets_more ne h =
      h ∙ rw (add-one, ← N) (sym (if_no (eqb (get_or homes x 0) (get_or homes y 0)) near (set one x (get_or one x false || eqb y u)) (ne_eqb (get_or homes x 0) (get_or homes y 0) ne)))

  pub outlets_same : get_or homes (get_or a l 0) 0 ≡ get_or homes (get_or b l 0) 0 → e ≡ near → e ≡ outlets_by a b homes u (l + 1)
  unfolding outlets_by noted_link noted x y one
  outlets_same same h =
      h ∙ rw (add-one, ← N) (sym (if_yes (eqb (get_or homes x 0) (get_or homes y 0)) near (set one x (get_or one x false || eqb y u)) (eq-eqb (get_or homes x 0) (get_or homes y 0) same)))

-- ---- `stands_in`
pub not_itself : (near : List Bool) (v w : ℕ) → w ≡ v → false ≡ eligible near v w
unfolding eligible
not_itself near v w e = rw (eq-eqb w v e) (go (get_or near w false))
  where
    go : (b : Bool) → false ≡ (b && false)
    go true = refl
    go false = refl

pub another : (near : List Bool) (v w : ℕ) → (w ≡ v → ⊥) → get_or near w false ≡ eligible near v w
unfolding eligible
another near v w ne = rw (ne_eqb w v ne) (go (get_or near w false))
  where
    go : (b : Bool) → b ≡ (b && true)
    go true = refl
    go false = refl

-- ---- `least_distance`, `nearest`
module _ (near : List Bool) (d : List (List ℕ)) (v : ℕ) where
  pub least_none : far ≡ least_of near d v 0
  unfolding least_of least
  least_none = refl

  pub least_more : (w best s t : ℕ) (ok : Bool) → best ≡ least_of near d v w → ok ≡ eligible near v w → ok ≡ true → s ≡ min best (get_or (get_or d w []) v 0) → t ≡ s → t ≡ least_of near d v (w + 1)
  unfolding least_of least
  least_more w best s t ok B eo e es et = et ∙ es ∙ rw (add-one, sym eo ∙ e, column_at v w d, B) (omega arith)

  pub least_same : (w best t : ℕ) (ok : Bool) → best ≡ least_of near d v w → ok ≡ eligible near v w → ok ≡ false → t ≡ best → t ≡ least_of near d v (w + 1)
  unfolding least_of least
  least_same w best t ok B eo e et = et ∙ B ∙ rw (add-one, sym eo ∙ e)

  pub word_none : (best : ℕ) → 0 ≡ near_word near d v best 0
  unfolding near_word
  word_none best = refl

  pub word_more : (w best word bit s t : ℕ) (ok : Bool) → word ≡ near_word near d v best w → ok ≡ eligible near v w → ok ≡ true → get_or (get_or d w []) v 0 ≡ best → bit ≡ only w
      → s ≡ either word bit → t ≡ s → t ≡ near_word near d v best (w + 1)
  unfolding near_word near_bit
  word_more w best word bit s t ok W eo e h eb es et =
      et ∙ es ∙ rw (add-one, sym eo ∙ e, column_at v w d, eq-eqb (get_or (get_or d w []) v 0) best h, eb, W)

  pub word_far : (w best word t : ℕ) (ok : Bool) → word ≡ near_word near d v best w → ok ≡ eligible near v w → ok ≡ true → (get_or (get_or d w []) v 0 ≡ best → ⊥) → t ≡ word
      → t ≡ near_word near d v best (w + 1)
  unfolding near_word near_bit either
  word_far w best word t ok W eo e ne et =
      et ∙ W ∙ rw (add-one, sym eo ∙ e, column_at v w d, ne_eqb (get_or (get_or d w []) v 0) best ne) (sym (or_zero_r (near_word near d v best w)))

  pub word_same : (w best word t : ℕ) (ok : Bool) → word ≡ near_word near d v best w → ok ≡ eligible near v w → ok ≡ false → t ≡ word → t ≡ near_word near d v best (w + 1)
  unfolding near_word near_bit either
  word_same w best word t ok W eo e et = et ∙ W ∙ rw (add-one, sym eo ∙ e) (sym (or_zero_r (near_word near d v best w)))

  -- ---- `alternate`
  pub some_alternate : (best word s : ℕ) → get_or near v false ≡ true → best ≡ least_of near d v (length d) → word ≡ near_word near d v best (length d) → s ≡ lowest_in word
      → s ≡ alternate_by near d (length d) v
  unfolding alternate_by
  some_alternate best word s e eb ew es =
      es ∙ rw (ew, eb) (sym (if_yes (get_or near v false) (lowest_in (near_word near d v (least_of near d v (length d)) (length d))) 255 e))

  pub no_alternate : get_or near v false ≡ false → 255 ≡ alternate_by near d (length d) v
  unfolding alternate_by
  no_alternate e = sym (if_no (get_or near v false) (lowest_in (near_word near d v (least_of near d v (length d)) (length d))) 255 e)

-- ---- `row`
pub row_none : (near : List Bool) (d : List (List ℕ)) (r : List ℕ) → RowBy near d r 0
row_none near d r = record { is = λ v h. absurd (omega arith) }

pub row_more : (near : List Bool) (d : List (List ℕ)) (r : List ℕ) (v s t : ℕ) → RowBy near d r v → s ≡ t → t ≡ alternate_by near d (length d) v → v < length d → length d ≤ 32 → length r ≡ 32
    → RowBy near d (set r v s) (v + 1)
row_more near d r v s t R q e h few long =
    record {
      is = λ w g.
          ⊎_elim (λ (z : w ≡ v). rw z (get_or-set_same r v s 0 (omega arith) ∙ q ∙ e))
          (λ (ne : w ≡ v → ⊥). get_or-set_other r v w s 0 ne ∙ R.is w (omega arith))
          (same? w v);
    }

-- ---- `alternates_of`
pub row_of : (a b homes : List ℕ) (d : List (List ℕ)) (u : ℕ) (near : List Bool) (r : List ℕ) → near ≡ outlets_by a b homes u (length a) → RowBy near d r (length d) → RowOf a b homes d u r
unfolding alternate_of
row_of a b homes d u near r e R = record { is = λ v h. R.is v h ∙ rw e }

-- ---- `fill`
module _ (a b homes : List ℕ) (i : ℕ) (d alts : List (List ℕ)) where
  pub nodes_none : RowsTo a b homes i d 0 alts alts
  nodes_none = record { long = refl; done = λ u h. absurd (omega arith); kept = λ u h. refl }

  -- node k, whose home is i, with its alternates
  pub nodes_more : (k : ℕ) (r : List ℕ) (e f : List (List ℕ)) → RowsTo a b homes i d k alts e → get_or homes k 0 ≡ i → k < length alts → RowOf a b homes d k r → f ≡ set e k r
      → RowsTo a b homes i d (k + 1) alts f
  nodes_more k r e f R z h A is =
      rw is (
      record {
        long = length-set e k r ∙ R.long;
        done = λ u g y.
            ⊎_elim (λ (q : u ≡ k). rw (q, get_or-set_same e k r [] (omega (arith, R.long))) A)
            (λ (ne : u ≡ k → ⊥). rw (get_or-set_other e k u r [] ne) (R.done u (omega arith) y))
            (same? u k);
        kept = λ u ne. get_or-set_other e k u r [] (λ q. ne (ap (λ (x : ℕ). get_or homes x 0) q ∙ z)) ∙ R.kept u ne;
      })

  -- node k, whose home is another
  pub nodes_past : (k : ℕ) (e f : List (List ℕ)) → RowsTo a b homes i d k alts e → (get_or homes k 0 ≡ i → ⊥) → f ≡ set e k (get_or e k []) → RowsTo a b homes i d (k + 1) alts f
  nodes_past k e f R ne is =
      rw (is ∙ set-get_or e k []) (
      record {
        long = R.long;
        done = λ u g y.
            ⊎_elim (λ (q : u ≡ k). absurd (ne (rw q at y)))
            (λ (other : u ≡ k → ⊥). R.done u (omega arith) y)
            (same? u k);
        kept = R.kept;
      })

  pub nodes_done : (k : ℕ) (e : List (List ℕ)) → RowsTo a b homes i d k alts e → length alts ≤ k → length alts ≡ length d → RowsTo a b homes i d (length d) alts e
  nodes_done k e R h l = record { long = R.long; done = λ u g. R.done u (omega arith); kept = R.kept }
