-- The lowest node of a tie word is the lowest far end of the links that tie.
use Rattle.std.specs.Prelude.{if◌then◌else◌}
use Prim.Native.Nat.{ℕ, zero, suc, ◌+◌, ◌/◌, ◌%◌, ◌^◌, ◌≤◌, ◌<◌, min, max}
use native.Mathlib.Nat.{le_refl, pow-suc}
use native.Mathlib.Omega.{arith}
use mathlib.Core.Path.{◌≡◌, refl, sym, ap, ap₂, ◌∙◌}
use mathlib.Core.Bool.{Bool, true, false}
use mathlib.Core.Logic.{⊎_elim}
use mathlib.Core.List.{List}
use lib.ListN.{length, get_or, replicate, length-set, length-replicate, get_or-replicate}
use lib.Seq.{get_or-set_same, get_or-set_other}
use lib.Dec.{eqb}
use lib.Bits.{bit_or, or_step}
use lib.Count.{count_trailing_zeros, under, trailing_le, trailing_of_zero}
use borrow.Author.Tests.{eq-eqb, ne_eqb}
use Rattle.routes.specs.Passes.{Net}
use Rattle.routes.proofs.Lanes.{same?}
use Rattle.words.specs.Word.{either, lowest_in, only}
use Rattle.nexthops.specs.Ties.{tie_of, mark, mark_both, mark_link, marks, hop_of, via, tie_end, lowest_end}

or_half : (a b : ℕ) → bit_or a b / 2 ≡ bit_or (a / 2) (b / 2)
or_half a b = omega (arith, or_step a b)

or_odd : (a b : ℕ) → bit_or a b % 2 ≡ max (a % 2) (b % 2)
or_odd a b = omega (arith, or_step a b)

under_pos : (d t : ℕ) → 0 < d → under d t ≡ 0
under_pos zero t h = absurd (omega arith)
under_pos (suc d) t h = refl

under_min : (x y s t : ℕ) → under (max x y) (min s t) ≡ min (under x s) (under y t)
under_min zero zero s t = let e : suc (min s t) ≡ min (suc s) (suc t) = omega arith in e
under_min zero (suc y) s t = let e : 0 ≡ min (suc s) 0 = omega arith in under_pos (max zero (suc y)) (min s t) (omega arith) ∙ e
under_min (suc x) zero s t = let e : 0 ≡ min 0 (suc t) = omega arith in under_pos (max (suc x) zero) (min s t) (omega arith) ∙ e
under_min (suc x) (suc y) s t = let e : 0 ≡ min 0 0 = omega arith in under_pos (max (suc x) (suc y)) (min s t) (omega arith) ∙ e

trailing_or : (k a b : ℕ) → count_trailing_zeros k (bit_or a b) ≡ min (count_trailing_zeros k a) (count_trailing_zeros k b)
unfolding count_trailing_zeros
trailing_or zero a b = refl
trailing_or (suc k) a b =
    ap₂ under (or_odd a b) (ap (count_trailing_zeros k) (or_half a b) ∙ trailing_or k (a / 2) (b / 2))
    ∙ under_min (a % 2) (b % 2) (count_trailing_zeros k (a / 2)) (count_trailing_zeros k (b / 2))

trailing_bit : (k y : ℕ) → y < k → count_trailing_zeros k (2 ^ y) ≡ y
unfolding count_trailing_zeros
trailing_bit zero y h = absurd (omega arith)
trailing_bit (suc k) zero h = refl
trailing_bit (suc k) (suc y) h =
    let p = pow-suc 2 y in
    let e : 2 ^ suc y % 2 ≡ 0 = omega (arith, p) in
    let f : 2 ^ suc y / 2 ≡ 2 ^ y = omega (arith, p) in
    ap₂ under e (ap (count_trailing_zeros k) f ∙ trailing_bit k y (omega arith))

pub first_or : (a b : ℕ) → lowest_in (either a b) ≡ min (lowest_in a) (lowest_in b)
unfolding lowest_in either
first_or a b = trailing_or 32 a b

first_bit : (y : ℕ) → y < 32 → lowest_in (only y) ≡ y
unfolding lowest_in only
first_bit y h = trailing_bit 32 y h

pub first_zero : lowest_in 0 ≡ 32
unfolding lowest_in
first_zero = trailing_of_zero 32

pub first_low : (w : ℕ) → lowest_in w ≤ 32
unfolding lowest_in
first_low w = trailing_le 32 w

pub first_pick : (s : Bool) (y : ℕ) → y < 32 → lowest_in (if s then only y else 0) ≡ (if s then y else 32)
first_pick true y h = first_bit y h
first_pick false y h = first_zero

first_mark : (x y c u : ℕ) (d w : List ℕ) → x < length w → y < 32 → lowest_in (get_or (mark x y c d w) u 0) ≡ min (lowest_in (get_or w u 0)) (via x y u c d)
unfolding mark via tie_of
first_mark x y c u d w h g =
    let bit = if eqb (c + get_or d y 0) (get_or d x 0) then only y else 0 in
    let word = either (get_or w x 0) bit in
    ⊎_elim
    (λ (e : x ≡ u).
    rw (← e, eq-eqb x x refl)
    (ap lowest_in (get_or-set_same w x word 0 h) ∙ first_or (get_or w x 0) bit ∙ ap (min (lowest_in (get_or w x 0))) (first_pick (eqb (c + get_or d y 0) (get_or d x 0)) y g)))
    (λ (ne : x ≡ u → ⊥).
    rw (ne_eqb x u ne)
    (ap lowest_in (get_or-set_other w x u word 0 (λ e. ne (sym e))) ∙ omega (arith, first_low (get_or w u 0))))
    (same? x u)

mark_length : (x y c : ℕ) (d w : List ℕ) → length (mark x y c d w) ≡ length w
unfolding mark
mark_length x y c d w = length-set w x (either (get_or w x 0) (tie_of (c + get_or d y 0) (get_or d x 0) (only y)))

pub marks_length : (G : Net) (k : ℕ) (d w : List ℕ) → length (marks G k d w) ≡ length w
unfolding marks mark_link mark_both
marks_length G zero d w = refl
marks_length G (suc k) d w = mark_length (G.b k) (G.a k) (G.cost k) d (mark (G.a k) (G.b k) (G.cost k) d (marks G k d w)) ∙ mark_length (G.a k) (G.b k) (G.cost k) d (marks G k d w) ∙ marks_length G k d w

module _ (G : Net) (n u : ℕ) (d : List ℕ) (few : n ≤ 32) (a_in : (l : ℕ) → l < G.links → G.a l < n) (b_in : (l : ℕ) → l < G.links → G.b l < n) (u_in : u < n) where
  marks_first : (k : ℕ) → k ≤ G.links → lowest_in (get_or (marks G k d (replicate n 0)) u 0) ≡ lowest_end G d u k
  unfolding marks mark_link mark_both lowest_end tie_end
  marks_first zero h = ap lowest_in (get_or-replicate n u 0 0 u_in) ∙ first_zero
  marks_first (suc k) h =
      let w = marks G k d (replicate n 0) in
      let x = G.a k in
      let y = G.b k in
      let c = G.cost k in
      let wl : length w ≡ n = marks_length G k d (replicate n 0) ∙ length-replicate n 0 in
      let one = first_mark x y c u d w (omega (arith, a_in k (omega arith), wl)) (omega (arith, b_in k (omega arith))) in
      let two = first_mark y x c u d (mark x y c d w) (omega (arith, b_in k (omega arith), wl, mark_length x y c d w)) (omega (arith, a_in k (omega arith))) in
      omega (arith, one, two, marks_first k (omega arith))

  pub hop_is : (t : ℕ) → hop_of (get_or (marks G G.links d (replicate n 0)) u 0) u t ≡ (if eqb u t then u else lowest_end G d u G.links)
  unfolding hop_of
  hop_is t = rw (marks_first G.links (le_refl G.links))
