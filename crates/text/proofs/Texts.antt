-- Bytes written one after the other are their concatenation written at once, at a place and by a pen; numbers, letters and byte strings as bytes.
use mathlib.Core.Path.{◌≡◌, refl, sym, ap, subst, ◌∙◌}
use mathlib.Core.Bool.{true, false, true≢false}
use mathlib.Core.List.{List, [], ◌∷◌, ◌++◌}
use Prim.Native.Nat.{ℕ, zero, suc, ◌+◌, ◌-◌, ◌/◌, ◌%◌, ◌≤◌, ◌<◌}
use native.Mathlib.Numerals.{add-one}
use native.Mathlib.Omega.{arith}
use lib.ListN.{length, get_or, take, length-append}
use lib.IntN.{ℤ, pos, negsuc, nat_abs}
use lib.Signed.{lt_z}
use lib.Seq.{take-suc, take_all}
use borrow.Author.Tests.{ltb-true}
use mir.Syntax.{w32}
use mir.Val.{SFits, to_z, of_z}
use mir.Facts.{to_z-of_z}
use Rattle.rules.specs.Basics.{laid}
use Rattle.rules.specs.Report.{digits, decimal, signed, space}
use Rattle.rules.proofs.Forwarding.ChangeKinds.{letter_none, letter_t, letter_s, letter_d}
use Rattle.rules.proofs.Report.TextLength.{digits_one, digits_more}
use Rattle.slices.specs.Stores.{put}
use Rattle.slices.proofs.Stores.{length_put, put_then, put_laid}
use Rattle.text.specs.declared.Pen.{Pen}
use Rattle.text.specs.Text.{Wrote, field, number_room, signed_room, field_room, label_room, labelled_room}
use Rattle.text.specs.Pen.{Writes}

-- ---- one after the other

pub wrote_none : (text : List ℕ) (at most : ℕ) → Wrote text at [] most at text
unfolding put
wrote_none text at most = record { is = refl; on = omega arith; few = omega arith; long = refl }

pub wrote_then : (old mid new : List ℕ) (at p q a b most : ℕ) (xs ys : List ℕ) → Wrote old at xs a p mid → Wrote mid p ys b q new → a + b ≤ most → Wrote old at (xs ++ ys) most q new
wrote_then old mid new at p q a b most xs ys v w h =
    record {
      is = put_then old mid new at p xs ys v.is w.is v.on;
      on = omega (arith, v.on, w.on, length-append xs ys);
      few = omega (arith, v.few, w.few);
      long = w.long ∙ v.long;
    }

-- the same bytes under another name
pub wrote_as : (old new : List ℕ) (at r most : ℕ) (xs ys : List ℕ) → xs ≡ ys → Wrote old at xs most r new → Wrote old at ys most r new
wrote_as old new at r most xs ys e w = subst (λ (l : List ℕ). Wrote old at l most r new) e w

-- what fits a text from its first byte on is laid at its front
pub put_front : (bytes old : List ℕ) → length bytes ≤ length old → put old 0 bytes ≡ laid bytes old
put_front bytes old h = put_laid bytes old h

-- the same of a text that was written
pub wrote_laid : (old new bytes : List ℕ) (most r : ℕ) → Wrote old 0 bytes most r new → length bytes ≤ length old → new ≡ laid bytes old
wrote_laid old new bytes most r w h = w.is ∙ put_laid bytes old h

-- ---- the same of a pen

pub writes_none : (pen : Pen) (most : ℕ) → Writes pen [] most pen
writes_none pen most = record { held = refl; wrote = wrote_none pen.text.now pen.at most }

pub writes_then : (old mid new : Pen) (a b most : ℕ) (xs ys : List ℕ) → Writes old xs a mid → Writes mid ys b new → a + b ≤ most → Writes old (xs ++ ys) most new
writes_then old mid new a b most xs ys v w h =
    record {
      held = w.held ∙ v.held;
      wrote = wrote_then old.text.now mid.text.now new.text.now old.at mid.at new.at a b most xs ys v.wrote w.wrote h;
    }

pub writes_as : (old new : Pen) (most : ℕ) (xs ys : List ℕ) → xs ≡ ys → Writes old xs most new → Writes old ys most new
writes_as old new most xs ys e w = subst (λ (l : List ℕ). Writes old l most new) e w

-- a larger bound
pub writes_few : (old new : Pen) (a b : ℕ) (xs : List ℕ) → a ≤ b → Writes old xs a new → Writes old xs b new
writes_few old new a b xs h w = record { held = w.held; wrote = record { is = w.wrote.is; on = w.wrote.on; few = omega (arith, w.wrote.few); long = w.wrote.long } }

-- ---- a byte string

pub copied_more : (old mid new : Pen) (bytes : List ℕ) (i : ℕ) → i < length bytes
    → Writes old (take i bytes) i mid → Writes mid (get_or bytes i 0 ∷ []) 1 new → Writes old (take (i + 1) bytes) (i + 1) new
copied_more old mid new bytes i l v w =
    writes_as old new (i + 1) (take i bytes ++ (get_or bytes i 0 ∷ [])) (take (i + 1) bytes)
    (sym (take-suc bytes i 0 l) ∙ ap (λ (j : ℕ). take j bytes) (sym (add-one i)))
    (writes_then old mid new i 1 (i + 1) (take i bytes) (get_or bytes i 0 ∷ []) v w (omega arith))

pub copied_all : (old new : Pen) (bytes : List ℕ) (i : ℕ) → Writes old (take i bytes) i new → i ≤ length bytes → length bytes ≤ i → Writes old bytes (length bytes) new
copied_all old new bytes i w h g =
    let e : i ≡ length bytes = omega arith in
    subst (λ (m : ℕ). Writes old bytes m new) e (writes_as old new i (take i bytes) bytes (take_all i bytes g) w)

-- ---- a number

digits_none : (x : ℕ) → digits 0 x ≡ (48 + x % 10) ∷ []
unfolding digits
digits_none x = refl

-- one byte
wrote_byte : (old new : List ℕ) (at d : ℕ) → new ≡ put old at (d ∷ []) → Wrote old at (d ∷ []) 1 (at + 1) new
wrote_byte old new at d e = record { is = e; on = refl; few = omega arith; long = ap length e ∙ length_put old at (d ∷ []) }

wrote_few : (old new bytes : List ℕ) (at r a b : ℕ) → a ≤ b → Wrote old at bytes a r new → Wrote old at bytes b r new
wrote_few old new bytes at r a b h w = record { is = w.is; on = w.on; few = omega (arith, w.few); long = w.long }

-- one digit is all: no more are asked for, or the number has no more
pub last_digit : (old new : List ℕ) (at more x : ℕ) → more ≡ 0 → new ≡ put old at ((48 + x % 10) ∷ []) → Wrote old at (digits more x) (more + 1) (at + 1) new
last_digit old new at more x z e =
    wrote_as old new at (at + 1) (more + 1) ((48 + x % 10) ∷ []) (digits more x) (sym (ap (λ (m : ℕ). digits m x) z ∙ digits_none x))
    (wrote_few old new ((48 + x % 10) ∷ []) at (at + 1) 1 (more + 1) (omega arith) (wrote_byte old new at (48 + x % 10) e))

pub one_digit : (old new : List ℕ) (at more x : ℕ) → x < 10 → new ≡ put old at ((48 + x) ∷ []) → Wrote old at (digits more x) (more + 1) (at + 1) new
one_digit old new at more x h e =
    wrote_as old new at (at + 1) (more + 1) ((48 + x) ∷ []) (digits more x) (sym (digits_one more x h))
    (wrote_few old new ((48 + x) ∷ []) at (at + 1) 1 (more + 1) (omega arith) (wrote_byte old new at (48 + x) e))

pub more_digits : (old mid new : List ℕ) (at p more x : ℕ) → (more ≡ 0 → ⊥) → 10 ≤ x → Wrote old at (digits (more - 1) (x / 10)) (more - 1 + 1) p mid
    → new ≡ put mid p ((48 + x % 10) ∷ []) → Wrote old at (digits more x) (more + 1) (p + 1) new
more_digits old mid new at p zero x ne l v e = absurd (ne refl)
more_digits old mid new at p (suc more) x ne l v e =
    let z : suc more - 1 ≡ more = omega arith in
    let v' : Wrote old at (digits more (x / 10)) (more + 1) p mid = subst (λ (m : ℕ). Wrote old at (digits m (x / 10)) (m + 1) p mid) z v in
    wrote_as old new at (p + 1) (suc more + 1) (digits more (x / 10) ++ ((48 + x % 10) ∷ [])) (digits (suc more) x) (sym (digits_more more x l))
    (wrote_then old mid new at p (p + 1) (more + 1) 1 (suc more + 1) (digits more (x / 10)) ((48 + x % 10) ∷ []) v' (wrote_byte mid new p (48 + x % 10) e) (omega arith))

pub number_of : (old new : Pen) (x : ℕ) → new.text.ghost_name ≡ old.text.ghost_name → Wrote old.text.now old.at (digits 19 x) number_room new.at new.text.now → Writes old (decimal x) number_room new
unfolding decimal
number_of old new x h w = record { held = h; wrote = w }

pub short_number : (old new : Pen) (x : ℕ) → x < 10 → Writes old ((48 + x) ∷ []) 1 new → Writes old (decimal x) number_room new
unfolding decimal
short_number old new x h w = writes_as old new number_room ((48 + x) ∷ []) (digits 19 x) (sym (digits_one 19 x h)) (writes_few old new 1 number_room ((48 + x) ∷ []) (omega arith) w)

pub labelled_of : (old mid new : Pen) (label : List ℕ) (x : ℕ) → length label ≤ label_room → Writes old label (length label) mid → Writes mid (decimal x) number_room new
    → Writes old (label ++ decimal x) labelled_room new
labelled_of old mid new label x h v w = writes_then old mid new (length label) number_room labelled_room label (decimal x) v w (omega arith)

pub field_of : (old mid new : Pen) (x y : ℕ) → y ≡ x → Writes old (decimal y) number_room mid → Writes mid (32 ∷ []) 1 new → Writes old (field x) field_room new
unfolding field
field_of old mid new x y e v w =
    writes_then old mid new number_room 1 field_room (decimal x) space (writes_as old mid number_room (decimal y) (decimal x) (ap decimal e) v) w (omega arith)

-- ---- a number with its sign

-- below zero, and not below: the number as its 32 bits, read back, and how far it is from zero
pub below_zero : (old p mid new : Pen) (x : ℤ) (d : ℕ) → SFits w32 x → lt_z (to_z w32 (of_z w32 x)) (pos 0) ≡ true → d ≡ nat_abs (to_z w32 (of_z w32 x))
    → p ≡ mid → Writes old (45 ∷ []) 1 mid → Writes p (decimal d) number_room new → Writes old (signed x) signed_room new
unfolding signed
below_zero old p mid new x d f b n e v w = go x (sym (ap (λ (z : ℤ). lt_z z (pos 0)) (to_z-of_z {w = w32} f)) ∙ b) (n ∙ ap nat_abs (to_z-of_z {w = w32} f))
  where
    v' : Writes old (45 ∷ []) 1 p
    v' = subst (λ (q : Pen). Writes old (45 ∷ []) 1 q) (sym e) v

    go : (z : ℤ) → lt_z z (pos 0) ≡ true → d ≡ nat_abs z → Writes old (signed z) signed_room new
    go (pos n) l k = absurd (omega (arith, ltb-true n 0 l))
    go (negsuc n) l k =
        writes_as old new signed_room (45 ∷ decimal d) (45 ∷ decimal (n + 1)) (ap (λ (y : ℕ). 45 ∷ decimal y) (k ∙ sym (add-one n)))
        (writes_then old p new 1 number_room signed_room (45 ∷ []) (decimal d) v' w (omega arith))

pub not_below : (old p new : Pen) (x : ℤ) (d : ℕ) → SFits w32 x → lt_z (to_z w32 (of_z w32 x)) (pos 0) ≡ false → d ≡ nat_abs (to_z w32 (of_z w32 x))
    → p ≡ old → Writes p (decimal d) number_room new → Writes old (signed x) signed_room new
unfolding signed
not_below old p new x d f b n e w = go x (sym (ap (λ (z : ℤ). lt_z z (pos 0)) (to_z-of_z {w = w32} f)) ∙ b) (n ∙ ap nat_abs (to_z-of_z {w = w32} f))
  where
    w' : Writes old (decimal d) number_room new
    w' = subst (λ (q : Pen). Writes q (decimal d) number_room new) e w

    go : (z : ℤ) → lt_z z (pos 0) ≡ false → d ≡ nat_abs z → Writes old (signed z) signed_room new
    go (pos n) l k = writes_few old new number_room signed_room (decimal n) (omega arith) (writes_as old new number_room (decimal d) (decimal n) (ap decimal k) w')
    go (negsuc n) l k = absurd (true≢false l)

-- two results that the promise allows coincide: the place after the bytes, and every byte of the text
pub one_writing : (old bytes new new' : List ℕ) (at most r r' : ℕ) → Wrote old at bytes most r new → Wrote old at bytes most r' new' → (r ≡ r') × (new ≡ new')
one_writing old bytes new new' at most r r' v w = (v.on ∙ sym w.on, v.is ∙ sym w.is)

pub ruleset texts = (writes_none, copied_more, copied_all, one_digit, last_digit, more_digits, number_of, short_number, labelled_of, field_of, below_zero, not_below, letter_none, letter_t, letter_s, letter_d)
