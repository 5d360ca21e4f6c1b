-- What the functions' proofs cite.
use mathlib.Core.Path.{◌≡◌, sym, ap, ◌∙◌}
use mathlib.Core.Bool.{Bool, true, false}
use mir.Val.{Fits}
use mir.Syntax.{w8}
use Prim.Native.Nat.{ℕ, ◌+◌, ◌-◌, ◌*◌, ◌/◌, ◌%◌, ◌^◌, ◌≤◌, ◌<◌}
use native.Mathlib.Nat.{add-zero, one-mul, mod-eq_of_lt}
use native.Mathlib.Omega.{arith}
use lib.Dec.{eqb}
use lib.Pow.{pow-lt, ones_split, high, ones_lt}
use lib.Bits.{bit_and, bit_or}
use lib.Count.{trailing_le}
use Rattle.words.specs.Word.{has, only, adding, removing, firsts, lowest_in, put}
use Rattle.words.proofs.Members.{has_shift}

pub has_at : (w v : ℕ) → eqb (w / 2 ^ v % 2) 1 ≡ has w v
unfolding has
has_at w v = has_shift v w 0 ∙ ap (has w) (add-zero v)

shifted : (v : ℕ) → v < 32 → (1 * 2 ^ v) % 2 ^ 32 ≡ 2 ^ v
shifted v h = ap (λ (x : ℕ). x % 2 ^ 32) (one-mul (2 ^ v)) ∙ mod-eq_of_lt (pow-lt h)

pub only_at : (v : ℕ) → v < 32 → (1 * 2 ^ v) % 2 ^ 32 ≡ only v
unfolding only
only_at v h = shifted v h

pub adding_at : (w v x : ℕ) → x ≡ only v → bit_or w x ≡ adding w v
unfolding adding only
adding_at w v x e = ap (bit_or w) e

pub removing_at : (w v x : ℕ) → x ≡ only v → bit_and w (2 ^ 32 - 1 - x) ≡ removing w v
unfolding removing only
removing_at w v x e = ap (λ (y : ℕ). bit_and w (2 ^ 32 - 1 - y)) e

pub firsts_at : (n : ℕ) → 1 ≤ n → n ≤ 32 → (2 ^ 32 - 1) / 2 ^ (32 - n) ≡ firsts n
unfolding firsts
firsts_at n l h =
    let e : n + (32 - n) ≡ 32 = omega arith in
    ap (λ (x : ℕ). x / 2 ^ (32 - n)) (sym (sym (ones_split n (32 - n)) ∙ ap (λ (j : ℕ). 2 ^ j - 1) e)) ∙ high (2 ^ n - 1) (32 - n) (ones_lt (32 - n))

pub lowest_byte : (w z : ℕ) → z ≡ lowest_in w → Fits w8 z
unfolding lowest_in
lowest_byte w z e = record { fits = omega (arith, trailing_le 32 w) }

pub put_in : (t : Bool) (w v r : ℕ) → r ≡ adding w v → t ≡ true → r ≡ put t w v
unfolding put
put_in t w v r e q = rw q e

pub put_out : (t : Bool) (w v : ℕ) → t ≡ false → w ≡ put t w v
unfolding put
put_out t w v q = rw q

pub ruleset words = (has_at, only_at, adding_at, removing_at, firsts_at, lowest_byte, put_in, put_out)
