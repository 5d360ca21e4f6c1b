-- A lent list that is filled from the front, value by value or row by row.
use Prim.Native.Nat.{ℕ, suc, ◌+◌, ◌-◌, ◌*◌, ◌≤◌, ◌<◌}
use native.Mathlib.Nat.{zero-mul, suc-mul, mul-le-mul, mul-le-mul_right}
use native.Mathlib.Numerals.{add-one}
use native.Mathlib.Omega.{arith}
use mathlib.Core.Path.{◌≡◌, refl, sym, ap, ◌∙◌}
use mathlib.Core.List.{List, ◌++◌, append-nil, append_assoc}
use lib.ListN.{length, get_or, set, take, drop, length-drop}
use lib.Seq.{drop-cons, set_at, append_snoc, drop-length, drop-drop, drop_at, take_at, length-take-le}
use mir.Syntax.{w64}
use mir.Val.{Fits}
use Rattle.rules.specs.Basics.{up_to, flat}
use Rattle.rules.proofs.Ground.Rows.{length_up_to, length_flat}

pub fill_none : (f : ℕ → ℕ) (d : List ℕ) → d ≡ up_to f 0 ++ drop 0 d
unfolding up_to
fill_none f d = refl

pub fill_more : (f : ℕ → ℕ) (d e : List ℕ) (i v : ℕ) → e ≡ up_to f i ++ drop i d → i < length e → length e ≡ length d → v ≡ f i → set e i v ≡ up_to f (i + 1) ++ drop (i + 1) d
unfolding up_to
fill_more f d e i v q h l ev =
    ap (λ (x : List ℕ). set x i v) (q ∙ ap (λ (y : List ℕ). up_to f i ++ y) (drop-cons d i 0 (omega arith)))
    ∙ set_at (up_to f i) (get_or d i 0) (drop (suc i) d) v i (length_up_to f i)
    ∙ sym (append_snoc (up_to f i) v (drop (suc i) d))
    ∙ rw (ev, add-one)

-- ---- row by row: rows of n from `at` on, k of them done

pub at_more : (k n at : ℕ) → at ≡ k * n → at + n ≡ (k + 1) * n
at_more k n at e = rw (e, add-one, suc-mul)

pub at_room : (k l n at m : ℕ) → k < l → at ≡ k * n → m ≡ l * n → at + n ≤ m
at_room k l n at m h e f = rw (at_more k n at e, f, add-one) (mul-le-mul_right n h)

pub at_end : (k l n at m s : ℕ) → s ≡ m → k < l → at ≡ k * n → m ≡ l * n → at + n ≤ s
at_end k l n at m s es h e f = rw es (at_room k l n at m h e f)

pub part_long : (at n : ℕ) (e : List ℕ) → at + n ≤ length e → length (take (at + n - at) (drop at e)) ≡ n
part_long at n e h = length-take-le (at + n - at) (drop at e) (rw length-drop (omega arith)) ∙ omega arith

pub row_part : (k l n at m : ℕ) (e : List ℕ) → length e ≡ m → k < l → at ≡ k * n → m ≡ l * n → length (take (at + n - at) (drop at e)) ≡ n
row_part k l n at m e s h q f = part_long at n e (at_end k l n at m (length e) s h q f)

-- a row y that is put at `at`, past the k rows before it
pub rows_more : (f : ℕ → List ℕ) (n k at : ℕ) (d e y : List ℕ) → ((j : ℕ) → length (f j) ≡ n) → e ≡ flat f k ++ drop at d → at ≡ k * n → y ≡ f k
    → take at e ++ (y ++ drop (at + n - at) (drop at e)) ≡ flat f (k + 1) ++ drop (at + n) d
unfolding flat
rows_more f n k at d e y l q ea ey =
    let lr : length (flat f k) ≡ at = length_flat f n k (λ x h. l x) ∙ sym ea in
    let w : at + n - at ≡ n = omega arith in
    rw (q, take_at (flat f k) (drop at d) at lr, drop_at (flat f k) (drop at d) at lr, drop-drop, w, ey, add-one) (sym (append_assoc (flat f k) (f k) (drop (at + n) d)))

pub rows_done : (f : ℕ → List ℕ) (n l k at : ℕ) (d e : List ℕ) → k ≤ l → l ≤ k → at ≡ k * n → length d ≡ l * n → e ≡ flat f k ++ drop at d → e ≡ flat f l
rows_done f n l k at d e h g q s p =
    let w : k ≡ l = omega arith in
    let v : at ≡ length d = q ∙ ap (λ (j : ℕ). j * n) w ∙ sym s in
    p ∙ rw (w, v, drop-length) (append-nil (flat f l))

-- ---- the same where row k of rows of n starts at k * n

pub start_none : (f : ℕ → List ℕ) (n : ℕ) (d : List ℕ) → d ≡ flat f 0 ++ drop (0 * n) d
unfolding flat
start_none f n d = rw zero-mul refl

pub start_fits : (k n : ℕ) → k < n → n ≤ 32 → Fits w64 (k * n)
start_fits k n h few = let less : k ≤ 32 = omega arith in let q : k * n ≤ 32 * 32 = mul-le-mul less few in record { fits = omega arith }

pub start_more : (f : ℕ → List ℕ) (n k : ℕ) (d e y : List ℕ) → ((j : ℕ) → length (f j) ≡ n) → e ≡ flat f k ++ drop (k * n) d → y ≡ f k
    → take (k * n) e ++ (y ++ drop (k * n + n - k * n) (drop (k * n) e)) ≡ flat f (k + 1) ++ drop ((k + 1) * n) d
start_more f n k d e y l q ey = rows_more f n k (k * n) d e y l q refl ey ∙ ap (λ (at : ℕ). flat f (k + 1) ++ drop at d) (at_more k n (k * n) refl)

pub start_part : (k n m : ℕ) (e : List ℕ) → length e ≡ m → k < n → m ≡ n * n → length (take (k * n + n - k * n) (drop (k * n) e)) ≡ n
start_part k n m e s h f = row_part k n n (k * n) m e s h refl f
