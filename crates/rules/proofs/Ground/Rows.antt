-- Laws of lists by index: up_to, flat, laid.
use mathlib.Core.Path.{◌≡◌, refl, sym, ap, ap₂, ◌∙◌}
use mathlib.Core.Logic.{⊎_elim}
use mathlib.Core.List.{List, [], ◌∷◌, ◌++◌, append-nil, append_assoc}
use Prim.Native.Nat.{ℕ, zero, suc, ◌+◌, ◌*◌, ◌≤◌, ◌<◌}
use native.Mathlib.Nat.{add-zero, add-suc, zero-mul, suc-mul, mul-le-mul_right, eq-or-lt_of_le, le_of_suc-le-suc}
use native.Mathlib.Numerals.{add-one}
use native.Mathlib.Omega.{arith}
use lib.ListN.{length, get_or, take, drop, set, length-append, length-drop, get_or-append, get_or-eq_default}
use lib.Seq.{get_or_at, get_or-append-add, get_or-take, drop-cons, drop-drop, set-append_seam, ext_get_or, length-take-le, take-append_seam, drop-append_seam}
use Rattle.rules.specs.Basics.{up_to, flat, laid}

-- ---- the front of a list, and what lies past its end

pub prefix_long : {A : Type 0} (n : ℕ) (l : List A) → n ≤ length l → n ≡ length (take n l)
prefix_long n l h = sym (length-take-le n l h)

pub past : (l : List ℕ) (x : ℕ) → length l ≤ x → 0 ≡ get_or l x 0
past l x h = sym (get_or-eq_default l 0 h)

-- ---- up_to

module _ {A : Type 0} where
  pub length_up_to : (f : ℕ → A) (n : ℕ) → length (up_to f n) ≡ n
  unfolding up_to
  length_up_to f zero = refl
  length_up_to f (suc n) = length-append (up_to f n) (f n ∷ []) ∙ rw (length_up_to f n) (add-one n)

  pub get_d_up_to : (f : ℕ → A) (n x : ℕ) (d : A) → x < n → get_or (up_to f n) x d ≡ f x
  unfolding up_to
  get_d_up_to f zero x d h = absurd (omega arith)
  get_d_up_to f (suc n) x d h =
      ⊎_elim (λ (e : x ≡ n). rw e (get_or_at (up_to f n) (f n) [] d n (length_up_to f n)))
      (λ (p : x < n). get_or-append (up_to f n) (f n ∷ []) d x (omega (arith, length_up_to f n)) ∙ get_d_up_to f n x d p)
      (eq-or-lt_of_le (le_of_suc-le-suc h))

  pub up_to_ext : (f g : ℕ → A) (n : ℕ) → ((x : ℕ) → x < n → f x ≡ g x) → up_to f n ≡ up_to g n
  unfolding up_to
  up_to_ext f g zero h = refl
  up_to_ext f g (suc n) h = ap₂ (λ (l : List A) (a : A). l ++ (a ∷ [])) (up_to_ext f g n (λ x l. h x (omega arith))) (h n (omega arith))

  -- a list is its entries
  pub up_to_get_d : (l : List A) (n : ℕ) (d : A) → length l ≡ n → up_to (λ x. get_or l x d) n ≡ l
  up_to_get_d l n d e =
      ext_get_or d (up_to (λ x. get_or l x d) n) l (length_up_to (λ x. get_or l x d) n ∙ sym e)
      (λ x h. get_d_up_to (λ y. get_or l y d) n x d (omega (arith, length_up_to (λ y. get_or l y d) n)))

  -- its first n entries
  pub up_to_take : (l : List A) (n : ℕ) (d : A) → n ≤ length l → up_to (λ x. get_or l x d) n ≡ take n l
  up_to_take l n d h =
      ext_get_or d (up_to (λ x. get_or l x d) n) (take n l) (length_up_to (λ x. get_or l x d) n ∙ sym (length-take-le n l h))
      (λ x g.
      let b : x < n = omega (arith, length_up_to (λ y. get_or l y d) n) in
      get_d_up_to (λ y. get_or l y d) n x d b ∙ sym (get_or-take n l x d b))

  -- a list in two parts
  pub up_to_add : (f : ℕ → A) (a b : ℕ) → up_to f (a + b) ≡ up_to f a ++ up_to (λ x. f (a + x)) b
  unfolding up_to
  up_to_add f a zero = rw add-zero (sym (append-nil (up_to f a)))
  up_to_add f a (suc b) =
      rw add-suc (ap (λ (l : List A). l ++ (f (a + b) ∷ [])) (up_to_add f a b) ∙ append_assoc (up_to f a) (up_to (λ x. f (a + x)) b) (f (a + b) ∷ []))

-- ---- flat: n lists, each w long

module _ (f : ℕ → List ℕ) (w : ℕ) where
  pub length_flat : (n : ℕ) → ((x : ℕ) → x < n → length (f x) ≡ w) → length (flat f n) ≡ n * w
  unfolding flat
  length_flat zero long = sym (zero-mul w)
  length_flat (suc n) long =
      length-append (flat f n) (f n) ∙ rw (length_flat n (λ x l. long x (omega arith)), long n (omega arith), suc-mul)

  -- entry j of list x
  pub get_d_flat : (n x j d : ℕ) → ((y : ℕ) → y < n → length (f y) ≡ w) → x < n → j < w → get_or (flat f n) (x * w + j) d ≡ get_or (f x) j d
  unfolding flat
  get_d_flat zero x j d long h g = absurd (omega arith)
  get_d_flat (suc n) x j d long h g =
      let before : length (flat f n) ≡ n * w = length_flat n (λ y l. long y (omega arith)) in
      ⊎_elim (λ (e : x ≡ n). rw (e, ← before) (get_or-append-add (flat f n) (f n) j d))
      (λ (p : x < n).
      let q : suc x * w ≤ n * w = mul-le-mul_right w p in
      get_or-append (flat f n) (f n) d (x * w + j) (omega (arith, before, rw suc-mul at q)) ∙ get_d_flat n x j d (λ y l. long y (omega arith)) p g)
      (eq-or-lt_of_le (le_of_suc-le-suc h))

pub flat_ext : (f g : ℕ → List ℕ) (n : ℕ) → ((x : ℕ) → x < n → f x ≡ g x) → flat f n ≡ flat g n
unfolding flat
flat_ext f g zero h = refl
flat_ext f g (suc n) h = ap₂ ◌++◌ (flat_ext f g n (λ x l. h x (omega arith))) (h n (omega arith))

-- a list cut into n parts, each w long
pub flat_up_to : (f : ℕ → ℕ) (w n : ℕ) → flat (λ x. up_to (λ j. f (x * w + j)) w) n ≡ up_to f (n * w)
unfolding flat up_to
flat_up_to f w zero = rw zero-mul
flat_up_to f w (suc n) =
    ap (λ (l : List ℕ). l ++ up_to (λ j. f (n * w + j)) w) (flat_up_to f w n) ∙ sym (up_to_add f (n * w) w) ∙ ap (up_to f) (sym (suc-mul n w))

-- ---- laid

pub length_laid : (new old : List ℕ) → length new ≤ length old → length (laid new old) ≡ length old
unfolding laid
length_laid new old h = length-append new (drop (length new) old) ∙ rw length-drop (omega arith)

pub get_d_laid : (new old : List ℕ) (x d : ℕ) → x < length new → get_or (laid new old) x d ≡ get_or new x d
unfolding laid
get_d_laid new old x d h = get_or-append new (drop (length new) old) d x h

-- past what was written, as it came
pub laid_rest : (new old : List ℕ) → drop (length new) (laid new old) ≡ drop (length new) old
unfolding laid
laid_rest new old = drop-append_seam new (drop (length new) old)

pub laid_front : (new old : List ℕ) → take (length new) (laid new old) ≡ new
unfolding laid
laid_front new old = take-append_seam new (drop (length new) old)

-- one entry more
pub laid_more : (new old : List ℕ) (v : ℕ) → length new < length old → set (laid new old) (length new) v ≡ laid (new ++ (v ∷ [])) old
unfolding laid
laid_more new old v h =
    ap (λ (l : List ℕ). set (new ++ l) (length new) v) (drop-cons old (length new) 0 h)
    ∙ set-append_seam new (get_or old (length new) 0) (drop (suc (length new)) old) v
    ∙ sym (append_assoc new (v ∷ []) (drop (length (new ++ (v ∷ []))) old)
    ∙ ap (λ (n : ℕ). new ++ (v ∷ drop n old)) (length-append new (v ∷ []) ∙ add-one (length new)))

-- a second list behind the first
pub laid_behind : (first second old : List ℕ) → first ++ laid second (drop (length first) old) ≡ laid (first ++ second) old
unfolding laid
laid_behind first second old =
    ap (λ (l : List ℕ). first ++ (second ++ l)) (drop-drop (length second) (length first) old)
    ∙ sym (append_assoc first second (drop (length (first ++ second)) old) ∙ ap (λ (n : ℕ). first ++ (second ++ drop n old)) (length-append first second))

pub laid_on : (first second old : List ℕ) → take (length first) (laid first old) ++ laid second (drop (length first) (laid first old)) ≡ laid (first ++ second) old
laid_on first second old = rw (laid_front, laid_rest) (laid_behind first second old)
