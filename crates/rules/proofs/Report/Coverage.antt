-- Coverage: the report has one line for each ordered pair of different nodes, in order, none twice and none missing; each line is what the run does;
-- and both ends of every link have theirs.
use Rattle.std.specs.Prelude.{if◌then◌else◌}
use mathlib.Core.Path.{◌≡◌, refl, sym, ap, ap₂, subst, ◌∙◌}
use mathlib.Core.Bool.{Bool, true, false}
use mathlib.Core.Logic.{◌⊎◌, inl, inr}
use mathlib.Core.List.{List, [], ◌++◌, append-nil, append_assoc}
use Prim.Native.Nat.{ℕ, zero, suc, ◌+◌, ◌-◌, ◌*◌, ◌/◌, ◌%◌, ◌≤◌, ◌<◌}
use native.Mathlib.Nat.{add-zero, add-suc, zero-mul, suc-mul, mul-le-mul_right, mod-lt, mod-add-div', div-lt_iff_lt-mul}
use native.Mathlib.Omega.{arith}
use lib.Arith.{digits_div, digits_mod}
use lib.Dec.{eqb, ltb}
use lib.ListN.{get_or}
use borrow.Author.Tests.{eq-eqb, ne_eqb, lt-ltb, le-ltb, ltb-true, ltb-false}
use Rattle.rules.specs.Basics.{flat}
use Rattle.rules.specs.File.{Set}
use Rattle.rules.specs.Report.{detection_line, detection_lines}
use Rattle.rules.specs.Sets.{AcceptedSet}
use Rattle.rules.specs.Demands.Detections.{other, node_at, end_at, Listed, Covered}
use Rattle.rules.proofs.Ground.Choices.{if_yes, if_no}
use Rattle.rules.proofs.Ground.Rows.{flat_ext}
use Rattle.rules.proofs.Report.Lines.{lines_are_runs}

-- ---- destinations

other_low : (u j : ℕ) → j < u → other u j ≡ j
unfolding other
other_low u j h = if_yes (ltb j u) j (suc j) (lt-ltb j u h)

other_high : (u j : ℕ) → u ≤ j → other u j ≡ suc j
unfolding other
other_high u j h = if_no (ltb j u) j (suc j) (le-ltb j u h)

other_pair : (n u j : ℕ) → u < n → j < n - 1 → (other u j < n) × (u ≡ other u j → ⊥)
other_pair n u j lu lj = go (ltb j u) refl
  where
    go : (b : Bool) → ltb j u ≡ b → (other u j < n) × (u ≡ other u j → ⊥)
    go true e = let h = ltb-true j u e in (omega (arith, other_low u j h), λ q. omega (arith, other_low u j h))
    go false e = let h = ltb-false j u e in (omega (arith, other_high u j h), λ q. omega (arith, other_high u j h))

other_rises : (u i j : ℕ) → i < j → other u i < other u j
other_rises u i j h = go (ltb i u) refl (ltb j u) refl
  where
    go : (b : Bool) → ltb i u ≡ b → (c : Bool) → ltb j u ≡ c → other u i < other u j
    go true e true d = omega (arith, other_low u i (ltb-true i u e), other_low u j (ltb-true j u d))
    go true e false d = omega (arith, other_low u i (ltb-true i u e), other_high u j (ltb-false j u d))
    go false e true d = let p = ltb-false i u e in let q = ltb-true j u d in absurd (omega arith)
    go false e false d = omega (arith, other_high u i (ltb-false i u e), other_high u j (ltb-false j u d))

-- the number of t among them
other_of : (n u t : ℕ) → u < n → t < n → (u ≡ t → ⊥) → (j : ℕ) × (j < n - 1) × (other u j ≡ t)
other_of n u t lu lt ne = go (ltb t u) refl
  where
    go : (b : Bool) → ltb t u ≡ b → (j : ℕ) × (j < n - 1) × (other u j ≡ t)
    go true e = let h = ltb-true t u e in (t, omega arith, other_low u t h)
    go false e = let h = ltb-false t u e in (t - 1, omega arith, other_high u (t - 1) (omega arith) ∙ omega arith)

-- ---- lists one after the other

module _ (g : ℕ → List ℕ) (u : ℕ) where
  but : ℕ → List ℕ
  but t = if eqb u t then [] else g t

  before : (n : ℕ) → n ≤ u → flat but n ≡ flat (λ j. g (other u j)) n
  unfolding but
  before n h =
      flat_ext but (λ j. g (other u j)) n
      (λ j l. if_no (eqb u j) [] (g j) (ne_eqb u j (λ e. omega arith)) ∙ ap g (sym (other_low u j (omega arith))))

  past : (k : ℕ) → flat but (suc (u + k)) ≡ flat (λ j. g (other u j)) (u + k)
  unfolding flat but
  past zero =
      rw add-zero
      (ap₂ ◌++◌ (before u (omega arith)) (if_yes (eqb u u) [] (g u) (eq-eqb u u refl)) ∙ append-nil (flat (λ j. g (other u j)) u))
  past (suc k) =
      rw add-suc
      (ap₂ ◌++◌ (past k) (if_no (eqb u (suc (u + k))) [] (g (suc (u + k))) (ne_eqb u (suc (u + k)) (λ e. omega arith)) ∙ ap g (sym (other_high u (u + k) (omega arith)))))

  all_but : (n : ℕ) → u < n → flat but n ≡ flat (λ j. g (other u j)) (n - 1)
  all_but n h =
      let a : n ≡ suc (u + (n - 1 - u)) = omega arith in
      let b : u + (n - 1 - u) ≡ n - 1 = omega arith in
      ap (flat but) a ∙ past (n - 1 - u) ∙ ap (flat (λ j. g (other u j))) b

flat_add : (f : ℕ → List ℕ) (a b : ℕ) → flat f (a + b) ≡ flat f a ++ flat (λ x. f (a + x)) b
unfolding flat
flat_add f a zero = rw add-zero (sym (append-nil (flat f a)))
flat_add f a (suc b) =
    rw add-suc (ap (λ (l : List ℕ). l ++ f (a + b)) (flat_add f a b) ∙ append_assoc (flat f a) (flat (λ x. f (a + x)) b) (f (a + b)))

-- entry j of part u of parts that are w long has the number u × w + j
flat_flat : (h : ℕ → ℕ → List ℕ) (w n : ℕ) → flat (λ u. flat (h u) w) n ≡ flat (λ x. h (x / w) (x % w)) (n * w)
unfolding flat
flat_flat h w zero = rw zero-mul
flat_flat h w (suc n) =
    ap₂ ◌++◌ (flat_flat h w n) (flat_ext (h n) (λ x. h ((n * w + x) / w) ((n * w + x) % w)) w (λ x q. sym (ap₂ h (digits_div n q) (digits_mod n q))))
    ∙ sym (flat_add (λ x. h (x / w) (x % w)) (n * w) w)
    ∙ ap (flat (λ x. h (x / w) (x % w))) (sym (suc-mul n w))

-- ---- the theorem

module _ (S : Set) (A : AcceptedSet S) where
  abbrev size : ℕ
  size = S.net.n

  some : 0 < size - 1
  some = omega (arith, A.rules.limits.nodes.0)

  pairs_of : (x : ℕ) → x < size * (size - 1) → (node_at size x < size) × (end_at size x < size) × (node_at size x ≡ end_at size x → ⊥)
  unfolding node_at end_at
  pairs_of x l =
      let a : x / (size - 1) < size = (div-lt_iff_lt-mul some).1 l in
      let p = other_pair size (x / (size - 1)) (x % (size - 1)) a (mod-lt x some) in
      (a, p.0, p.1)

  each_of : (u t : ℕ) → u < size → t < size → (u ≡ t → ⊥) → Listed size u t
  unfolding node_at end_at
  each_of u t lu lt ne =
      let j = other_of size u t lu lt ne in
      let a : (u * (size - 1) + j.0) / (size - 1) ≡ u = digits_div u j.1 in
      let b : (u * (size - 1) + j.0) % (size - 1) ≡ j.0 = digits_mod u j.1 in
      record {
        number = u * (size - 1) + j.0;
        low = omega (arith, j.1, suc-mul u (size - 1), mul-le-mul_right {m = suc u} {n = size} (size - 1) lu);
        node = a;
        end = ap₂ other a b ∙ j.2;
      }

  order_of : (x y : ℕ) → x < y → y < size * (size - 1)
      → (node_at size x < node_at size y) ⊎ ((node_at size x ≡ node_at size y) × (end_at size x < end_at size y))
  unfolding node_at end_at
  order_of x y h l = go (ltb (x / (size - 1)) (y / (size - 1))) refl
    where
      go : (b : Bool) → ltb (x / (size - 1)) (y / (size - 1)) ≡ b
          → (x / (size - 1) < y / (size - 1)) ⊎ ((x / (size - 1) ≡ y / (size - 1)) × (other (x / (size - 1)) (x % (size - 1)) < other (y / (size - 1)) (y % (size - 1))))
      go true e = inl (ltb-true (x / (size - 1)) (y / (size - 1)) e)
      go false e =
          let w = size - 1 in
          let up : x < suc (y / w) * w = omega (arith, mod-add-div' y w, mod-lt y some, suc-mul (y / w) w) in
          let same : x / w ≡ y / w = omega (arith, (div-lt_iff_lt-mul some).1 up, ltb-false (x / w) (y / w) e) in
          let less : x % w < y % w = omega (arith, mod-add-div' x w, mod-add-div' y w, ap (λ (z : ℕ). z * w) same) in
          inr (same, subst (λ (u : ℕ). other (x / w) (x % w) < other u (y % w)) same (other_rises (x / w) (x % w) (y % w) less))

  lines_of : detection_lines S ≡ flat (λ x. detection_line S (node_at size x) (end_at size x)) (size * (size - 1))
  unfolding detection_lines node_at end_at but
  lines_of =
      flat_ext (λ u. flat (but (detection_line S u) u) size) (λ u. flat (λ j. detection_line S u (other u j)) (size - 1)) size (λ u l. all_but (detection_line S u) u size l)
      ∙ flat_flat (λ u j. detection_line S u (other u j)) (size - 1) size

pub coverage : Covered
coverage S A =
    record {
      lines = lines_of S A;
      pairs = pairs_of S A;
      each = each_of S A;
      order = order_of S A;
      runs = λ x l. let p = pairs_of S A x l in lines_are_runs S A (node_at S.net.n x) (end_at S.net.n x) p.0 p.1 p.2;
      ends = λ l h.
          let e = A.rules.ends l h in
          let a = e.0 in
          let b = e.1 in
          (each_of S A (get_or S.a l 0) (get_or S.b l 0) (omega arith) b (λ q. omega arith), each_of S A (get_or S.b l 0) (get_or S.a l 0) b (omega arith) (λ q. omega arith));
    }
