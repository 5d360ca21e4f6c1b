-- Homes, isolated nodes and the backbone of an accepted set.
use mathlib.Core.Path.{◌≡◌, refl}
use mathlib.Core.Bool.{true, false, not, ◌&&◌}
use Prim.Native.Nat.{ℕ, ◌≤◌, ◌<◌}
use native.Mathlib.Omega.{arith}
use lib.Dec.{eqb, ltb, leb}
use borrow.Author.Tests.{eqb-true, eq-eqb, ltb-true, lt-ltb, le-leb, not-true}
use Rattle.rules.specs.File.{Set}
use Rattle.rules.specs.Isolation.{neighbours, home, isolated, backbone}
use Rattle.rules.specs.Sets.{Two, AcceptedSet}
use Rattle.rules.proofs.Ground.Choices.{and_of, and_left, and_right, false_of}
use Rattle.rules.proofs.Isolation.HomesAndRows.{homes_all}

module _ (S : Set) (i v : ℕ) where
  pub isolated_home : isolated S i v ≡ true → home S v ≡ i
  unfolding isolated
  isolated_home e = eqb-true (home S v) i (and_right (leb 1 i) (eqb (home S v) i) e)

  pub home_isolated : 1 ≤ i → home S v ≡ i → isolated S i v ≡ true
  unfolding isolated
  home_isolated h e = and_of (leb 1 i) (eqb (home S v) i) (le-leb 1 i h) (eq-eqb (home S v) i e)

  pub away : (home S v ≡ i → ⊥) → isolated S i v ≡ false
  away h = false_of (isolated S i v) (λ e. h (isolated_home e))

  pub backbone_node : backbone S i v ≡ true → v < S.net.n
  unfolding backbone
  backbone_node e = ltb-true v S.net.n (and_left (ltb v S.net.n) (not (isolated S i v)) e)

  pub backbone_free : backbone S i v ≡ true → isolated S i v ≡ false
  unfolding backbone
  backbone_free e = not-true (isolated S i v) (and_right (ltb v S.net.n) (not (isolated S i v)) e)

  pub backbone_of : v < S.net.n → isolated S i v ≡ false → backbone S i v ≡ true
  unfolding backbone
  backbone_of l e = and_of (ltb v S.net.n) (not (isolated S i v)) (lt-ltb v S.net.n l) (rw e)

-- a neighbour of v in the backbone of i
pub record Outlet (S : Set) (i v w : ℕ) : Type 0 where
  pub joined : neighbours S v w ≡ true
  pub node : w < S.net.n
  pub free : isolated S i w ≡ false

module _ (S : Set) (A : AcceptedSet S) where
  pub home_low : (v : ℕ) → v < S.net.n → 1 ≤ home S v
  home_low v l = (A.rules.homes v (omega (arith, homes_all S.net A.topologies))).0

  pub home_high : (v : ℕ) → v < S.net.n → home S v ≤ S.net.k
  home_high v l = (A.rules.homes v (omega (arith, homes_all S.net A.topologies))).1

  -- each node is isolated in its home
  pub at_home : (v : ℕ) → v < S.net.n → isolated S (home S v) v ≡ true
  at_home v l = home_isolated S (home S v) v (home_low v l) refl

  two_links : (v : ℕ) → v < S.net.n → Two (λ w. neighbours S v w && backbone S (home S v) w)
  two_links v l = (A.sound (home S v) (home_low v l) (home_high v l)).two v l (at_home v l)

  outlet : (i v w : ℕ) → (neighbours S v w && backbone S i w) ≡ true → Outlet S i v w
  outlet i v w e =
      let b = and_right (neighbours S v w) (backbone S i w) e in
      record { joined = and_left (neighbours S v w) (backbone S i w) e; node = backbone_node S i w b; free = backbone_free S i w b }

  -- "Each isolated node has at least two restricted links"
  pub outlets : (v : ℕ) → v < S.net.n → (x y : ℕ) × (x ≡ y → ⊥) × Outlet S (home S v) v x × Outlet S (home S v) v y
  outlets v l =
      let t = two_links v l in
      (t.one, t.other, t.apart, outlet (home S v) v t.one t.one_passes, outlet (home S v) v t.other t.other_passes)

  pub outlet_of : (i v : ℕ) → v < S.net.n → isolated S i v ≡ true → (w : ℕ) × Outlet S i v w
  outlet_of i v l e = let q = outlets v l in (q.0, rw (isolated_home S i v e) at q.3)
