-- Laws of links: the link between two nodes, its class by their homes, and the weight of the hop, for a set that meets the rules.
use mathlib.Core.Path.{◌≡◌, refl, ap, ap₂, ◌∙◌}
use mathlib.Core.Logic.{◌⊎◌, inl, inr, ⊎_elim}
use mathlib.Core.Bool.{Bool, true, false, ◌&&◌}
use Prim.Native.Nat.{ℕ, zero, suc, ◌+◌, ◌*◌, ◌≤◌, ◌<◌}
use native.Mathlib.Nat.{mul-le-mul_right, eq-or-lt_of_le, le_of_suc-le-suc}
use native.Mathlib.Omega.{arith}
use lib.Dec.{eqb}
use lib.ListN.{get_or}
use lib.Seq.{get_or-take}
use borrow.Author.Tests.{eqb-true, eq-eqb, ltb-true, lt-ltb, leb-true, le-leb}
use Rattle.rules.specs.Limits.{restricted_weight, row_weights}
use Rattle.rules.specs.File.{Set}
use Rattle.rules.specs.Isolation.{joins, link_between, neighbours, isolated, Class, Normal, class_by, class, row_in_force, weight_by, weight_from, hop_weight, usable}
use Rattle.rules.specs.Sets.{MeetsRules}
use Rattle.rules.proofs.Ground.Choices.{and_of, and_left, and_right, or_left, or_right, or_cases, false_of, same_test, if_yes, if_no}
use Rattle.rules.proofs.Ground.Numbers.{lowest_ext, lowest_found, lowest_is, lowest_one}

-- u and w are link l's ends, in either order
abbrev pub Ends : Set → ℕ → ℕ → ℕ → Type 0
Ends S l u w = ((get_or S.a l 0 ≡ u) × (get_or S.b l 0 ≡ w)) ⊎ ((get_or S.a l 0 ≡ w) × (get_or S.b l 0 ≡ u))

pub turned : (S : Set) (l u w : ℕ) → Ends S l u w → Ends S l w u
turned S l u w (inl e) = inr e
turned S l u w (inr e) = inl e

-- a link has one other end
pub one_end : (S : Set) (l u w x : ℕ) → Ends S l u w → Ends S l u x → w ≡ x
one_end S l u w x (inl e) (inl f) = cc
one_end S l u w x (inl e) (inr f) = cc
one_end S l u w x (inr e) (inl f) = cc
one_end S l u w x (inr e) (inr f) = cc

pub joins_ends : (S : Set) (l u w : ℕ) → joins S l u w ≡ true → Ends S l u w
unfolding joins
joins_ends S l u w e = go (or_cases (eqb a u && eqb b w) (eqb a w && eqb b u) e)
  where
    a : ℕ
    a = get_or S.a l 0

    b : ℕ
    b = get_or S.b l 0

    go : ((eqb a u && eqb b w) ≡ true) ⊎ ((eqb a w && eqb b u) ≡ true) → Ends S l u w
    go (inl q) = inl (eqb-true a u (and_left (eqb a u) (eqb b w) q), eqb-true b w (and_right (eqb a u) (eqb b w) q))
    go (inr q) = inr (eqb-true a w (and_left (eqb a w) (eqb b u) q), eqb-true b u (and_right (eqb a w) (eqb b u) q))

pub ends_join : (S : Set) (l u w : ℕ) → Ends S l u w → joins S l u w ≡ true
unfolding joins
ends_join S l u w (inl e) =
    or_left (eqb (get_or S.a l 0) u && eqb (get_or S.b l 0) w) (eqb (get_or S.a l 0) w && eqb (get_or S.b l 0) u)
    (and_of (eqb (get_or S.a l 0) u) (eqb (get_or S.b l 0) w) (eq-eqb (get_or S.a l 0) u e.0) (eq-eqb (get_or S.b l 0) w e.1))
ends_join S l u w (inr e) =
    or_right (eqb (get_or S.a l 0) u && eqb (get_or S.b l 0) w) (eqb (get_or S.a l 0) w && eqb (get_or S.b l 0) u)
    (and_of (eqb (get_or S.a l 0) w) (eqb (get_or S.b l 0) u) (eq-eqb (get_or S.a l 0) w e.0) (eq-eqb (get_or S.b l 0) u e.1))

module _ (S : Set) where
  -- ---- neighbours

  pub link_below : (u w : ℕ) → neighbours S u w ≡ true → link_between S u w < S.net.m
  unfolding neighbours
  link_below u w e = ltb-true (link_between S u w) S.net.m e

  pub link_ends : (u w : ℕ) → neighbours S u w ≡ true → Ends S (link_between S u w) u w
  unfolding link_between
  link_ends u w e = go (lowest_is (λ l. joins S l u w) S.net.m S.net.m)
    where
      go : (link_between S u w ≡ S.net.m) ⊎ ((link_between S u w < S.net.m) × (joins S (link_between S u w) u w ≡ true)) → Ends S (link_between S u w) u w
      go (inl q) = absurd (omega (arith, link_below u w e))
      go (inr q) = joins_ends S (link_between S u w) u w q.1

  pub ends_neighbours : (l u w : ℕ) → l < S.net.m → Ends S l u w → neighbours S u w ≡ true
  unfolding neighbours link_between
  ends_neighbours l u w h e =
      let f = lowest_found (λ x. joins S x u w) S.net.m S.net.m l h (ends_join S l u w e) in
      lt-ltb (link_between S u w) S.net.m (omega (arith, f.0))

  pub neighbours_turned : (u w : ℕ) → neighbours S u w ≡ true → neighbours S w u ≡ true
  neighbours_turned u w e =
      ends_neighbours (link_between S u w) w u (link_below u w e) (turned S (link_between S u w) u w (link_ends u w e))

  -- "the same both ways": one link, whichever end comes first
  pub link_turned : (u w : ℕ) → link_between S u w ≡ link_between S w u
  unfolding link_between
  link_turned u w =
      lowest_ext (λ l. joins S l u w) (λ l. joins S l w u) S.net.m S.net.m
      (λ l h. same_test (joins S l u w) (joins S l w u) (λ e. ends_join S l w u (turned S l u w (joins_ends S l u w e)))
      (λ e. ends_join S l u w (turned S l w u (joins_ends S l w u e))))

  -- ---- classes by the ends

  class_turned : (x y : Bool) → class_by x y ≡ class_by y x
  unfolding class_by
  class_turned true true = refl
  class_turned true false = refl
  class_turned false true = refl
  class_turned false false = refl

  pub class_ends : (i l u w : ℕ) → Ends S l u w → class S i l ≡ class_by (isolated S i u) (isolated S i w)
  unfolding class
  class_ends i l u w (inl e) = rw (e.0, e.1)
  class_ends i l u w (inr e) = rw (e.0, e.1) (class_turned (isolated S i w) (isolated S i u))

  pub class_between : (i u w : ℕ) → neighbours S u w ≡ true → class S i (link_between S u w) ≡ class_by (isolated S i u) (isolated S i w)
  class_between i u w e = class_ends i (link_between S u w) u w (link_ends u w e)

  -- ---- the weight of a hop

  pub hop_neighbours : (i u w : ℕ) → 1 ≤ hop_weight S i u w → neighbours S u w ≡ true
  unfolding hop_weight
  hop_neighbours i u w h = go (neighbours S u w) refl
    where
      go : (b : Bool) → neighbours S u w ≡ b → neighbours S u w ≡ true
      go true e = e
      go false e = absurd (omega (arith, if_no (neighbours S u w) (weight_from S i u (link_between S u w)) 0 e))

  hop_is : (i u w : ℕ) (x y : Bool) → neighbours S u w ≡ true → isolated S i u ≡ x → isolated S i w ≡ y
      → hop_weight S i u w ≡ weight_by S (class_by x y) (get_or (row_in_force S i) (link_between S u w) 0)
  unfolding hop_weight weight_from
  hop_is i u w x y e ex ey =
      if_yes (neighbours S u w) (weight_from S i u (link_between S u w)) 0 e
      ∙ ap (λ (z : Class). weight_by S z (get_or (row_in_force S i) (link_between S u w) 0)) (class_between i u w e ∙ ap₂ class_by ex ey)

  -- a link with both ends isolated is never used
  pub hop_isolated : (i u w : ℕ) → isolated S i u ≡ true → isolated S i w ≡ true → 1 ≤ hop_weight S i u w → ⊥
  unfolding weight_by class_by
  hop_isolated i u w ex ey h = omega (arith, hop_is i u w true true (hop_neighbours i u w h) ex ey)

  -- with one end isolated it has the restricted weight
  pub hop_out : (i u w : ℕ) → neighbours S u w ≡ true → isolated S i u ≡ true → isolated S i w ≡ false → hop_weight S i u w ≡ restricted_weight S.net
  unfolding weight_by class_by
  hop_out i u w e ex ey = hop_is i u w true false e ex ey

  pub hop_into : (i u w : ℕ) → neighbours S u w ≡ true → isolated S i u ≡ false → isolated S i w ≡ true → hop_weight S i u w ≡ restricted_weight S.net
  unfolding weight_by class_by
  hop_into i u w e ex ey = hop_is i u w false true e ex ey

  pub hop_plain : (i u w : ℕ) → neighbours S u w ≡ true → isolated S i u ≡ false → isolated S i w ≡ false
      → hop_weight S i u w ≡ get_or (row_in_force S i) (link_between S u w) 0
  unfolding weight_by class_by
  hop_plain i u w e ex ey = hop_is i u w false false e ex ey

  -- a usable link at an isolated node is restricted
  pub hop_leaves : (i u w : ℕ) → isolated S i u ≡ true → 1 ≤ hop_weight S i u w → hop_weight S i u w ≡ restricted_weight S.net
  hop_leaves i u w ex h =
      hop_out i u w (hop_neighbours i u w h) ex (false_of (isolated S i w) (λ ey. hop_isolated i u w ex ey h))

  pub hop_enters : (i u w : ℕ) → isolated S i w ≡ true → 1 ≤ hop_weight S i u w → hop_weight S i u w ≡ restricted_weight S.net
  hop_enters i u w ey h =
      hop_into i u w (hop_neighbours i u w h) (false_of (isolated S i u) (λ ex. hop_isolated i u w ex ey h)) ey

  pub usable_hop : (i u w : ℕ) → usable S i u w ≡ true → 1 ≤ hop_weight S i u w
  unfolding usable
  usable_hop i u w e = leb-true 1 (hop_weight S i u w) e

  pub hop_usable : (i u w : ℕ) → 1 ≤ hop_weight S i u w → usable S i u w ≡ true
  unfolding usable
  hop_usable i u w h = le-leb 1 (hop_weight S i u w) h

-- ---- a set that meets the rules

module _ (S : Set) (M : MeetsRules S) where
  -- ---- "at most one link per pair"

  -- a link's place in the order
  key : ℕ → ℕ
  key l = 32 * get_or S.a l 0 + get_or S.b l 0

  key_step : (l : ℕ) → suc l < S.net.m → key l < key (suc l)
  unfolding key
  key_step l h =
      let few = M.limits.nodes.1 in
      let e = M.ends l (omega arith) in
      let f = M.ends (suc l) h in
      ⊎_elim (λ (p : get_or S.a l 0 < get_or S.a (suc l) 0). omega (arith, e.1, few))
      (λ (p : (get_or S.a l 0 ≡ get_or S.a (suc l) 0) × (get_or S.b l 0 < get_or S.b (suc l) 0)). omega (arith, p.0, p.1))
      (M.order l h)

  key_lt : (j l : ℕ) → l < j → j < S.net.m → key l < key j
  key_lt zero l h g = absurd (omega arith)
  key_lt (suc j) l h g =
      ⊎_elim (λ (e : l ≡ j). rw e (key_step j g)) (λ (p : l < j). omega (arith, key_lt j l p (omega arith), key_step j g)) (eq-or-lt_of_le (le_of_suc-le-suc h))

  -- two links with the same ends have the same place
  key_same : (l j u w : ℕ) → l < S.net.m → j < S.net.m → Ends S l u w → Ends S j u w → key l ≡ key j
  unfolding key
  key_same l j u w hl hj (inl e) (inl f) = omega (arith, e.0, e.1, f.0, f.1)
  key_same l j u w hl hj (inr e) (inr f) = omega (arith, e.0, e.1, f.0, f.1)
  key_same l j u w hl hj (inl e) (inr f) = absurd (omega (arith, e.0, e.1, f.0, f.1, (M.ends l hl).0, (M.ends j hj).0))
  key_same l j u w hl hj (inr e) (inl f) = absurd (omega (arith, e.0, e.1, f.0, f.1, (M.ends l hl).0, (M.ends j hj).0))

  pub link_is : (l u w : ℕ) → l < S.net.m → Ends S l u w → link_between S u w ≡ l
  unfolding link_between
  link_is l u w h e =
      lowest_one (λ x. joins S x u w) S.net.m S.net.m l h (ends_join S l u w e)
      (λ j g. false_of (joins S j u w) (λ q. let lj : j < S.net.m = omega arith in omega (arith, key_lt l j g h, key_same j l u w lj h (joins_ends S j u w q) e)))

  pub neighbours_below : (u w : ℕ) → neighbours S u w ≡ true → (u < S.net.n) × (w < S.net.n)
  neighbours_below u w e = go (link_ends S u w e)
    where
      l : ℕ
      l = link_between S u w

      go : Ends S l u w → (u < S.net.n) × (w < S.net.n)
      go (inl q) = let r = M.ends l (link_below S u w e) in (omega (arith, r.0, r.1, q.0), omega (arith, r.1, q.1))
      go (inr q) = let r = M.ends l (link_below S u w e) in (omega (arith, r.1, q.1), omega (arith, r.0, r.1, q.0))

  -- in topology 0 nothing is isolated
  pub none_isolated : (v : ℕ) → isolated S 0 v ≡ false
  unfolding isolated
  none_isolated v = refl

  row_plain : (i l : ℕ) → i ≤ S.net.k → l < S.net.m → class S i l ≡ Normal → (1 ≤ get_or (row_in_force S i) l 0) × (get_or (row_in_force S i) l 0 ≤ S.net.wmax)
  unfolding row_in_force row_weights
  row_plain zero l hi hl e = rw (get_or-take S.net.m S.weights l 0 hl) (M.weights l hl)
  row_plain (suc i) l hi hl e = M.normal (suc i) l (omega arith) hi hl e

  -- a normal link weighs 1 to wmax
  pub hop_normal : (i u w : ℕ) → i ≤ S.net.k → neighbours S u w ≡ true → isolated S i u ≡ false → isolated S i w ≡ false
      → (1 ≤ hop_weight S i u w) × (hop_weight S i u w ≤ S.net.wmax)
  unfolding class_by
  hop_normal i u w hi e ex ey =
      rw (hop_plain S i u w e ex ey)
      (row_plain i (link_between S u w) hi (link_below S u w e) (class_between S i u w e ∙ ap₂ class_by ex ey))

  pub restricted_heavy : S.net.wmax < restricted_weight S.net
  unfolding restricted_weight
  restricted_heavy =
      let a = mul-le-mul_right S.net.wmax M.limits.links.0 in
      omega (arith, M.limits.weights.0)

  pub restricted_bound : restricted_weight S.net ≤ 16776960
  unfolding restricted_weight
  restricted_bound =
      let a = mul-le-mul_right S.net.wmax M.limits.links.1 in
      omega (arith, M.limits.weights.1)

  -- no hop weighs more than the restricted weight
  pub hop_light : (i u w : ℕ) → i ≤ S.net.k → hop_weight S i u w ≤ restricted_weight S.net
  hop_light i u w hi = go (hop_weight S i u w) refl
    where
      by : neighbours S u w ≡ true → (x y : Bool) → isolated S i u ≡ x → isolated S i w ≡ y → 1 ≤ hop_weight S i u w → hop_weight S i u w ≤ restricted_weight S.net
      by e true y ex ey h = omega (arith, hop_leaves S i u w ex h)
      by e false true ex ey h = omega (arith, hop_enters S i u w ey h)
      by e false false ex ey h = omega (arith, (hop_normal i u w hi e ex ey).1, restricted_heavy)

      go : (c : ℕ) → hop_weight S i u w ≡ c → hop_weight S i u w ≤ restricted_weight S.net
      go zero e = omega arith
      go (suc c) e =
          let h : 1 ≤ hop_weight S i u w = omega arith in
          by (hop_neighbours S i u w h) (isolated S i u) (isolated S i w) refl refl h
