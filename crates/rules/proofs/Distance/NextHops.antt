-- Next hops lie on least paths, ties to the lower number; alternates are the nearest neighbours over a restricted link.
use mathlib.Core.Path.{◌≡◌, refl, sym, ◌∙◌}
use mathlib.Core.Logic.{◌⊎◌, inl, inr}
use mathlib.Core.Bool.{Bool, true, false, not, ◌&&◌}
use Prim.Native.Nat.{ℕ, ◌+◌, ◌≤◌, ◌<◌}
use native.Mathlib.Omega.{arith}
use lib.Dec.{eqb}
use borrow.Author.Tests.{eqb-true, eqb-false, eq-eqb, ne_eqb, not-true}
use Rattle.rules.specs.Basics.{lowest, least}
use Rattle.rules.specs.File.{Set}
use Rattle.rules.specs.Isolation.{link_between, neighbours, home, isolated, class_by, class, hop_weight, usable}
use Rattle.rules.specs.Distance.{Path, here, over, far, distances, distance, on_least_path, next_hop, is_restricted, candidate, nearest, alternate}
use Rattle.rules.specs.Sets.{AcceptedSet}
use Rattle.rules.specs.Demands.Two.{NextHopIs, LeastNextHops, AlternateIs, NearestAlternates}
use Rattle.rules.proofs.Ground.Choices.{and_of, and_left, and_right, clash, if_yes, if_no}
use Rattle.rules.proofs.Ground.Numbers.{lowest_found, lowest_before, least_le, least_is}
use Rattle.rules.proofs.Isolation.Links.{class_between, neighbours_below}
use Rattle.rules.proofs.Isolation.Homes.{Outlet, home_high, at_home, outlets}
use Rattle.rules.proofs.Distance.Distances.{least_one}
use Rattle.rules.proofs.Distance.Reach.{least_distances, below_far, distance_over}

-- ---- next hops

module _ (S : Set) (i u t : ℕ) where
  -- w is a neighbour "whose link weight plus its distance to t equals u's distance"
  pub on_least : (w : ℕ) → usable S i u w ≡ true → hop_weight S i u w + distance S i w t ≡ distance S i u t → on_least_path S i u (distances S i t) w ≡ true
  unfolding on_least_path distance
  on_least w g e =
      and_of (usable S i u w) (eqb (hop_weight S i u w + distance S i w t) (distance S i u t)) g (eq-eqb (hop_weight S i u w + distance S i w t) (distance S i u t) e)

  least_usable : (w : ℕ) → on_least_path S i u (distances S i t) w ≡ true → usable S i u w ≡ true
  unfolding on_least_path distance
  least_usable w e = and_left (usable S i u w) (eqb (hop_weight S i u w + distance S i w t) (distance S i u t)) e

  least_sum : (w : ℕ) → on_least_path S i u (distances S i t) w ≡ true → hop_weight S i u w + distance S i w t ≡ distance S i u t
  unfolding on_least_path distance
  least_sum w e =
      eqb-true (hop_weight S i u w + distance S i w t) (distance S i u t)
      (and_right (usable S i u w) (eqb (hop_weight S i u w + distance S i w t) (distance S i u t)) e)

  pub next_is : (u ≡ t → ⊥) → next_hop S i u t ≡ lowest (on_least_path S i u (distances S i t)) S.net.n 255
  unfolding next_hop
  next_is ne = if_no (eqb u t) u (lowest (on_least_path S i u (distances S i t)) S.net.n 255) (ne_eqb u t ne)

-- what the lowest neighbour on a least path is
pub record Next (S : Set) (i u t v : ℕ) : Type 0 where
  pub node : v < S.net.n
  pub over : usable S i u v ≡ true
  pub sum : hop_weight S i u v + distance S i v t ≡ distance S i u t
  pub lower : (x : ℕ) → x < v → usable S i u x ≡ true → hop_weight S i u x + distance S i x t ≡ distance S i u t → ⊥

-- the first hop of a path whose total is the distance
first_hop : (S : Set) → AcceptedSet S → (i u t : ℕ) → i ≤ S.net.k → t < S.net.n → (u ≡ t → ⊥) → (d : ℕ) → Path S i t u d → d ≡ distance S i u t
    → (w : ℕ) × (w < S.net.n) × (on_least_path S i u (distances S i t) w ≡ true)
first_hop S A i u t hi lt ne d here e = absurd (ne refl)
first_hop S A i u t hi lt ne d (over {w = w} {total = x} lu lw g r) e =
    (w, lw, on_least S i u t w g (omega (arith, (least_distances S A i w t hi lw lt).below x r, distance_over S A i t hi lt u w g)))

module _ (S : Set) (A : AcceptedSet S) (i u t : ℕ) (hi : i ≤ S.net.k) (lu : u < S.net.n) (lt : t < S.net.n) (ne : u ≡ t → ⊥) where
  pub next : Next S i u t (next_hop S i u t)
  next =
      let q = first_hop S A i u t hi lt ne (distance S i u t) (least_distances S A i u t hi lu lt).attained refl in
      let f = lowest_found (on_least_path S i u (distances S i t)) S.net.n 255 q.0 q.1 q.2 in
      let v = lowest (on_least_path S i u (distances S i t)) S.net.n 255 in
      rw (next_is S i u t ne) (record {
        node = omega (arith, f.0, q.1);
        over = least_usable S i u t v f.1;
        sum = least_sum S i u t v f.1;
        lower = λ x l g e.
            clash (on_least_path S i u (distances S i t) x) (on_least S i u t x g e)
            (lowest_before (on_least_path S i u (distances S i t)) S.net.n 255 x (omega (arith, f.0, q.1)) l);
      })

  next_hop_is : (v : ℕ) → Next S i u t v → NextHopIs S i u t v
  next_hop_is v q = record {
    node = q.node;
    over = q.over;
    rest = distance S i v t;
    path = (least_distances S A i v t hi q.node lt).attained;
    lies = rw q.sum (least_distances S A i u t hi lu lt);
    lower = λ x y l g p least.
        let e = least_one S i u t (hop_weight S i u x + y) (distance S i u t) least (least_distances S A i u t hi lu lt) in
        let b = (least_distances S A i x t hi (omega (arith, l, q.node)) lt).below y p in
        q.lower x l g (omega (arith, e, b, distance_over S A i t hi lt u x g));
  }

pub least_next_hops : LeastNextHops
least_next_hops S A i u t hi lu lt ne = next_hop_is S A i u t hi lu lt ne (next_hop S i u t) (next S A i u t hi lu lt ne)

-- ---- alternates

restricted_is : (x y : Bool) → is_restricted (class_by x y) ≡ true → x ≡ true → y ≡ false
unfolding is_restricted class_by
restricted_is true true e p = sym e
restricted_is true false e p = refl
restricted_is false y e p = absurd (clash false p refl)

is_restricted_by : (x y : Bool) → x ≡ true → y ≡ false → is_restricted (class_by x y) ≡ true
unfolding is_restricted class_by
is_restricted_by x y p q = rw (p, q)

module _ (S : Set) (A : AcceptedSet S) (u : ℕ) (lu : u < S.net.n) where
  pub candidate_outlet : (v w : ℕ) → candidate S u v w ≡ true → Outlet S (home S u) u w × (w ≡ v → ⊥)
  unfolding candidate
  candidate_outlet v w e =
      let r = is_restricted (class S (home S u) (link_between S u w)) in
      let n = and_left (neighbours S u w) (r && not (eqb w v)) e in
      let b = and_right (neighbours S u w) (r && not (eqb w v)) e in
      let c = and_left r (not (eqb w v)) b in (
        record {
          joined = n;
          node = (neighbours_below S A.rules u w n).1;
          free = restricted_is (isolated S (home S u) u) (isolated S (home S u) w) (rw (class_between S (home S u) u w n) at c) (at_home S A u lu);
        },
        eqb-false w v (not-true (eqb w v) (and_right r (not (eqb w v)) b)),
      )

  pub outlet_candidate : (v w : ℕ) → Outlet S (home S u) u w → (w ≡ v → ⊥) → candidate S u v w ≡ true
  unfolding candidate
  outlet_candidate v w o ne =
      let r = is_restricted (class S (home S u) (link_between S u w)) in
      let c : r ≡ true =
      rw (class_between S (home S u) u w o.joined) (is_restricted_by (isolated S (home S u) u) (isolated S (home S u) w) (at_home S A u lu) o.free) in
      and_of (neighbours S u w) (r && not (eqb w v)) o.joined (and_of r (not (eqb w v)) c (rw (ne_eqb w v ne)))

  -- of two restricted links, one is not to v
  some_candidate : (v : ℕ) → (w : ℕ) × (w < S.net.n) × (candidate S u v w ≡ true)
  some_candidate v = by (eqb (outlets S A u lu).0 v) refl
    where
      x : ℕ
      x = (outlets S A u lu).0

      y : ℕ
      y = (outlets S A u lu).1

      by : (b : Bool) → eqb x v ≡ b → (w : ℕ) × (w < S.net.n) × (candidate S u v w ≡ true)
      by true e =
          let o = (outlets S A u lu).4 in
          (y, o.node, outlet_candidate v y o (λ z. (outlets S A u lu).2 (eqb-true x v e ∙ sym z)))
      by false e = let o = (outlets S A u lu).3 in (x, o.node, outlet_candidate v x o (eqb-false x v e))

  module _ (v : ℕ) (lv : v < S.net.n) where
    -- the least distance of a candidate
    abbrev nearness : ℕ
    nearness = least (candidate S u v) (λ x. distance S (home S u) x v) S.net.n far

    -- some candidate has it
    nearest_one : (w : ℕ) × (w < S.net.n) × (candidate S u v w ≡ true) × (nearness ≡ distance S (home S u) w v)
    nearest_one = by (least_is (candidate S u v) (λ x. distance S (home S u) x v) S.net.n far)
      where
        by : (nearness ≡ far) ⊎ ((w : ℕ) × (w < S.net.n) × (candidate S u v w ≡ true) × (nearness ≡ distance S (home S u) w v))
            → (w : ℕ) × (w < S.net.n) × (candidate S u v w ≡ true) × (nearness ≡ distance S (home S u) w v)
        by (inl e) =
            let c = some_candidate v in
            absurd (omega (
              arith,
              least_le (candidate S u v) (λ x. distance S (home S u) x v) S.net.n far c.0 c.1 c.2,
              below_far S A (home S u) v (home_high S A u lu) lv c.0 c.1,
            ))
        by (inr q) = q

    abbrev is_nearest : ℕ → Bool
    is_nearest w = candidate S u v w && eqb (distance S (home S u) w v) nearness

    alternate_lowest : neighbours S u v ≡ true → (home S u ≡ home S v → ⊥) → alternate S u v ≡ lowest is_nearest S.net.n 255
    unfolding alternate nearest distance
    alternate_lowest e ne =
        if_yes (neighbours S u v && not (eqb (home S u) (home S v))) (nearest S u v (distances S (home S u) v)) 255
        (and_of (neighbours S u v) (not (eqb (home S u) (home S v))) e (rw (ne_eqb (home S u) (home S v) ne)))

    lowest_alternate : AlternateIs S u v (lowest is_nearest S.net.n 255)
    lowest_alternate =
        let q = nearest_one in
        let ok = and_of (candidate S u v q.0) (eqb (distance S (home S u) q.0 v) nearness) q.2 (eq-eqb (distance S (home S u) q.0 v) nearness (sym q.3)) in
        let f = lowest_found is_nearest S.net.n 255 q.0 q.1 ok in
        let w = lowest is_nearest S.net.n 255 in
        let is = eqb-true (distance S (home S u) w v) nearness (and_right (candidate S u v w) (eqb (distance S (home S u) w v) nearness) f.1) in
        let least_of : (x : ℕ) → x < S.net.n → candidate S u v x ≡ true → nearness ≤ distance S (home S u) x v =
        λ x lx c. least_le (candidate S u v) (λ y. distance S (home S u) y v) S.net.n far x lx c in
        record {
          chosen = and_left (candidate S u v w) (eqb (distance S (home S u) w v) nearness) f.1;
          nearest = λ x lx c. omega (arith, is, least_of x lx c);
          lower = λ x l c. before w is least_of x l (omega (arith, f.0, q.1)) c (eqb (distance S (home S u) x v) nearness) refl
              (lowest_before is_nearest S.net.n 255 x (omega (arith, f.0, q.1)) l);
        }
      where
        before : (w : ℕ) → distance S (home S u) w v ≡ nearness
            → ((x : ℕ) → x < S.net.n → candidate S u v x ≡ true → nearness ≤ distance S (home S u) x v)
            → (x : ℕ) → x < w → x < S.net.n → candidate S u v x ≡ true → (b : Bool) → eqb (distance S (home S u) x v) nearness ≡ b
            → is_nearest x ≡ false → distance S (home S u) w v < distance S (home S u) x v
        before w is least_of x l lx c true e n = absurd (clash (is_nearest x) (and_of (candidate S u v x) (eqb (distance S (home S u) x v) nearness) c e) n)
        before w is least_of x l lx c false e n = omega (arith, eqb-false (distance S (home S u) x v) nearness e, least_of x lx c)

pub nearest_alternates : NearestAlternates
nearest_alternates S A u v lu lv e ne = rw (alternate_lowest S A u lu v lv e ne) (lowest_alternate S A u lu v lv)
