-- In an accepted set there is a path between any two nodes in every topology, and the distance is its least total weight.
use mathlib.Core.Path.{◌≡◌, refl}
use mathlib.Core.Bool.{Bool, true, false, ◌&&◌}
use Prim.Native.Nat.{ℕ, zero, suc, ◌+◌, ◌-◌, ◌≤◌, ◌<◌}
use native.Mathlib.Nat.{mul-le-mul_right}
use native.Mathlib.Omega.{arith}
use Rattle.rules.specs.Limits.{restricted_weight}
use Rattle.rules.specs.File.{Set}
use Rattle.rules.specs.Isolation.{neighbours, home, isolated, backbone, hop_weight, usable, normal_hop}
use Rattle.rules.specs.Distance.{Path, here, over, far, distance}
use Rattle.rules.specs.Sets.{Walk, stay, go, AcceptedSet}
use Rattle.rules.specs.Demands.Two.{LeastDistances}
use Rattle.rules.proofs.Ground.Choices.{and_left, and_right}
use Rattle.rules.proofs.Isolation.Links.{neighbours_turned, hop_neighbours, hop_out, hop_into, usable_hop, hop_usable, neighbours_below, none_isolated, hop_normal, restricted_heavy, restricted_bound, hop_light}
use Rattle.rules.proofs.Isolation.Homes.{backbone_free, backbone_of, home_low, home_high, outlet_of}
use Rattle.rules.proofs.Distance.Distances.{distance_found, distance_light, distance_least}

-- a path, whatever its total
abbrev pub Joined : Set → ℕ → ℕ → ℕ → Type 0
Joined S i t u = (d : ℕ) × Path S i t u d

-- both ends of a normal link are neighbours in the backbone
pub record NormalLink (S : Set) (i u w : ℕ) : Type 0 where
  pub joined : neighbours S u w ≡ true
  pub one : backbone S i u ≡ true
  pub other : backbone S i w ≡ true

pub normal_link : (S : Set) (i u w : ℕ) → normal_hop S i u w ≡ true → NormalLink S i u w
unfolding normal_hop
normal_link S i u w e =
    let b = and_right (neighbours S u w) (backbone S i u && backbone S i w) e in
    record {
      joined = and_left (neighbours S u w) (backbone S i u && backbone S i w) e;
      one = and_left (backbone S i u) (backbone S i w) b;
      other = and_right (backbone S i u) (backbone S i w) b;
    }

module _ (S : Set) (A : AcceptedSet S) where
  -- one hop more
  hop : (i t u w : ℕ) → neighbours S u w ≡ true → 1 ≤ hop_weight S i u w → Joined S i t w → Joined S i t u
  hop i t u w e h p =
      let b = neighbours_below S A.rules u w e in
      (hop_weight S i u w + p.0, over b.0 b.1 (hop_usable S i u w h) p.1)

  pub some_weight : 1 ≤ restricted_weight S.net
  some_weight = omega (arith, restricted_heavy S A.rules)

  pub normal_weight_fits : (i u w : ℕ) → i ≤ S.net.k → normal_hop S i u w ≡ true → (1 ≤ hop_weight S i u w) × (hop_weight S i u w ≤ S.net.wmax)
  normal_weight_fits i u w hi e =
      let q = normal_link S i u w e in
      hop_normal S A.rules i u w hi q.joined (backbone_free S i u q.one) (backbone_free S i w q.other)

  module _ (i : ℕ) (lo : 1 ≤ i) (hi : i ≤ S.net.k) (t : ℕ) (lt : t < S.net.n) where
    along : (u w : ℕ) → Walk (normal_hop S i) u w → Joined S i t w → Joined S i t u
    along u w stay p = p
    along u w (go {w = x} r e) p = along u x r (hop i t x w (normal_link S i x w e).joined (normal_weight_fits i x w hi e).0 p)

    from_backbone : (u : ℕ) → u < S.net.n → isolated S i u ≡ false → Joined S i t u
    from_backbone u lu e = by (isolated S i t) refl
      where
        walk : (w : ℕ) → w < S.net.n → isolated S i w ≡ false → Joined S i t w → Joined S i t u
        walk w lw f p = along u w ((A.sound i lo hi).joined u w (backbone_of S i u lu e) (backbone_of S i w lw f)) p

        by : (b : Bool) → isolated S i t ≡ b → Joined S i t u
        by true f =
            let q = outlet_of S A i t lt f in
            let n = neighbours_turned S t q.0 q.1.joined in
            walk q.0 q.1.node q.1.free
            (hop i t q.0 t n (omega (arith, hop_into S i q.0 t n q.1.free f, some_weight)) (0, here))
        by false f = walk t lt f (0, here)

    from_any : (u : ℕ) → u < S.net.n → Joined S i t u
    from_any u lu = by (isolated S i u) refl
      where
        by : (b : Bool) → isolated S i u ≡ b → Joined S i t u
        by true e =
            let q = outlet_of S A i u lu e in
            hop i t u q.0 q.1.joined (omega (arith, hop_out S i u q.0 q.1.joined e q.1.free, some_weight)) (from_backbone q.0 q.1.node q.1.free)
        by false e = from_backbone u lu e

  -- a usable link is a link of the graph, which topology 0 uses
  pub usable_first : (i u w : ℕ) → usable S i u w ≡ true → 1 ≤ hop_weight S 0 u w
  usable_first i u w g =
      (hop_normal S A.rules 0 u w (omega arith) (hop_neighbours S i u w (usable_hop S i u w g)) (none_isolated S A.rules u) (none_isolated S A.rules w)).0

  in_graph : (i t u d : ℕ) → Path S i t u d → Joined S 0 t u
  in_graph i t u d here = (0, here)
  in_graph i t u d (over {w = w} {total = e} lu lw g r) =
      hop 0 t u w (hop_neighbours S i u w (usable_hop S i u w g)) (usable_first i u w g) (in_graph i t w e r)

  -- every node reaches every node in every topology
  pub reach : (i u t : ℕ) → i ≤ S.net.k → u < S.net.n → t < S.net.n → Joined S i t u
  reach zero u t hi lu lt =
      let j = from_any (home S t) (home_low S A t lt) (home_high S A t lt) t lt u lu in
      in_graph (home S t) t u j.0 j.1
  reach (suc i) u t hi lu lt = from_any (suc i) (omega arith) hi t lt u lu

pub least_distances : LeastDistances
least_distances S A i u t hi lu lt = let j = reach S A i u t hi lu lt in distance_least S A.rules i hi u t j.0 lu j.1

module _ (S : Set) (A : AcceptedSet S) (i t : ℕ) (hi : i ≤ S.net.k) (lt : t < S.net.n) where
  -- every distance is below `far`, and so is its sum with any hop: no such sum needs more than 31 bits
  pub below_far : (u : ℕ) → u < S.net.n → distance S i u t < far
  below_far u lu = let j = reach S A i u t hi lu lt in distance_found S A.rules i hi u t j.0 lu j.1

  pub sum_below_far : (u x y : ℕ) → u < S.net.n → hop_weight S i x y + distance S i u t < far
  sum_below_far u x y lu =
      let j = reach S A i u t hi lu lt in
      let few : S.net.n - 1 ≤ 31 = omega (arith, A.rules.limits.nodes.1) in
      omega (
        arith,
        distance_light S A.rules i hi u t j.0 lu j.1,
        mul-le-mul_right (restricted_weight S.net) few,
        restricted_bound S A.rules,
        hop_light S A.rules i x y hi,
      )

  pub distance_self : distance S i t t ≡ 0
  distance_self = omega (arith, (least_distances S A i t t hi lt lt).below 0 here)

  -- a distance is at most any hop and the distance after it
  pub distance_over : (u w : ℕ) → usable S i u w ≡ true → distance S i u t ≤ hop_weight S i u w + distance S i w t
  distance_over u w g =
      let b = neighbours_below S A.rules u w (hop_neighbours S i u w (usable_hop S i u w g)) in
      (least_distances S A i u t hi b.0 lt).below (hop_weight S i u w + distance S i w t)
      (over b.0 b.1 g (least_distances S A i w t hi b.1 lt).attained)
