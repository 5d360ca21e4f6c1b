-- No least path of a backup topology passes an isolated node on its way: the restricted weight is more than any path over the backbone.
use Rattle.std.specs.Prelude.{if◌then◌else◌}
use mathlib.Core.Path.{◌≡◌, refl}
use mathlib.Core.Bool.{Bool, true, false}
use Prim.Native.Nat.{ℕ, suc, ◌+◌, ◌-◌, ◌*◌, ◌≤◌, ◌<◌}
use native.Mathlib.Nat.{mul-le-mul_right}
use native.Mathlib.Omega.{arith}
use lib.Dec.{eqb}
use borrow.Author.Tests.{eqb-true, eqb-false}
use Rattle.rules.specs.Limits.{restricted_weight}
use Rattle.rules.specs.File.{Set}
use Rattle.rules.specs.Isolation.{isolated, hop_weight, usable, normal_hop}
use Rattle.rules.specs.Distance.{Path, here, over, far, distance}
use Rattle.rules.specs.Sets.{Walk, stay, go, AcceptedSet}
use Rattle.rules.proofs.Ground.Choices.{clash, false_of, if_yes, if_no}
use Rattle.rules.proofs.Isolation.Links.{neighbours_turned, hop_neighbours, hop_isolated, hop_into, hop_leaves, hop_enters, usable_hop, hop_usable, neighbours_below}
use Rattle.rules.proofs.Isolation.Homes.{backbone_node, backbone_of, outlet_of}
use Rattle.rules.proofs.Isolation.Degree.{path_below_restricted}
use Rattle.rules.proofs.Distance.Rounds.{Way, best, attained, found, found_light}
use Rattle.rules.proofs.Distance.Rounds as rounds
use Rattle.rules.proofs.Distance.Reach.{normal_link, some_weight, normal_weight_fits, least_distances, distance_self, distance_over}

-- the weight of a hop over a normal link, and 0 for any other
abbrev normal_weight : Set → ℕ → ℕ → ℕ → ℕ
normal_weight S i u w = if normal_hop S i u w then hop_weight S i u w else 0

module _ (S : Set) (A : AcceptedSet S) (i : ℕ) (lo : 1 ≤ i) (hi : i ≤ S.net.k) where
  -- ---- over the backbone

  normal_only : (u w : ℕ) → 1 ≤ normal_weight S i u w → normal_hop S i u w ≡ true
  normal_only u w h = by (normal_hop S i u w) refl
    where
      by : (b : Bool) → normal_hop S i u w ≡ b → normal_hop S i u w ≡ true
      by true e = e
      by false e = absurd (omega (arith, if_no (normal_hop S i u w) (hop_weight S i u w) 0 e))

  normal_light : (u w : ℕ) → normal_weight S i u w ≤ S.net.wmax
  normal_light u w = by (normal_hop S i u w) refl
    where
      by : (b : Bool) → normal_hop S i u w ≡ b → normal_weight S i u w ≤ S.net.wmax
      by true e = omega (arith, if_yes (normal_hop S i u w) (hop_weight S i u w) 0 e, (normal_weight_fits S A i u w hi e).1)
      by false e = omega (arith, if_no (normal_hop S i u w) (hop_weight S i u w) 0 e)

  walk_way : (u w t d : ℕ) → Walk (normal_hop S i) u w → Way (normal_weight S i) S.net.n t w d → (e : ℕ) × Way (normal_weight S i) S.net.n t u e
  walk_way u w t d stay p = (d, p)
  walk_way u w t d (go {w = x} r e) p =
      let q = normal_link S i x w e in
      walk_way u x t (normal_weight S i x w + d) r
      (rounds.over (backbone_node S i x q.one) (backbone_node S i w q.other)
      (omega (arith, if_yes (normal_hop S i x w) (hop_weight S i x w) 0 e, (normal_weight_fits S A i x w hi e).0)) p)

  way_distance : (w u t d : ℕ) → t < S.net.n → Way (normal_weight S i) S.net.n w u d → distance S i u t ≤ d + distance S i w t
  way_distance w u t d lt rounds.there = omega arith
  way_distance w u t d lt (rounds.over {w = x} {total = e} lu lx g r) =
      let n = normal_only u x g in
      omega (
        arith,
        if_yes (normal_hop S i u x) (hop_weight S i u x) 0 n,
        distance_over S A i t hi lt u x (hop_usable S i u x (normal_weight_fits S A i u x hi n).0),
        way_distance w x t e lt r,
      )

  -- between nodes of the backbone a path weighs less than one restricted link
  pub over_backbone : (u w t : ℕ) → u < S.net.n → w < S.net.n → t < S.net.n → isolated S i u ≡ false → isolated S i w ≡ false
      → distance S i u t < restricted_weight S.net + distance S i w t
  over_backbone u w t lu lw lt eu ew =
      let p = walk_way u w w 0 ((A.sound i lo hi).joined u w (backbone_of S i u lu eu) (backbone_of S i w lw ew)) rounds.there in
      let few : suc (S.net.n - 1) ≤ 32 = omega (arith, A.rules.limits.nodes.0, A.rules.limits.nodes.1) in
      let size : S.net.n ≡ suc (S.net.n - 1) = omega (arith, A.rules.limits.nodes.0) in
      let less : suc (S.net.n - 1) * S.net.wmax < far = omega (arith, mul-le-mul_right S.net.wmax few, A.rules.limits.weights.1) in
      let d = best (normal_weight S i) S.net.n far w (S.net.n - 1) u in
      let f = found (normal_weight S i) S.net.n far w (S.net.n - 1) size S.net.wmax normal_light less u p.0 p.1 in
      let g = found_light (normal_weight S i) S.net.n far w (S.net.n - 1) size S.net.wmax normal_light less u p.0 p.1 in
      omega (
        arith,
        way_distance w u t d lt (attained (normal_weight S i) S.net.n far w (S.net.n - 1) u lu f),
        g,
        path_below_restricted S A,
      )

  -- ---- to and from isolated nodes

  leaving : (u t d : ℕ) → isolated S i u ≡ true → (u ≡ t → ⊥) → Path S i t u d → restricted_weight S.net ≤ d
  leaving u t d e ne here = absurd (ne refl)
  leaving u t d e ne (over {w = w} {total = x} lu lw g r) = omega (arith, hop_leaves S i u w e (usable_hop S i u w g))

  entering : (t u d : ℕ) → isolated S i t ≡ true → (u ≡ t → ⊥) → Path S i t u d → restricted_weight S.net ≤ d
  entering t u d e ne here = absurd (ne refl)
  entering t u d e ne (over {w = w} {total = x} lu lw g r) = by (λ ne'. entering t w x e ne' r) (eqb w t) refl
    where
      by : ((w ≡ t → ⊥) → restricted_weight S.net ≤ x) → (b : Bool) → eqb w t ≡ b → restricted_weight S.net ≤ hop_weight S i u w + x
      by ih true q = omega (arith, hop_enters S i u w (rw (eqb-true w t q) e) (usable_hop S i u w g))
      by ih false q = omega (arith, ih (eqb-false w t q))

  module _ (u t : ℕ) (lu : u < S.net.n) (lt : t < S.net.n) where
    -- from an isolated node, or to one, there is a restricted link to cross
    pub from_isolated : isolated S i u ≡ true → (u ≡ t → ⊥) → restricted_weight S.net ≤ distance S i u t
    from_isolated e ne = leaving u t (distance S i u t) e ne (least_distances S A i u t hi lu lt).attained

    pub to_isolated : isolated S i t ≡ true → (u ≡ t → ⊥) → restricted_weight S.net ≤ distance S i u t
    to_isolated e ne = entering t u (distance S i u t) e ne (least_distances S A i u t hi lu lt).attained

    -- from the backbone any node is nearer than two restricted links
    pub from_backbone : isolated S i u ≡ false → distance S i u t < 2 * restricted_weight S.net
    from_backbone eu = by (isolated S i t) refl
      where
        by : (b : Bool) → isolated S i t ≡ b → distance S i u t < 2 * restricted_weight S.net
        by true e =
            let q = outlet_of S A i t lt e in
            let n = neighbours_turned S t q.0 q.1.joined in
            let r = hop_into S i q.0 t n q.1.free e in
            omega (
              arith,
              over_backbone u q.0 t lu q.1.node lt eu q.1.free,
              distance_over S A i t hi lt q.0 t (hop_usable S i q.0 t (omega (arith, r, some_weight S A))),
              distance_self S A i t hi lt,
              r,
            )
        by false e = omega (arith, over_backbone u t t lu lt lt eu e, distance_self S A i t hi lt, some_weight S A)

  -- a hop to an isolated node that is not the destination lies on no least path
  pub transit : (u w t : ℕ) → t < S.net.n → usable S i u w ≡ true → isolated S i w ≡ true → (w ≡ t → ⊥)
      → distance S i u t < hop_weight S i u w + distance S i w t
  transit u w t lt g e ne =
      let h = usable_hop S i u w g in
      let b = neighbours_below S A.rules u w (hop_neighbours S i u w h) in
      omega (
        arith,
        hop_enters S i u w e h,
        from_isolated w t b.1 lt e ne,
        from_backbone u t b.0 lt (false_of (isolated S i u) (λ f. hop_isolated S i u w f e h)),
      )

  -- each node of a path is in the backbone
  abbrev pub InBackbone : (t u d : ℕ) → Path S i t u d → Type 0
  InBackbone t u d here = isolated S i u ≡ false
  InBackbone t u d (over {w = w} {total = e} lu lw g r) = (isolated S i u ≡ false) × InBackbone t w e r

  -- a least path between nodes of the backbone stays in it
  pub stays_in_backbone : (t u d : ℕ) → t < S.net.n → isolated S i u ≡ false → isolated S i t ≡ false → (p : Path S i t u d) → d ≡ distance S i u t → InBackbone t u d p
  stays_in_backbone t u d lt eu et here h = eu
  stays_in_backbone t u d lt eu et (over {w = w} {total = e} lu lw g r) h =
      let l = (least_distances S A i w t hi lw lt).below e r in
      let o = distance_over S A i t hi lt u w g in
      (eu, stays_in_backbone t w e lt (false_of (isolated S i w) (λ f. let z = transit u w t lt g f (λ q. clash (isolated S i w) f (rw q et)) in omega arith)) et r (omega arith))
