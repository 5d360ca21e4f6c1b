-- Removing one node: the test for 9 is `Removable`; where any one node can be removed, each node alone meets the rules; and any one node of an
-- accepted set's graph can be.
use mathlib.Core.Path.{◌≡◌, refl, sym, ap, ◌∙◌}
use mathlib.Core.Bool.{Bool, true, false, not, ◌&&◌, false≢true}
use mathlib.Core.Logic.{◌↔◌}
use Prim.Native.Nat.{ℕ, zero, suc, ◌≤◌, ◌<◌}
use native.Mathlib.Omega.{arith}
use lib.Dec.{eqb}
use lib.ListN.{get_or, set, replicate, length-replicate}
use lib.Seq.{get_or-set_same, get_or-set_other}
use borrow.Author.Tests.{eqb-true, eqb-false, eq-eqb, ne_eqb, not-true}
use Rattle.rules.specs.Basics.{all}
use Rattle.rules.specs.File.{Set}
use Rattle.rules.specs.Isolation.{joins, link_between, neighbours, home, isolated, backbone, normal_hop}
use Rattle.rules.specs.Building.{with_homes, homeless, spared}
use Rattle.rules.specs.Sets.{MeetsRules, Walk, Two, Sound, AcceptedSet}
use Rattle.rules.specs.Demands.Building.{avoiding, OthersJoined, Removable, Fewer}
use Rattle.rules.proofs.Ground.Choices.{and_of, and_left, and_right}
use Rattle.rules.proofs.Ground.Numbers.{all_at, all_of}
use Rattle.rules.proofs.Isolation.Links.{neighbours_below}
use Rattle.rules.proofs.Isolation.Homes.{backbone_node, backbone_free, backbone_of, home_low, home_high, at_home}
use Rattle.rules.proofs.Isolation.Walks.{leaves, walk_map}
use Rattle.rules.proofs.Isolation.Connected.{Joined, hop_of, hop_link, hop_from, hop_to, connected_joined, joined_connected}
use Rattle.rules.proofs.Isolation.Sound.{fewer_isolated}

-- ---- one node isolated alone

-- the graph with node v alone isolated, in topology 1
abbrev pub alone : Set → ℕ → Set
alone G v = with_homes G (set (homeless G) v 1)

pub homeless_at : (n x : ℕ) → ◌≡◌ {A = ℕ} (get_or (replicate n 0) x 0) 0
homeless_at zero x = refl
homeless_at (suc n) zero = refl
homeless_at (suc n) (suc x) = homeless_at n x

module _ (G : Set) (v : ℕ) (node : v < G.net.n) where
  pub alone_isolates : (x : ℕ) → isolated (alone G v) 1 x ≡ eqb x v
  unfolding isolated home with_homes homeless
  alone_isolates x = pick (eqb x v) refl
    where
      pick : (t : Bool) → eqb x v ≡ t → eqb (get_or (set (replicate G.net.n 0) v 1) x 0) 1 ≡ eqb x v
      pick true e =
          let same = eqb-true x v e in
          let long = length-replicate {A = ℕ} G.net.n 0 in
          rw (e, same) (eq-eqb (get_or (set (replicate G.net.n 0) v 1) v 0) 1 (get_or-set_same (replicate G.net.n 0) v 1 0 (omega arith)))
      pick false e =
          let apart = eqb-false x v e in
          let zero_home = get_or-set_other (replicate G.net.n 0) v x 1 0 apart ∙ homeless_at G.net.n x in
          rw e (ne_eqb (get_or (set (replicate G.net.n 0) v 1) x 0) 1 (λ z. omega arith))

  pub alone_links : (u w : ℕ) → neighbours (alone G v) u w ≡ neighbours G u w
  unfolding neighbours link_between joins with_homes
  alone_links u w = refl

  alone_nodes : (alone G v).net.n ≡ G.net.n
  unfolding with_homes
  alone_nodes = refl

  spine_of : (x : ℕ) → x < G.net.n → (x ≡ v → ⊥) → backbone (alone G v) 1 x ≡ true
  spine_of x l ne = let same = alone_nodes in backbone_of (alone G v) 1 x (omega arith) (alone_isolates x ∙ ne_eqb x v ne)

  spine_node : (x : ℕ) → backbone (alone G v) 1 x ≡ true → x < G.net.n
  spine_node x e = let same = alone_nodes in let l = backbone_node (alone G v) 1 x e in omega arith

  spine_apart : (x : ℕ) → backbone (alone G v) 1 x ≡ true → eqb x v ≡ false
  spine_apart x e = sym (alone_isolates x) ∙ backbone_free (alone G v) 1 x e

  -- a set that meets the rules of a topology that isolates v
  pub alone_fewer : (i : ℕ) → isolated G i v ≡ true → Fewer G i (alone G v) 1
  alone_fewer i e =
      record { nodes = alone_nodes; links = alone_links; fewer = λ x l q. rw (eqb-true x v (sym (alone_isolates x) ∙ q)) e }

  pub joined_others : Joined (alone G v) 1 → OthersJoined G v
  unfolding avoiding
  joined_others J u w lu lw nu nw =
      walk_map (normal_hop (alone G v) 1) (avoiding G v) hop u w (J.joined u w (spine_of u lu nu) (spine_of w lw nw))
    where
      hop : (x y : ℕ) → normal_hop (alone G v) 1 x y ≡ true → avoiding G v x y ≡ true
      hop x y e =
          and_of (neighbours G x y) (not (eqb x v) && not (eqb y v)) (sym (alone_links x y) ∙ hop_link (alone G v) 1 x y e)
          (and_of (not (eqb x v)) (not (eqb y v)) (ap not (spine_apart x (hop_from (alone G v) 1 x y e))) (ap not (spine_apart y (hop_to (alone G v) 1 x y e))))

-- a node that is neither of two
third : (n v w : ℕ) → 3 ≤ n → (u : ℕ) × (u < n) × (u ≡ v → ⊥) × (u ≡ w → ⊥)
third n v w h = pick (eqb v 0) refl (eqb w 0) refl (eqb v 1) refl (eqb w 1) refl
  where
    pick : (a : Bool) → eqb v 0 ≡ a → (b : Bool) → eqb w 0 ≡ b → (c : Bool) → eqb v 1 ≡ c → (d : Bool) → eqb w 1 ≡ d → (u : ℕ) × (u < n) × (u ≡ v → ⊥) × (u ≡ w → ⊥)
    pick false a false b c p d q = let a' = eqb-false v 0 a in let b' = eqb-false w 0 b in (0, omega arith, (λ z. omega arith), (λ z. omega arith))
    pick true a b p c q true d = let a' = eqb-true v 0 a in let d' = eqb-true w 1 d in (2, omega arith, (λ z. omega arith), (λ z. omega arith))
    pick true a b p c q false d = let a' = eqb-true v 0 a in let d' = eqb-false w 1 d in (1, omega arith, (λ z. omega arith), (λ z. omega arith))
    pick false a true b true c d q = let b' = eqb-true w 0 b in let c' = eqb-true v 1 c in (2, omega arith, (λ z. omega arith), (λ z. omega arith))
    pick false a true b false c d q = let b' = eqb-true w 0 b in let c' = eqb-false v 1 c in (1, omega arith, (λ z. omega arith), (λ z. omega arith))

module _ (G : Set) (R : MeetsRules G) where
  three : 3 ≤ G.net.n
  three = R.limits.nodes.0

  pub others_joined : (v : ℕ) → v < G.net.n → OthersJoined G v → Joined (alone G v) 1
  unfolding avoiding
  others_joined v l O =
      let t = third G.net.n v v three in
      record {
        some = (t.0, spine_of G v l t.0 t.1 t.2);
        joined = λ u w p q.
            walk_map (avoiding G v) (normal_hop (alone G v) 1) hop u w
            (O u w (spine_node G v l u p) (spine_node G v l w q) (eqb-false u v (spine_apart G v l u p)) (eqb-false w v (spine_apart G v l w q)));
      }
    where
      hop : (x y : ℕ) → avoiding G v x y ≡ true → normal_hop (alone G v) 1 x y ≡ true
      hop x y e =
          let near = and_left (neighbours G x y) (not (eqb x v) && not (eqb y v)) e in
          let both = and_right (neighbours G x y) (not (eqb x v) && not (eqb y v)) e in
          let s = neighbours_below G R x y near in
          hop_of (alone G v) 1 x y (alone_links G v l x y ∙ near)
          (spine_of G v l x s.0 (eqb-false x v (not-true (eqb x v) (and_left (not (eqb x v)) (not (eqb y v)) both))))
          (spine_of G v l y s.1 (eqb-false y v (not-true (eqb y v) (and_right (not (eqb x v)) (not (eqb y v)) both))))

  -- ---- 9: exactly where removing some one node disconnects the others

  pub spared_exactly : (all (spared G) G.net.n ≡ true) ↔ Removable G
  unfolding spared
  spared_exactly = (
    λ e v l. joined_others G v l (connected_joined (alone G v) 1 (all_at (spared G) G.net.n e v l)),
    λ O. all_of (spared G) G.net.n (λ v l. joined_connected (alone G v) 1 (others_joined v l (O v l))),
  )

  -- ---- where any one node can be removed, each node alone meets the rules

  module _ (O : Removable G) where
    -- v has a neighbour other than itself and w
    neighbour : (v w : ℕ) → v < G.net.n → w < G.net.n → (v ≡ w → ⊥) → (x : ℕ) × (x < G.net.n) × (x ≡ v → ⊥) × (x ≡ w → ⊥) × (neighbours G v x ≡ true)
    unfolding avoiding
    neighbour v w lv lw ne =
        let t = third G.net.n v w three in
        let s = leaves (avoiding G w) v t.0 (O w lw v t.0 lv t.1 ne t.3) t.2 in
        let x = s.0 in
        let near = and_left (neighbours G v x) (not (eqb v w) && not (eqb x w)) s.2 in
        let apart = and_right (not (eqb v w)) (not (eqb x w)) (and_right (neighbours G v x) (not (eqb v w) && not (eqb x w)) s.2) in
        (x, (neighbours_below G R v x near).1, s.1, eqb-false x w (not-true (eqb x w) apart), near)

    pub alone_sound : (v : ℕ) → v < G.net.n → Sound (alone G v) 1
    alone_sound v lv =
        let J = others_joined v lv (O v lv) in
        record { some = J.some; joined = J.joined; two = λ u l e. rw (eqb-true u v (sym (alone_isolates G v lv u) ∙ e)) links }
      where
        passes : (x : ℕ) → x < G.net.n → (x ≡ v → ⊥) → neighbours G v x ≡ true → (neighbours (alone G v) v x && backbone (alone G v) 1 x) ≡ true
        passes x l ne e = and_of (neighbours (alone G v) v x) (backbone (alone G v) 1 x) (alone_links G v lv v x ∙ e) (spine_of G v lv x l ne)

        links : Two (λ w. neighbours (alone G v) v w && backbone (alone G v) 1 w)
        links =
            let t = third G.net.n v v three in
            let p = neighbour v t.0 lv t.1 (λ z. t.2 (sym z)) in
            let q = neighbour v p.0 lv p.1 (λ z. p.2 (sym z)) in
            record {
              one = p.0;
              other = q.0;
              apart = λ z. q.3 (sym z);
              one_passes = passes p.0 p.1 p.2 p.4;
              other_passes = passes q.0 q.1 q.2 q.4;
            }

-- ---- where each node is isolated in some topology that meets the rules, any one can be removed

pub sound_removable : (S : Set) → ((v : ℕ) → v < S.net.n → (i : ℕ) × (isolated S i v ≡ true) × Sound S i) → Removable S
sound_removable S h v l =
    let t = h v l in
    let s = fewer_isolated S (alone S v) t.0 1 (alone_fewer S v l t.0 t.1) t.2 in
    joined_others S v l (record { some = s.some; joined = s.joined })

-- a set's nodes have homes, from 1 to k
module _ (S : Set) (A : AcceptedSet S) where
  -- an accepted set's graph stays connected without any one node
  pub accepted_removable : Removable S
  accepted_removable = sound_removable S (λ v l. (home S v, at_home S A v l, A.sound (home S v) (home_low S A v l) (home_high S A v l)))

  -- and is connected: in topology 0 no node is isolated
  pub accepted_connected : (u w : ℕ) → u < S.net.n → w < S.net.n → Walk (neighbours S) u w
  unfolding isolated
  accepted_connected u w lu lw =
      let none : (v : ℕ) → isolated S 0 v ≡ false = λ v. refl in
      let s = fewer_isolated S S 1 0 (record { nodes = refl; links = λ x y. refl; fewer = λ v l e. absurd (false≢true e) }) (A.sound 1 (omega arith) A.topologies) in
      walk_map (normal_hop S 0) (neighbours S) (hop_link S 0) u w (s.joined u w (backbone_of S 0 u lu (none u)) (backbone_of S 0 w lw (none w)))
