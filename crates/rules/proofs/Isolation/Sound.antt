-- The rules of a backup topology: the tests for 7 and 8 are `Sound`, and what isolates fewer nodes keeps the rules.
use mathlib.Core.Path.{◌≡◌, refl, sym, ap, ◌∙◌}
use mathlib.Core.Bool.{Bool, true, false, not, ◌&&◌, ◌||◌}
use mathlib.Core.Logic.{◌↔◌}
use Prim.Native.Nat.{ℕ, zero, suc, ◌≤◌, ◌<◌}
use native.Mathlib.Omega.{arith}
use lib.Dec.{leb}
use borrow.Author.Tests.{leb-true, le-leb}
use Rattle.rules.specs.Verdict.{Verdict, Accepted}
use Rattle.rules.specs.File.{Set}
use Rattle.rules.specs.Isolation.{neighbours, isolated, backbone, normal_hop, connected, restricted_links, two_links, topology_number}
use Rattle.rules.specs.Judgement.{refuse, topologies}
use Rattle.rules.specs.Sets.{Walk, stay, go, Two, Sound}
use Rattle.rules.specs.Demands.Building.{Fewer}
use Rattle.rules.proofs.Ground.Choices.{and_of, and_left, and_right, or_left, or_right, clash, false_of, same_test, refuse_ok, refuse_zero, turn_all, turn_each}
use Rattle.rules.proofs.Ground.Numbers.{all_at, all_of, two_of, of_two}
use Rattle.rules.proofs.Isolation.Homes.{backbone_node, backbone_free, backbone_of}
use Rattle.rules.proofs.Isolation.Walks.{join, turn, walk_map}
use Rattle.rules.proofs.Isolation.Connected.{hop_of, hop_link, hop_from, hop_to, hop_back, connected_joined, joined_connected}
use Rattle.rules.proofs.Refusals.SevenBeforeEight.{seven_first, eight_next, no_number}

-- each isolated node has two restricted links, as a proposition
abbrev pub Linked : Set → ℕ → Type 0
Linked S i = (v : ℕ) → v < S.net.n → isolated S i v ≡ true → Two (λ w. neighbours S v w && backbone S i w)

module _ (S : Set) (i : ℕ) where
  -- ---- 8

  pub two_linked : two_links S i ≡ true → Linked S i
  unfolding two_links restricted_links
  two_linked e v l q =
      let t : leb 2 (restricted_links S i v) ≡ true = rw q at (all_at _ S.net.n e v l) in
      two_of (λ w. neighbours S v w && backbone S i w) S.net.n (leb-true 2 (restricted_links S i v) t)

  pub linked_two : Linked S i → two_links S i ≡ true
  unfolding two_links restricted_links
  linked_two T = all_of _ S.net.n (λ v l. pick v l (isolated S i v) refl)
    where
      pick : (v : ℕ) → v < S.net.n → (t : Bool) → isolated S i v ≡ t → (not (isolated S i v) || leb 2 (restricted_links S i v)) ≡ true
      pick v l true q =
          or_right (not (isolated S i v)) (leb 2 (restricted_links S i v))
          (le-leb 2 (restricted_links S i v)
          (of_two (λ w. neighbours S v w && backbone S i w) S.net.n (λ w h. backbone_node S i w (and_right (neighbours S v w) (backbone S i w) h)) (T v l q)))
      pick v l false q = or_left (not (isolated S i v)) (leb 2 (restricted_links S i v)) (ap not q)

  pub two_exactly : (two_links S i ≡ true) ↔ Linked S i
  two_exactly = (two_linked, linked_two)

  -- a test of a program's own that decides the same is `two_links`
  pub two_by : (t : Bool) → (t ≡ true → Linked S i) → (Linked S i → t ≡ true) → t ≡ two_links S i
  two_by t yes_linked linked_yes = same_test t (two_links S i) (λ e. linked_two (yes_linked e)) (λ e. linked_yes (two_linked e))

  -- ---- 7, then 8

  pub number_sound : topology_number S i ≡ 0 → Sound S i
  number_sound e = pick (connected S i) refl (two_links S i) refl
    where
      pick : (c : Bool) → connected S i ≡ c → (t : Bool) → two_links S i ≡ t → Sound S i
      pick true p true q = let J = connected_joined S i p in record { some = J.some; joined = J.joined; two = two_linked q }
      pick true p false q = let z = eight_next S i p q in absurd (omega arith)
      pick false p t q = let z = seven_first S i p in absurd (omega arith)

  pub sound_number : Sound S i → topology_number S i ≡ 0
  sound_number s = no_number S i (joined_connected S i (record { some = s.some; joined = s.joined })) (linked_two s.two)

  pub sound_exactly : (topology_number S i ≡ 0) ↔ Sound S i
  sound_exactly = (number_sound, sound_number)

-- all topologies of a set
module _ (S : Set) where
  turns : ℕ → Verdict
  turns j = refuse (topology_number S (suc j)) (suc j)

  pub topologies_sound : topologies S ≡ Accepted → (i : ℕ) → 1 ≤ i → i ≤ S.net.k → Sound S i
  unfolding topologies turns
  topologies_sound e zero one l = absurd (omega arith)
  topologies_sound e (suc j) one l =
      number_sound S (suc j) (refuse_zero (topology_number S (suc j)) (suc j) (turn_each turns S.net.k e j (omega arith)))

  pub sound_topologies : ((i : ℕ) → 1 ≤ i → i ≤ S.net.k → Sound S i) → topologies S ≡ Accepted
  unfolding topologies turns
  sound_topologies h =
      turn_all turns S.net.k
      (λ j l. sym (refuse_ok (topology_number S (suc j)) (suc j) (sound_number S (suc j) (h (suc j) (omega arith) (omega arith)))))

  pub topologies_exactly : (topologies S ≡ Accepted) ↔ ((i : ℕ) → 1 ≤ i → i ≤ S.net.k → Sound S i)
  topologies_exactly = (topologies_sound, sound_topologies)

-- ---- what isolates fewer nodes keeps the rules

module _ (S S' : Set) (i j : ℕ) (F : Fewer S i S' j) (s : Sound S i) where
  wider : (v : ℕ) → backbone S i v ≡ true → backbone S' j v ≡ true
  wider v e =
      let l = backbone_node S i v e in
      let same = F.nodes in
      backbone_of S' j v (omega arith) (false_of (isolated S' j v) (λ q. clash (isolated S i v) (F.fewer v l q) (backbone_free S i v e)))

  more : (u w : ℕ) → normal_hop S i u w ≡ true → normal_hop S' j u w ≡ true
  more u w e = hop_of S' j u w (F.links u w ∙ hop_link S i u w e) (wider u (hop_from S i u w e)) (wider w (hop_to S i u w e))

  -- a node of the larger backbone is in the smaller one, or a hop away from it
  anchor : (v : ℕ) → backbone S' j v ≡ true → (z : ℕ) × (backbone S i z ≡ true) × Walk (normal_hop S' j) v z
  anchor v e = pick (isolated S i v) refl
    where
      low : v < S.net.n
      low = let l = backbone_node S' j v e in let same = F.nodes in omega arith

      pick : (t : Bool) → isolated S i v ≡ t → (z : ℕ) × (backbone S i z ≡ true) × Walk (normal_hop S' j) v z
      pick false q = (v, backbone_of S i v low q, stay)
      pick true q =
          let t = s.two v low q in
          let z = t.one in
          let b = and_right (neighbours S v z) (backbone S i z) t.one_passes in
          (z, b, go stay (hop_of S' j v z (F.links v z ∙ and_left (neighbours S v z) (backbone S i z) t.one_passes) e (wider z b)))

  pub fewer_isolated : Sound S' j
  fewer_isolated =
      record {
        some = (s.some.0, wider s.some.0 s.some.1);
        joined = λ u w p q.
            let a = anchor u p in
            let b = anchor w q in
            let E = normal_hop S' j in
            join E u a.0 w a.2
            (join E a.0 b.0 w (walk_map (normal_hop S i) E more a.0 b.0 (s.joined a.0 b.0 a.1 b.1)) (turn E (hop_back S' j) w b.0 b.2));
        two = λ v l q.
            let same = F.nodes in
            let low : v < S.net.n = omega arith in
            let t = s.two v low (F.fewer v low q) in
            record { one = t.one; other = t.other; apart = t.apart; one_passes = still v t.one t.one_passes; other_passes = still v t.other t.other_passes };
      }
    where
      still : (v w : ℕ) → (neighbours S v w && backbone S i w) ≡ true → (neighbours S' v w && backbone S' j w) ≡ true
      still v w e =
          and_of (neighbours S' v w) (backbone S' j w) (F.links v w ∙ and_left (neighbours S v w) (backbone S i w) e)
          (wider w (and_right (neighbours S v w) (backbone S i w) e))
