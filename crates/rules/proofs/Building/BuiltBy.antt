-- What first fit makes of a graph, as 01 says it: each node goes to the first topology that admits it, k is the highest used, rows are topology 0's weights.
use Rattle.std.specs.Prelude.{if◌then◌else◌}
use mathlib.Core.Path.{◌≡◌, refl, sym, ap, subst, ◌∙◌}
use mathlib.Core.Bool.{Bool, true, false}
use mathlib.Core.List.{List}
use Prim.Native.Nat.{ℕ, zero, suc, max, ◌≤◌, ◌<◌}
use native.Mathlib.Omega.{arith}
use lib.Dec.{ltb, leb}
use lib.ListN.{get_or, set}
use borrow.Author.Tests.{ltb-true, ltb-false, leb-true, leb-false, eq-eqb}
use Rattle.rules.specs.File.{Set}
use Rattle.rules.specs.Isolation.{home, class, topology_number}
use Rattle.rules.specs.Building.{with_homes, admits, first_topology, homes_after, first_fit, fits, highest, filled, built}
use Rattle.rules.specs.Sets.{at, MeetsRules, Sound}
use Rattle.rules.specs.Demands.Building.{topologies_needed, with_topologies, homes_below, Admits, BuiltBy}
use Rattle.rules.proofs.Ground.Choices.{clash, if_yes, if_no}
use Rattle.rules.proofs.Ground.Numbers.{lowest_before}
use Rattle.rules.proofs.Ground.Rows.{up_to_ext, up_to_get_d}
use Rattle.rules.proofs.Isolation.Sound.{sound_number}
use Rattle.rules.proofs.Building.FirstFit.{homes_long, unplaced, placed, given_admits, home_n, within, fitted_removable}
use Rattle.rules.proofs.Building.BuiltAccepted.{on_normal_is, filled_row}
use Rattle.rules.proofs.Building.BuildNumber.{fit_same}

-- some node has the highest home
highest_some : (homes : List ℕ) (n : ℕ) → 1 ≤ n → (v : ℕ) × (v < n) × (get_or homes v 0 ≡ highest homes n)
unfolding highest
highest_some homes zero h = absurd (omega arith)
highest_some homes (suc zero) h = (0, omega arith, omega arith)
highest_some homes (suc (suc n)) h = pick (leb (highest homes (suc n)) (get_or homes (suc n) 0)) refl (highest_some homes (suc n) (omega arith))
  where
    pick : (t : Bool) → leb (highest homes (suc n)) (get_or homes (suc n) 0) ≡ t → (v : ℕ) × (v < suc n) × (get_or homes v 0 ≡ highest homes (suc n))
        → (v : ℕ) × (v < suc (suc n)) × (get_or homes v 0 ≡ max (highest homes (suc n)) (get_or homes (suc n) 0))
    pick true e w = let l = leb-true (highest homes (suc n)) (get_or homes (suc n) 0) e in (suc n, omega arith, omega arith)
    pick false e w = let l = leb-false (highest homes (suc n)) (get_or homes (suc n) 0) e in (w.0, omega (arith, w.1), omega (arith, w.2))

module _ (G : Set) (cap : ℕ) where
  -- a topology below the first that admits a node does not admit it
  not_before : (homes : List ℕ) (v i : ℕ) → 1 ≤ i → i < first_topology G cap homes v → i ≤ cap → Sound (with_homes G (set homes v i)) i → ⊥
  unfolding first_topology admits
  not_before homes v zero one l c s = omega arith
  not_before homes v (suc j) one l c s =
      clash (admits G homes (suc j) v) (eq-eqb (topology_number (with_homes G (set homes v (suc j))) (suc j)) 0 (sound_number (with_homes G (set homes v (suc j))) (suc j) s))
      (lowest_before (λ x. admits G homes (suc x) v) cap cap j (omega arith) (omega arith))

module _ (G : Set) (cap : ℕ) (ok : fits G cap ≡ true) where
  abbrev S : Set
  S = built G cap

  its_home : (v : ℕ) → v < G.net.n → home S v ≡ first_topology G cap (homes_after G cap v) v
  unfolding home built filled first_fit
  its_home v l = placed G cap G.net.n v l (omega arith)

  -- the homes of the nodes below v are those that first fit has given by v's turn
  homes_below_is : (v : ℕ) → v ≤ G.net.n → homes_below S v ≡ homes_after G cap v
  unfolding homes_below built filled
  homes_below_is v h =
      up_to_ext (λ u. if ltb u v then home S u else 0) (λ u. get_or (homes_after G cap v) u 0) G.net.n (λ u l. each u l (ltb u v) refl)
      ∙ up_to_get_d (homes_after G cap v) G.net.n 0 (homes_long G cap v)
    where
      each : (u : ℕ) → u < G.net.n → (t : Bool) → ltb u v ≡ t → (if ltb u v then home S u else 0) ≡ get_or (homes_after G cap v) u 0
      each u l true e = if_yes (ltb u v) (home S u) 0 e ∙ its_home u l ∙ sym (placed G cap v u (ltb-true u v e) h)
      each u l false e = if_no (ltb u v) (home S u) 0 e ∙ sym (unplaced G cap v u (ltb-false u v e))

  admitted : (v : ℕ) → v < G.net.n → Admits G S v (home S v)
  admitted v l =
      rw (homes_below_is v (omega arith), its_home v l) (given_admits G cap (homes_after G cap v) v (within G cap ok v l))

  first : (v i : ℕ) → v < G.net.n → 1 ≤ i → i < home S v → Admits G S v i → ⊥
  first v i l one below s =
      let e = its_home v l in
      let c = within G cap ok v l in
      not_before G cap (homes_after G cap v) v i one (omega arith) (omega arith) (subst (λ (homes : List ℕ). Sound (with_homes G (set homes v i)) i) (homes_below_is v (omega arith)) s)

  pub built_by : MeetsRules G → BuiltBy G S
  unfolding built filled with_topologies home
  built_by R =
      let three = R.limits.nodes.0 in
      record {
        net = refl;
        links = (refl, refl, refl);
        admitted = admitted;
        first = first;
        highest = highest_some (first_fit G cap) G.net.n (omega arith);
        rows = λ i l one h g c. filled_row G (first_fit G cap) i l one h g ∙ on_normal_is (class S i l) (at G.weights l) c;
      }

  pub built_topologies : MeetsRules G → S.net.k ≡ topologies_needed G
  unfolding built filled topologies_needed
  built_topologies R =
      ap (λ (homes : List ℕ). highest homes G.net.n) (sym (fit_same G cap G.net.n ok (λ v l. home_n G cap R (fitted_removable G cap ok) v)))

  pub built_net : MeetsRules G → S.net ≡ with_topologies G.net (topologies_needed G)
  built_net R = (built_by R).net ∙ ap (with_topologies G.net) (built_topologies R)
