-- Every set that first fit gives is accepted: it meets the file's rules, and each of its topologies meets the rules of a topology.
use mathlib.Core.Path.{◌≡◌, refl, sym, ap, ◌∙◌}
use mathlib.Core.Bool.{Bool, true, false}
use mathlib.Core.List.{List}
use Prim.Native.Nat.{ℕ, zero, suc, ◌*◌, ◌≤◌, ◌<◌}
use native.Mathlib.Omega.{arith}
use lib.Dec.{eqb}
use lib.ListN.{length, get_or}
use borrow.Author.Tests.{eqb-true, eqb-false}
use Rattle.rules.specs.Basics.{up_to}
use Rattle.rules.specs.Limits.{row_weights}
use Rattle.rules.specs.File.{Set, row_start}
use Rattle.rules.specs.Isolation.{joins, link_between, neighbours, home, isolated, Class, Normal, class, row_in_force}
use Rattle.rules.specs.Building.{with_homes, first_fit, fits, highest, on_normal, filled, built}
use Rattle.rules.specs.Sets.{at, MeetsRules, Sound, AcceptedSet}
use Rattle.rules.specs.Demands.Building.{BuiltAccepted, Fewer}
use Rattle.rules.proofs.Ground.Rows.{length_up_to, get_d_up_to, length_flat, get_d_flat}
use Rattle.rules.proofs.Isolation.HomesAndRows.{homes_all, row_entry}
use Rattle.rules.proofs.Isolation.Sound.{fewer_isolated}
use Rattle.rules.proofs.Building.FirstFit.{homes_long, home_n, home_high, home_low, fitted_removable, fitted_sound}

-- ---- the highest home

pub highest_most : (homes : List ℕ) (n c : ℕ) → ((v : ℕ) → v < n → get_or homes v 0 ≤ c) → highest homes n ≤ c
unfolding highest
highest_most homes zero c h = omega arith
highest_most homes (suc n) c h =
    let a = highest_most homes n c (λ v l. h v (omega arith)) in
    let b = h n (omega arith) in
    omega arith

pub highest_least : (homes : List ℕ) (n v : ℕ) → v < n → get_or homes v 0 ≤ highest homes n
unfolding highest
highest_least homes zero v l = absurd (omega arith)
highest_least homes (suc n) v l = pick (λ h. highest_least homes n v h) (eqb v n) refl
  where
    pick : (v < n → get_or homes v 0 ≤ highest homes n) → (t : Bool) → eqb v n ≡ t → get_or homes v 0 ≤ highest homes (suc n)
    pick r true e = rw (eqb-true v n e) (omega arith)
    pick r false e = let ne = eqb-false v n e in let q = r (omega arith) in omega arith

-- ---- rows by class

pub on_normal_is : (c : Class) (w : ℕ) → c ≡ Normal → on_normal c w ≡ w
unfolding on_normal
on_normal_is Class.Normal w e = refl
on_normal_is Class.Isolated w e = cc
on_normal_is Class.Restricted w e = cc

on_other : (c : Class) (w : ℕ) → (c ≡ Normal → ⊥) → on_normal c w ≡ 0
unfolding on_normal
on_other Class.Normal w h = absurd (h refl)
on_other Class.Isolated w h = refl
on_other Class.Restricted w h = refl

module _ (G : Set) (homes : List ℕ) where
  abbrev k : ℕ
  k = highest homes G.net.n

  -- the weights of the row of topology j + 1
  row : ℕ → List ℕ
  row j = up_to (λ l. on_normal (class (with_homes G homes) (suc j) l) (get_or G.weights l 0)) G.net.m

  row_long : (j : ℕ) → length (row j) ≡ G.net.m
  unfolding row
  row_long j = length_up_to (λ l. on_normal (class (with_homes G homes) (suc j) l) (get_or G.weights l 0)) G.net.m

  rows_long : length (filled G homes).rows ≡ k * row_weights (filled G homes).net
  unfolding filled row row_weights
  rows_long = length_flat row G.net.m k (λ j l. row_long j)

  same_class : (i l : ℕ) → class (filled G homes) i l ≡ class (with_homes G homes) i l
  unfolding class isolated home filled with_homes
  same_class i l = refl

  -- its entry for link l
  row_at : (j l : ℕ) → j < k → l < G.net.m → at (row_in_force (filled G homes) (suc j)) l ≡ on_normal (class (filled G homes) (suc j) l) (at G.weights l)
  unfolding filled row row_start row_weights
  row_at j l h g =
      row_entry (filled G homes) j l g
      ∙ get_d_flat row G.net.m k j l 0 (λ y q. row_long y) h g
      ∙ get_d_up_to (λ x. on_normal (class (with_homes G homes) (suc j) x) (get_or G.weights x 0)) G.net.m l 0 g
      ∙ ap (λ (c : Class). on_normal c (get_or G.weights l 0)) (sym (same_class (suc j) l))

  pub filled_row : (i l : ℕ) → 1 ≤ i → i ≤ k → l < G.net.m → at (row_in_force (filled G homes) i) l ≡ on_normal (class (filled G homes) i l) (at G.weights l)
  filled_row zero l one h g = absurd (omega arith)
  filled_row (suc j) l one h g = row_at j l (omega arith) g

  filled_fewer : (i : ℕ) → Fewer (with_homes G homes) i (filled G homes) i
  unfolding neighbours link_between joins isolated home filled with_homes
  filled_fewer i = record { nodes = refl; links = λ u w. refl; fewer = λ v l e. e }

  -- homes that fill a set: as many as nodes, from 1, none above n or 32
  pub record Homes : Type 0 where
    pub long : length homes ≡ G.net.n
    pub low : (v : ℕ) → v < G.net.n → 1 ≤ get_or homes v 0
    pub few : k ≤ 32
    pub nodes : k ≤ G.net.n

  -- so there is a topology, and each node has a home record
  some : MeetsRules G → Homes → 1 ≤ k
  some R H =
      let three = R.limits.nodes.0 in
      let a = H.low 0 (omega arith) in
      let b = highest_least homes G.net.n 0 (omega arith) in
      omega arith

  pub filled_rules : MeetsRules G → Homes → MeetsRules (filled G homes)
  unfolding filled home
  filled_rules R H =
      record {
        limits = record { nodes = R.limits.nodes; links = R.limits.links; topologies = (H.few, H.nodes); weights = let w = R.limits.weights in (omega arith, omega arith) };
        links_long = R.links_long;
        homes_long = H.long ∙ sym (homes_all (filled G homes).net (some R H));
        rows_long = rows_long;
        ends = R.ends;
        order = R.order;
        weights = λ l g. let a = R.weights l g in let w = R.limits.weights in (omega arith, omega arith);
        homes = λ v l. let e = homes_all (filled G homes).net (some R H) in (H.low v (omega arith), highest_least homes G.net.n v (omega arith));
        normal = λ i l one h g c.
            let e = filled_row i l one h g ∙ on_normal_is (class (filled G homes) i l) (at G.weights l) c in
            let a = R.weights l g in
            let w = R.limits.weights in
            (omega arith, omega arith);
        other = λ i l one h g c. filled_row i l one h g ∙ on_other (class (filled G homes) i l) (at G.weights l) c;
      }

  pub filled_accepted : MeetsRules G → Homes → ((i : ℕ) → 1 ≤ i → Sound (with_homes G homes) i) → AcceptedSet (filled G homes)
  unfolding filled
  filled_accepted R H sound =
      record {
        rules = filled_rules R H;
        topologies = some R H;
        sound = λ i one h. fewer_isolated (with_homes G homes) (filled G homes) i i (filled_fewer i) (sound i one);
      }

-- ---- what first fit gives

fitted_homes : (G : Set) (cap : ℕ) → MeetsRules G → cap ≤ 32 → fits G cap ≡ true → Homes G (first_fit G cap)
unfolding first_fit
fitted_homes G cap R small ok =
    let top = highest_most (first_fit G cap) G.net.n cap (home_high G cap ok) in
    record {
      long = homes_long G cap G.net.n;
      low = home_low G cap ok;
      few = omega arith;
      nodes = highest_most (first_fit G cap) G.net.n G.net.n (λ v l. home_n G cap R (fitted_removable G cap ok) v);
    }

pub built_accepted : BuiltAccepted
unfolding built
built_accepted G cap R small ok =
    let three = R.limits.nodes.0 in
    filled_accepted G (first_fit G cap) R (fitted_homes G cap R small ok) (fitted_sound G cap ok (omega arith))
