-- The distances that the passes leave are the published ones, for the costs of an accepted set's links.
use Prim.Native.Nat.{ℕ, zero, suc, ◌+◌, ◌-◌, ◌≤◌, ◌<◌}
use native.Mathlib.Omega.{arith}
use mathlib.Core.Path.{◌≡◌, refl, sym, ap, ap₂, ◌∙◌}
use mathlib.Core.Bool.{Bool, true, false}
use mathlib.Core.Logic.{inl, inr}
use mathlib.Core.List.{List, [], ◌∷◌}
use lib.ListN.{length, get_or}
use lib.Seq.{ext_get_or}
use Rattle.rules.specs.Basics.{up_to}
use Rattle.rules.specs.Limits.{restricted_weight}
use Rattle.rules.specs.File.{Set}
use Rattle.rules.specs.Isolation.{link_between, neighbours, isolated, Class, class_by, class, row_in_force, weight_by, weight_from, hop_weight, usable}
use Rattle.rules.specs.Distance.{far, longer, totals, distances, distance, next_hop}
use Rattle.rules.specs.Sets.{AcceptedSet}
use Rattle.rules.proofs.Ground.Choices.{if_yes}
use Rattle.rules.proofs.Ground.Rows.{length_up_to, get_d_up_to}
use Rattle.rules.proofs.Isolation.Links.{Ends, link_below, link_ends, ends_neighbours, class_ends, hop_neighbours, hop_out, hop_into, hop_plain, usable_hop, hop_usable, link_is, hop_normal, restricted_bound, hop_light}
use Rattle.rules.proofs.Distance.Distances.{distance_far}
use Rattle.rules.proofs.Distance.Reach.{some_weight, distance_self, distance_over}
use Rattle.rules.proofs.Distance.NextHops.{next}
use Rattle.routes.specs.Lanes.{column, entry, LowRows}
use Rattle.routes.specs.Passes.{Net, net_of, Wired, settled}
use Rattle.routes.specs.Costs.{cost_by, cost, Distances}
use Rattle.routes.proofs.Lanes.{column_at, column_long}
use Rattle.routes.proofs.Passes.{Leads, Exact, Inside, Between, settled_between, settled_reach}

-- ---- the list of distances

distances_length : (S : Set) (i t : ℕ) → length (distances S i t) ≡ S.net.n
unfolding distances totals longer
distances_length S i t = go (S.net.n - 1)
  where
    go : (h : ℕ) → length (totals S i t h) ≡ S.net.n
    go zero = length_up_to _ S.net.n
    go (suc h) = length_up_to _ S.net.n

in_range : (l : List ℕ) (u x y : ℕ) → u < length l → get_or l u x ≡ get_or l u y
in_range [] u x y h = absurd (omega arith)
in_range (z ∷ l) zero x y h = refl
in_range (z ∷ l) (suc u) x y h = in_range l u x y (omega arith)

-- ---- costs and hops

-- a link is never used, or its cost is the weight of the hop
pub data CostIs (S : Set) (i l u w : ℕ) : Type 0 where
  unused : cost S i l ≡ far → CostIs S i l u w
  used : usable S i u w ≡ true → cost S i l ≡ hop_weight S i u w → CostIs S i l u w

module _ (S : Set) (A : AcceptedSet S) (i : ℕ) (hi : i ≤ S.net.k) where
  cost_ends : (l u w : ℕ) (x y : Bool) → Ends S l u w → isolated S i u ≡ x → isolated S i w ≡ y → cost S i l ≡ cost_by (class_by x y) (restricted_weight S.net) (get_or (row_in_force S i) l 0)
  unfolding cost
  cost_ends l u w x y e ex ey =
      ap (λ (z : Class). cost_by z (restricted_weight S.net) (get_or (row_in_force S i) l 0)) (class_ends S i l u w e ∙ ap₂ class_by ex ey)

  pub cost_is : (l u w : ℕ) → l < S.net.m → Ends S l u w → CostIs S i l u w
  unfolding cost_by class_by
  cost_is l u w h e = go (isolated S i u) refl (isolated S i w) refl
    where
      n : neighbours S u w ≡ true
      n = ends_neighbours S l u w h e

      go : (x : Bool) → isolated S i u ≡ x → (y : Bool) → isolated S i w ≡ y → CostIs S i l u w
      go true ex true ey = unused (cost_ends l u w true true e ex ey)
      go true ex false ey =
          let q = hop_out S i u w n ex ey in
          used (hop_usable S i u w (omega (arith, q, some_weight S A))) (cost_ends l u w true false e ex ey ∙ sym q)
      go false ex true ey =
          let q = hop_into S i u w n ex ey in
          used (hop_usable S i u w (omega (arith, q, some_weight S A))) (cost_ends l u w false true e ex ey ∙ sym q)
      go false ex false ey =
          let q = hop_plain S i u w n ex ey in
          used (hop_usable S i u w (hop_normal S A.rules i u w hi n ex ey).0)
          (cost_ends l u w false false e ex ey ∙ sym (q ∙ ap (λ (j : ℕ). get_or (row_in_force S i) j 0) (link_is S A.rules l u w h e)))

  -- the link of a usable hop
  pub hop_cost : (u w : ℕ) → usable S i u w ≡ true → cost S i (link_between S u w) ≡ hop_weight S i u w
  unfolding cost hop_weight weight_from weight_by cost_by
  hop_cost u w g =
      let n = hop_neighbours S i u w (usable_hop S i u w g) in
      let l = link_between S u w in
      let e = if_yes (neighbours S u w) (weight_from S i u l) 0 n in
      by (class S i l) (get_or (row_in_force S i) l 0) (omega (arith, usable_hop S i u w g, e)) ∙ sym e
    where
      by : (z : Class) (x : ℕ) → 1 ≤ weight_by S z x → cost_by z (restricted_weight S.net) x ≡ weight_by S z x
      by Class.Isolated x h = absurd (omega arith)
      by Class.Restricted x h = refl
      by Class.Normal x h = refl

  pub cost_low : (l : ℕ) → l < S.net.m → cost S i l ≤ far
  cost_low l h = go (cost_is l (get_or S.a l 0) (get_or S.b l 0) h (inl (refl, refl)))
    where
      go : CostIs S i l (get_or S.a l 0) (get_or S.b l 0) → cost S i l ≤ far
      go (unused e) = omega arith
      go (used g e) = omega (arith, hop_light S A.rules i (get_or S.a l 0) (get_or S.b l 0) hi, restricted_bound S A.rules)

  pub over_link : (l u w t : ℕ) → l < S.net.m → Ends S l u w → u < S.net.n → t < S.net.n → distance S i u t ≤ cost S i l + distance S i w t
  over_link l u w t h e lu lt = go (cost_is l u w h e)
    where
      go : CostIs S i l u w → distance S i u t ≤ cost S i l + distance S i w t
      go (unused q) = omega (arith, distance_far S A.rules i hi u t lu)
      go (used g q) = omega (arith, distance_over S A i t hi lt u w g)

  -- ---- the costs as a row of the set's lists
  module _ (c : List ℕ) (is : c ≡ up_to (cost S i) S.net.m) where
    abbrev G : Net
    G = net_of S.a S.b c

    pub cost_entry : (l : ℕ) → l < S.net.m → get_or c l 0 ≡ cost S i l
    cost_entry l h = ap (λ (x : List ℕ). get_or x l 0) is ∙ get_d_up_to (cost S i) S.net.m l 0 h

    long : length S.a ≡ S.net.m
    long = A.rules.links_long.0

    pub costs_wired : Wired S.a S.b c S.net.n
    costs_wired =
        let ends = A.rules.ends in
        record {
          few = A.rules.limits.nodes.1;
          b_long = A.rules.links_long.1 ∙ sym long;
          c_long = ap length is ∙ length_up_to (cost S i) S.net.m ∙ sym long;
          a_in = λ l h. let e = ends l (omega (arith, long)) in omega (arith, e.0, e.1);
          b_in = λ l h. (ends l (omega (arith, long))).1;
          c_low = λ l h. omega (arith, cost_entry l (omega (arith, long)), cost_low l (omega (arith, long)));
        }

    inside : Inside G S.net.n
    inside = let W = costs_wired in record { few = W.few; a_in = W.a_in; b_in = W.b_in }

    link_node : (l u w : ℕ) → l < length S.a → Leads G l u w → u < S.net.n
    link_node l u w h (inl e) = omega (arith, e.0, costs_wired.a_in l h)
    link_node l u w h (inr e) = omega (arith, e.1, costs_wired.b_in l h)

    exact : (t : ℕ) → t < S.net.n → Exact G S.net.n t (λ u. distance S i u t)
    exact t lt =
        record {
          target = distance_self S A i t hi lt;
          low = λ u lu. distance_far S A.rules i hi u t lu;
          over = λ l u w h s. let g : l < S.net.m = omega (arith, long) in omega (arith, cost_entry l g, over_link l u w t g s (link_node l u w h s) lt);
          tight = λ u lu ne.
              let N = next S A i u t hi lu lt ne in
              let v = next_hop S i u t in
              let n = hop_neighbours S i u v (usable_hop S i u v N.over) in
              let l = link_between S u v in
              let below = link_below S u v n in
              record {
                link = l;
                next = v;
                inside = omega (arith, below, long);
                node = N.node;
                leads = link_ends S u v n;
                exact = omega (arith, cost_entry l below, hop_cost u v N.over, N.sum);
                nearer = omega (arith, usable_hop S i u v N.over, N.sum);
              };
        }

    between : Between G S.net.n inside (distance S i) exact S.net.n (settled G S.net.n)
    between = settled_between G S.net.n inside (distance S i) exact

    pub settled_low : LowRows (settled G S.net.n)
    settled_low = between.low

    pub settled_distances : (d : List (List ℕ)) → d ≡ settled G S.net.n → Distances S i d
    unfolding distance entry
    settled_distances d e =
        record {
          is = λ t lt.
              ext_get_or 0 (column t d) (distances S i t) (column_long t d ∙ ld ∙ sym (distances_length S i t))
              (λ u h.
              let lu : u < S.net.n = omega (arith, column_long t d, ld) in
              column_at t u d ∙ ap (λ (x : List (List ℕ)). get_or (get_or x u []) t 0) e ∙ settled_reach G S.net.n inside (distance S i) exact u t lu lt
              ∙ in_range (distances S i t) u far 0 (omega (arith, distances_length S i t)));
          long = ld;
        }
      where
        ld : length d ≡ S.net.n
        ld = ap length e ∙ between.long

-- an entry of the matrix is a distance
pub distance_entry : (S : Set) (i : ℕ) (d : List (List ℕ)) → Distances S i d → (u t : ℕ) → u < S.net.n → t < S.net.n → get_or (column t d) u 0 ≡ distance S i u t
unfolding distance
distance_entry S i d Q u t lu lt =
    ap (λ (l : List ℕ). get_or l u 0) (Q.is t lt) ∙ in_range (distances S i t) u 0 far (omega (arith, distances_length S i t))
