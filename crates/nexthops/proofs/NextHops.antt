-- The next hops by tie words are the published ones, for the costs and distances of an accepted set.
use Rattle.std.specs.Prelude.{if◌then◌else◌}
use Prim.Native.Nat.{ℕ, zero, suc, ◌+◌, ◌≤◌, ◌<◌}
use native.Mathlib.Nat.{le_trans, min-le_left, min-le_right, min-eq_left, min-eq_right, eq-or-lt_of_le, le_of_suc-le-suc, le_of_lt, le_antisymm}
use native.Mathlib.Omega.{arith}
use mathlib.Core.Path.{◌≡◌, refl, sym, ◌∙◌}
use mathlib.Core.Bool.{Bool, true, false}
use mathlib.Core.Logic.{◌⊎◌, inl, inr, ⊎_elim}
use mathlib.Core.List.{List}
use lib.Dec.{eqb}
use lib.ListN.{length, get_or}
use borrow.Author.Tests.{eqb-true, eqb-false, eq-eqb}
use Rattle.rules.specs.Basics.{lowest, up_to, flat}
use Rattle.rules.specs.File.{Set}
use Rattle.rules.specs.Isolation.{link_between}
use Rattle.rules.specs.Distance.{distances, distance, on_least_path, next_hop}
use Rattle.rules.specs.Sets.{AcceptedSet}
use Rattle.rules.proofs.Ground.Choices.{if_yes, if_no}
use Rattle.rules.proofs.Ground.Rows.{up_to_ext, flat_ext}
use Rattle.rules.proofs.Isolation.Links.{link_below, link_ends, hop_neighbours, usable_hop}
use Rattle.rules.proofs.Distance.Reach.{below_far}
use Rattle.rules.proofs.Distance.NextHops.{Next, next}
use Rattle.routes.specs.Lanes.{column}
use Rattle.routes.specs.Passes.{Net, net_of}
use Rattle.routes.specs.Costs.{cost, Distances}
use Rattle.routes.proofs.Passes.{Leads}
use Rattle.routes.proofs.Lanes.{in_or_out}
use Rattle.routes.proofs.Exact.{CostIs, unused, used, cost_is, hop_cost, cost_entry, distance_entry}
use Rattle.nexthops.specs.Ties.{via, tie_end, lowest_end, tie_hop, tie_table}

pub split : (m n : ℕ) → (m ≤ n) ⊎ (n < m)
split m n = ⊎_elim (λ (h : n < m). inr h) (λ (h : m ≤ n). inl h) (in_or_out n m)

-- ---- the links that tie

module _ (G : Net) (D : List ℕ) (u : ℕ) where
  -- link l leads from u to z, and is on a least path by the distances D
  record Tied (l z : ℕ) : Type 0 where
    leads : Leads G l u z
    exact : G.cost l + get_or D z 0 ≡ get_or D u 0

  record Met (x y c z : ℕ) : Type 0 where
    from : x ≡ u
    to : y ≡ z
    exact : c + get_or D y 0 ≡ get_or D u 0

  via_cases : (x y c z : ℕ) → via x y u c D ≡ z → z < 32 → Met x y c z
  unfolding via
  via_cases x y c z e h = go (eqb x u) refl (eqb (c + get_or D y 0) (get_or D u 0)) refl
    where
      inner : ℕ
      inner = if eqb (c + get_or D y 0) (get_or D u 0) then y else 32

      go : (s : Bool) → eqb x u ≡ s → (r : Bool) → eqb (c + get_or D y 0) (get_or D u 0) ≡ r → Met x y c z
      go true es true er =
          record {
            from = eqb-true x u es;
            to = sym (if_yes (eqb x u) inner 32 es ∙ if_yes (eqb (c + get_or D y 0) (get_or D u 0)) y 32 er) ∙ e;
            exact = eqb-true (c + get_or D y 0) (get_or D u 0) er;
          }
      go true es false er =
          absurd (omega (arith, e, if_yes (eqb x u) inner 32 es, if_no (eqb (c + get_or D y 0) (get_or D u 0)) y 32 er))
      go false es r er = absurd (omega (arith, e, if_no (eqb x u) inner 32 es))

  via_met : (x y c : ℕ) → x ≡ u → c + get_or D y 0 ≡ get_or D u 0 → via x y u c D ≡ y
  unfolding via
  via_met x y c e f =
      if_yes (eqb x u) (if eqb (c + get_or D y 0) (get_or D u 0) then y else 32) 32 (eq-eqb x u e)
      ∙ if_yes (eqb (c + get_or D y 0) (get_or D u 0)) y 32 (eq-eqb (c + get_or D y 0) (get_or D u 0) f)

  end_tied : (l z : ℕ) → tie_end G D u l ≡ z → z < 32 → Tied l z
  unfolding tie_end
  end_tied l z e h =
      let p = via (G.a l) (G.b l) u (G.cost l) D in
      let q = via (G.b l) (G.a l) u (G.cost l) D in
      ⊎_elim
      (λ (s : p ≤ q).
      let M = via_cases (G.a l) (G.b l) (G.cost l) z (sym (min-eq_left s) ∙ e) h in
      record { leads = inl (M.from, M.to); exact = rw (← M.to) M.exact })
      (λ (s : q < p).
      let M = via_cases (G.b l) (G.a l) (G.cost l) z (sym (min-eq_right (le_of_lt s)) ∙ e) h in
      record { leads = inr (M.to, M.from); exact = rw (← M.to) M.exact })
      (split p q)

  tied_end : (l z : ℕ) → Tied l z → tie_end G D u l ≤ z
  unfolding tie_end
  tied_end l z T =
      let p = via (G.a l) (G.b l) u (G.cost l) D in
      let q = via (G.b l) (G.a l) u (G.cost l) D in
      ⊎_elim
      (λ (e : (G.a l ≡ u) × (G.b l ≡ z)). omega (arith, via_met (G.a l) (G.b l) (G.cost l) e.0 (rw e.1 T.exact), e.1))
      (λ (e : (G.a l ≡ z) × (G.b l ≡ u)). omega (arith, via_met (G.b l) (G.a l) (G.cost l) e.1 (rw e.0 T.exact), e.0))
      T.leads

  lowest_le : (k l : ℕ) → l < k → lowest_end G D u k ≤ tie_end G D u l
  unfolding lowest_end
  lowest_le zero l h = absurd (omega arith)
  lowest_le (suc k) l h =
      ⊎_elim (λ (e : l ≡ k). rw e (min-le_right (lowest_end G D u k) (tie_end G D u k)))
      (λ (p : l < k). le_trans (min-le_left (lowest_end G D u k) (tie_end G D u k)) (lowest_le k l p))
      (eq-or-lt_of_le (le_of_suc-le-suc h))

  record Hit (k : ℕ) : Type 0 where
    link : ℕ
    inside : link < k
    is : tie_end G D u link ≡ lowest_end G D u k

  lowest_hit : (k : ℕ) → lowest_end G D u k < 32 → Hit k
  unfolding lowest_end
  lowest_hit zero h = absurd (omega arith)
  lowest_hit (suc k) h =
      ⊎_elim
      (λ (p : lowest_end G D u k ≤ tie_end G D u k).
      let i = lowest_hit k (omega arith) in
      record { link = i.link; inside = omega (arith, i.inside); is = i.is ∙ sym (min-eq_left p) })
      (λ (p : tie_end G D u k < lowest_end G D u k). record { link = k; inside = omega arith; is = sym (min-eq_right (le_of_lt p)) })
      (split (lowest_end G D u k) (tie_end G D u k))

-- ---- in an accepted set

module _ (S : Set) (A : AcceptedSet S) (i : ℕ) (hi : i ≤ S.net.k) (c : List ℕ) (is : c ≡ up_to (cost S i) S.net.m) (d : List (List ℕ)) (Q : Distances S i d) where
  abbrev G : Net
  G = net_of S.a S.b c

  links : length S.a ≡ S.net.m
  links = A.rules.links_long.0

  module _ (u t : ℕ) (lu : u < S.net.n) (lt : t < S.net.n) (ne : u ≡ t → ⊥) where
    D : List ℕ
    D = column t d

    entry : (x : ℕ) → x < S.net.n → get_or D x 0 ≡ distance S i x t
    unfolding D
    entry x lx = distance_entry S i d Q x t lx lt

    v : ℕ
    v = next_hop S i u t

    N : Next S i u t v
    unfolding v
    N = next S A i u t hi lu lt ne

    -- the next hop's link ties
    next_ties : lowest_end G D u G.links ≤ v
    next_ties =
        let n = hop_neighbours S i u v (usable_hop S i u v N.over) in
        let l = link_between S u v in
        let below = link_below S u v n in
        let ce = cost_entry S A i hi c is l below in
        let T : Tied G D u l v = record { leads = link_ends S u v n; exact = omega (arith, ce, hop_cost S A i hi u v N.over, N.sum, entry v N.node, entry u lu) } in
        le_trans (lowest_le G D u G.links l (omega (arith, below, links))) (tied_end G D u l v T)

    -- and no lower node does
    none_lower : (z : ℕ) → z < v → (l : ℕ) → l < S.net.m → Tied G D u l z → ⊥
    none_lower z h l hl T = go (cost_is S A i hi l u z hl T.leads)
      where
        lz : z < S.net.n
        lz = omega (arith, N.node)

        go : CostIs S i l u z → ⊥
        go (unused e) = omega (arith, cost_entry S A i hi c is l hl, T.exact, entry z lz, entry u lu, below_far S A i t hi lt u lu)
        go (used g e) = N.lower z h g (omega (arith, cost_entry S A i hi c is l hl, T.exact, entry z lz, entry u lu))

    tie_next : lowest_end G D u G.links ≡ v
    tie_next =
        le_antisymm next_ties
        (⊎_elim (λ (h : v ≤ lowest_end G D u G.links). h)
        (λ (h : lowest_end G D u G.links < v).
        let few : lowest_end G D u G.links < 32 = omega (arith, N.node, A.rules.limits.nodes.1) in
        let H = lowest_hit G D u G.links few in
        absurd (none_lower (lowest_end G D u G.links) h H.link (omega (arith, H.inside, links)) (end_tied G D u H.link (lowest_end G D u G.links) H.is few)))
        (split v (lowest_end G D u G.links)))

  tie_hop_is : (u t : ℕ) → u < S.net.n → t < S.net.n → tie_hop G d u t ≡ next_hop S i u t
  unfolding tie_hop D v next_hop
  tie_hop_is u t lu lt = go (eqb u t) refl
    where
      go : (b : Bool) → eqb u t ≡ b → tie_hop G d u t ≡ next_hop S i u t
      go true e = if_yes (eqb u t) u (lowest_end G (column t d) u G.links) e ∙ sym (if_yes (eqb u t) u (lowest (on_least_path S i u (distances S i t)) S.net.n 255) e)
      go false e = if_no (eqb u t) u (lowest_end G (column t d) u G.links) e ∙ tie_next u t lu lt (eqb-false u t e)

  pub tie_table_is : tie_table G d S.net.n ≡ flat (λ u. up_to (next_hop S i u) S.net.n) S.net.n
  unfolding tie_table
  tie_table_is =
      flat_ext (λ u. up_to (tie_hop G d u) S.net.n) (λ u. up_to (next_hop S i u) S.net.n) S.net.n
      (λ u lu. up_to_ext (tie_hop G d u) (next_hop S i u) S.net.n (λ t lt. tie_hop_is u t lu lt))
