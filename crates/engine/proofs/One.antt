-- Laws of one topology's tables, as the functions use them.
use Prim.Native.Nat.{ℕ, suc, ◌≤◌, ◌<◌}
use native.Mathlib.Nat.{eq-or-lt_of_le, le_of_suc-le-suc}
use native.Mathlib.Omega.{arith}
use mathlib.Core.Path.{◌≡◌, sym, ap, subst, ◌∙◌}
use mathlib.Core.Logic.{⊎_elim}
use mathlib.Core.List.{List}
use lib.ListN.{length, get_or}
use Rattle.rules.specs.declared.Network.{Network}
use Rattle.rules.specs.Basics.{need, up_to}
use Rattle.rules.specs.Limits.{restricted_weight, home_records}
use Rattle.rules.specs.File.{Set}
use Rattle.rules.specs.Isolation.{home}
use Rattle.rules.specs.Entries.Write.{set_with}
use Rattle.rules.specs.Sets.{AcceptedSet}
use Rattle.routes.specs.Listed.{listed}
use Rattle.routes.specs.Passes.{net_of, Wired, settled}
use Rattle.routes.specs.Costs.{cost, row_of, HoldsRow, cost_at, Links, Distances}
use Rattle.routes.proofs.Exact.{costs_wired, settled_low, settled_distances}
use Rattle.routes.proofs.ListedSets.{holds_row, held_links, held_costs}
use Rattle.nexthops.specs.Ties.{tie_table}
use Rattle.alternates.specs.Alternates.{Homed, RowsTo}
use Rattle.nexthops.proofs.NextHops.{tie_table_is}
use Rattle.alternates.proofs.Detours.{alternate_of_is}
use Rattle.engine.specs.Stages.{hop_table, Ready, AlternatesBelow, Added}

-- the lists hold the set S
module _ (net : Network) (a b weights homes rows : List ℕ) (S : Set) (V : listed net a b weights homes rows ≡ S) (A : AcceptedSet (listed net a b weights homes rows)) where
  accepted : AcceptedSet S
  accepted = subst AcceptedSet V A

  pub net_held : net ≡ S.net
  unfolding set_with
  net_held = ap (λ (Q : Set). Q.net) V

  a_held : a ≡ S.a
  unfolding set_with
  a_held = ap (λ (Q : Set). Q.a) V

  b_held : b ≡ S.b
  unfolding set_with
  b_held = ap (λ (Q : Set). Q.b) V

  homes_held : homes ≡ S.homes
  unfolding set_with
  homes_held = ap (λ (Q : Set). Q.homes) V

  -- ---- `costs`
  pub few_links : net.m ≤ 128
  unfolding set_with
  few_links = A.rules.limits.links.1

  pub held_row : (i : ℕ) → i ≤ S.net.k → HoldsRow weights rows net.m i
  held_row i h = holds_row net a b weights homes rows A i (rw net_held h)

  pub costs_links : (i : ℕ) (row c : List ℕ) → i ≤ S.net.k → row ≡ row_of weights rows net.m i → length c ≡ S.net.m → Links a b homes row (length c)
  costs_links i row c h e l = rw (l, ← net_held) (held_links net a b weights homes rows A i (rw net_held h) row e)

  pub costs_are : (i r : ℕ) (row c e : List ℕ) → i ≤ S.net.k → length c ≡ S.net.m → row ≡ row_of weights rows net.m i → r ≡ restricted_weight net
      → e ≡ up_to (cost_at a b homes row i r) (length c) → e ≡ up_to (cost S i) S.net.m
  unfolding set_with
  costs_are i r row c e h l er ew q =
      let k : i ≤ net.k = rw net_held h in
      let m : length c ≡ net.m = l ∙ ap (λ (n : Network). n.m) (sym net_held) in
      rw (← net_held, ← V) (held_costs net a b weights homes rows A i k row e r er ew (q ∙ rw m))

  -- ---- `measure`
  module _ (i : ℕ) (hi : i ≤ S.net.k) (c : List ℕ) (is : c ≡ up_to (cost S i) S.net.m) where
    wired : Wired a b c S.net.n
    wired = rw (a_held, b_held) (costs_wired S accepted i hi c is)

    pub measure_wired : (d : List (List ℕ)) → length d ≡ S.net.n → Wired a b c (length d)
    measure_wired d l = rw l wired

    pub measured : (d e : List (List ℕ)) → length d ≡ S.net.n → e ≡ settled (net_of a b c) (length d) → Ready S i c e
    measured d e l q =
        let r : e ≡ settled (net_of S.a S.b c) S.net.n = q ∙ rw (l, a_held, b_held) in
        record { costs = is; distances = settled_distances S accepted i hi c is e r; low = rw r (settled_low S accepted i hi c is) }

  -- ---- `topology`
  module _ (i : ℕ) (hi : i ≤ S.net.k) (c : List ℕ) (d : List (List ℕ)) (R : Ready S i c d) where
    rows_are : length d ≡ S.net.n
    rows_are = R.distances.long

    pub ready_wired : Wired a b c (length d)
    ready_wired = measure_wired i hi c R.costs d rows_are

    pub ready_homed : Homed a b homes (length d)
    unfolding home_records need
    ready_homed =
        rw rows_are (
        let W = wired i hi c R.costs in
        let h = accepted.topologies in
        record {
          few = W.few;
          b_long = W.b_long;
          homes_long = ap length homes_held ∙ accepted.rules.homes_long ∙ rw (borrow.Author.Tests.ne_eqb S.net.k 0 (omega arith));
          a_in = W.a_in;
          b_in = W.b_in;
        })

    alternates_more : (alts e : List (List ℕ)) → AlternatesBelow S i alts → RowsTo S.a S.b S.homes i d (length d) alts e → AlternatesBelow S (suc i) e
    unfolding home
    alternates_more alts e B T =
        record {
          long = T.long ∙ B.long;
          is = λ u lu h v lv.
              ⊎_elim
              (λ (q : home S u ≡ i).
              (T.done u (omega (arith, rows_are)) q).is v (omega (arith, rows_are))
              ∙ alternate_of_is S accepted u lu d (subst (λ (j : ℕ). Distances S j d) (sym q) R.distances) v lv)
              (λ (g : home S u < i).
              ap (λ (r : List ℕ). get_or r v 0) (T.kept u (λ z. omega (arith, z))) ∙ B.is u lu g v lv)
              (eq-or-lt_of_le (le_of_suc-le-suc h));
        }

    pub added : (alts e : List (List ℕ)) (out : List ℕ) → AlternatesBelow S i alts → RowsTo a b homes i d (length d) alts e → out ≡ tie_table (net_of a b c) d (length d) → Added S i out e
    unfolding hop_table
    added alts e out B T q =
        record {
          hops = q ∙ rw (rows_are, a_held, b_held) (tie_table_is S accepted i hi c R.costs d R.distances);
          alternates = alternates_more alts e B (rw (a_held, b_held, homes_held) at T);
        }
