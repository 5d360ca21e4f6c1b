-- What the code looks up and counts by the file's own tables is what the rules say of its set.
use Rattle.std.specs.Prelude.{if◌then◌else◌}
use mathlib.Core.Path.{◌≡◌, refl, sym, ap, ap₂, subst, ◌∙◌}
use mathlib.Core.Bool.{Bool, true, false}
use mathlib.Core.List.{List, ◌++◌}
use Prim.Native.Nat.{ℕ, zero, suc, ◌+◌, ◌-◌, ◌≤◌, ◌<◌}
use native.Mathlib.Numerals.{add-one}
use native.Mathlib.Omega.{arith}
use lib.Dec.{eqb}
use lib.ListN.{get_or}
use borrow.Author.Tests.{eq-eqb, ne_eqb, eqb-false}
use Rattle.rules.specs.declared.Network.{Network}
use Rattle.rules.specs.declared.Kind.TheVariants as change
use Rattle.rules.specs.declared.Step.{Step}
use Rattle.rules.specs.declared.Step.TheVariants.{Moved}
use Rattle.rules.specs.Verdict.{Accepted}
use Rattle.rules.specs.Basics.{laid}
use Rattle.rules.specs.Limits.{most_hops}
use Rattle.rules.specs.File.{Set, header_of, set_of}
use Rattle.rules.specs.Isolation.{home}
use Rattle.rules.specs.Distance.{next_hop, table_bytes}
use Rattle.rules.specs.Judgement.{take_set}
use Rattle.rules.specs.Forwarding.{tables_of, entry_place, lent_tables, packet}
use Rattle.rules.specs.Report.{packet_of, kind_of, detection, backup_hops, plain_hops}
use Rattle.rules.proofs.Ground.Choices.{if_yes, if_no}
use Rattle.rules.proofs.Ground.Rows.{laid_rest}
use Rattle.rules.proofs.File.SetOfBytes.{net_held}
use Rattle.rules.proofs.File.TakenIn.{set_accepted}
use Rattle.rules.proofs.Isolation.Homes.{home_high}
use Rattle.rules.proofs.Distance.NextHops.{least_next_hops}
use Rattle.rules.proofs.Forwarding.Runs.{Within}
use Rattle.rules.proofs.Forwarding.LentTables.{Agree, lent_agree}
use Rattle.rules.proofs.Report.TextLength.{after_detection}
use Rattle.onehop.specs.declared.Change.{Change}
use Rattle.onehop.specs.Hop.{tables_at, kind_by, detour_by, detour_of}
use Rattle.detections.specs.Detection.{Ready, Pair, walk_hops, Walked, seen_by}
use Rattle.detections.proofs.Walks.{along, plain_along, backup_along, detection_along}

-- ---- the next hops of one topology, counted

-- so many hops, h, of at most so many are behind, and u is where they led
pub record Walking (tables : List ℕ) (net : Network) (i t most from h u : ℕ) : Type 0 where
  pub few : h ≤ most
  pub rest : walk_hops tables net i t most from ≡ h + walk_hops tables net i t (most - h) u

module _ (tables : List ℕ) (net : Network) (i t : ℕ) where
  walk_there : (most u : ℕ) → u ≡ t → walk_hops tables net i t most u ≡ 0
  unfolding walk_hops
  walk_there zero u e = refl
  walk_there (suc most) u e = if_yes (eqb u t) _ _ (eq-eqb u t e)

  walk_on : (most u : ℕ) → (u ≡ t → ⊥) → walk_hops tables net i t (suc most) u ≡ suc (walk_hops tables net i t most (get_or tables (entry_place net i u t) 0))
  unfolding walk_hops
  walk_on most u e = if_no (eqb u t) _ _ (ne_eqb u t e)

  walk_none : (u : ℕ) → walk_hops tables net i t 0 u ≡ 0
  unfolding walk_hops
  walk_none u = refl

  pub walk_begins : (most from : ℕ) → Walking tables net i t most from 0 from
  walk_begins most from =
      let all : most - 0 ≡ most = omega arith in
      record { few = omega arith; rest = omega (arith, ap (λ (x : ℕ). walk_hops tables net i t x from) all) }

  pub walk_goes_on : (most from h u v j : ℕ) → j ≡ i → v ≡ get_or tables (entry_place net j u t) 0 → Walking tables net i t most from h u → (u ≡ t → ⊥) → h < most → Walking tables net i t most from (h + 1) v
  walk_goes_on most from h u v j q e W ne l =
      let one : most - h ≡ suc (most - (h + 1)) = omega arith in
      let there : v ≡ get_or tables (entry_place net i u t) 0 = e ∙ ap (λ (k : ℕ). get_or tables (entry_place net k u t) 0) q in
      let on = ap (λ (x : ℕ). walk_hops tables net i t x u) one ∙ walk_on (most - (h + 1)) u ne ∙ ap (λ (x : ℕ). suc (walk_hops tables net i t (most - (h + 1)) x)) (sym there) in
      record { few = omega arith; rest = omega (arith, W.rest) }

  pub walk_arrives : (most from h u : ℕ) → Walking tables net i t most from h u → u ≡ t → Walked tables net i from t most h
  walk_arrives most from h u W e = record { is = omega (arith, W.rest, walk_there (most - h) u e); few = W.few }

  pub walk_stops : (most from h u : ℕ) → Walking tables net i t most from h u → most ≤ h → Walked tables net i from t most most
  walk_stops most from h u W l =
      let few = W.few in
      let z : most - h ≡ 0 = omega arith in
      record { is = omega (arith, W.rest, ap (λ (x : ℕ). walk_hops tables net i t x u) z, walk_none u); few = omega arith }

-- ---- by the file's own tables

laid_twice : (new old : List ℕ) → laid new (laid new old) ≡ laid new old
unfolding laid
laid_twice new old = ap (λ (l : List ℕ). new ++ l) (laid_rest new old)

-- tables that lie at the front of what was lent are those that they would be laid over by themselves
pub ready_own : (s tables : List ℕ) (net : Network) → Ready s net tables → laid (table_bytes (set_of s)) tables ≡ tables
ready_own s tables net R = ap (laid (table_bytes (set_of s))) R.made ∙ laid_twice (table_bytes (set_of s)) R.before ∙ sym R.made

-- the limits of an accepted file's header
module _ (s : List ℕ) (net : Network) (c : take_set s ≡ Accepted) (h : net ≡ header_of s) where
  pub nodes_least : 3 ≤ net.n
  nodes_least = rw (h, ← net_held s) (set_accepted s c).rules.limits.nodes.0

  pub nodes_most : net.n ≤ 32
  nodes_most = rw (h, ← net_held s) (set_accepted s c).rules.limits.nodes.1

  pub some_hops : (most : ℕ) → most ≡ most_hops net → 1 ≤ most
  unfolding most_hops
  some_hops most e = omega (arith, nodes_least)

pub own_ready : (s tables : List ℕ) (net : Network) → take_set s ≡ Accepted → net ≡ header_of s → laid (table_bytes (set_of s)) tables ≡ tables → Ready s net tables
own_ready s tables net c h e =
    record { accepted = c; header = h; before = tables; made = sym e; least = nodes_least s net c h; most = nodes_most s net c h }

module _ (s tables : List ℕ) (net : Network) (R : Ready s net tables) where
  pub same_net : net ≡ (set_of s).net
  same_net = R.header ∙ sym (net_held s)

  agree : Agree (set_of s) (tables_at s tables)
  agree =
      subst (λ (h : Network). Agree (set_of s) (lent_tables h tables)) (net_held s)
      (subst (λ (l : List ℕ). Agree (set_of s) (lent_tables (set_of s).net l)) (sym R.made) (lent_agree (set_of s) R.before))

  in_set : (u : ℕ) → u < net.n → u < (set_of s).net.n
  in_set u l = subst (λ (h : Network). u < h.n) same_net l

  same_next : (u t : ℕ) → Pair net u t → get_or tables (entry_place net 0 u t) 0 ≡ next_hop (set_of s) 0 u t
  unfolding lent_tables
  same_next u t P =
      ap (λ (h : Network). get_or tables (entry_place h 0 u t) 0) R.header
      ∙ agree.next 0 u t (omega arith) (in_set u P.node) (in_set t P.end)

  -- the file's tables lead to the detour that the rules say
  same_detour : (u t via : ℕ) → Pair net u t → via < (set_of s).net.n → detour_of (set_of s) (tables_at s tables) u t via ≡ detour_of (set_of s) (tables_of (set_of s)) u t via
  unfolding detour_of detour_by tables_of
  same_detour u t via P lv =
      let S = set_of s in
      let lu = in_set u P.node in
      ap₂ (λ (w x : ℕ). if eqb w via then record { next = x; topology = home S u; kind = change.D } else record { next = w; topology = home S via; kind = kind_by t via })
      (agree.next (home S via) u t (home_high S (set_accepted s R.accepted) via lv) lu (in_set t P.end)) (agree.alternate u via lu lv)

  -- the tables' next hops are those of the rules, all the way
  same_walk : (i t most u : ℕ) → i ≤ (set_of s).net.k → t < (set_of s).net.n → u < (set_of s).net.n → walk_hops tables net i t most u ≡ along (set_of s) i t most u
  unfolding walk_hops along lent_tables
  same_walk i t zero u li lt lu = refl
  same_walk i t (suc most) u li lt lu = go (eqb u t) refl (same_walk i t most v li lt)
    where
      S : Set
      S = set_of s

      v : ℕ
      v = next_hop S i u t

      there : get_or tables (entry_place net i u t) 0 ≡ v
      there = ap (λ (h : Network). get_or tables (entry_place h i u t) 0) R.header ∙ agree.next i u t li lu lt

      go : (b : Bool) → eqb u t ≡ b → (v < S.net.n → walk_hops tables net i t most v ≡ along S i t most v)
          → (if eqb u t then 0 else suc (walk_hops tables net i t most (get_or tables (entry_place net i u t) 0))) ≡ (if eqb u t then 0 else suc (along S i t most v))
      go true e rest = if_yes (eqb u t) _ _ e ∙ sym (if_yes (eqb u t) _ _ e)
      go false e rest =
          let low = (least_next_hops S (set_accepted s R.accepted) i u t li lu lt (eqb-false u t e)).node in
          ap (λ (x : ℕ). if eqb u t then 0 else suc (walk_hops tables net i t most x)) there ∙ ap (λ (x : ℕ). if eqb u t then 0 else suc x) (rest low)

  -- what the node sees, from its detour and the next hops that are counted
  pub seen_of : (u t via most back plain : ℕ) (d : Change) → Pair net u t → (u ≡ t → ⊥)
      → via ≡ get_or tables (entry_place net 0 u t) 0 → d ≡ detour_of (set_of s) (tables_at s tables) u t via → most ≡ most_hops net
      → Walked tables net d.topology d.next t (most - 1) back → Walked tables net 0 u t most plain
      → record { via = via; kind = d.kind; topology = d.topology; next = d.next; hops = back + 1; plain = plain } ≡ seen_by (set_of s) u t
  unfolding seen_by packet_of kind_of
  seen_of u t via most back plain d P ne e0 e1 e2 B F =
      let S = set_of s in
      let A = set_accepted s R.accepted in
      let lu = in_set u P.node in
      let lt = in_set t P.end in
      let v : via ≡ next_hop S 0 u t = e0 ∙ same_next u t P in
      let lv : via < S.net.n = subst (λ (x : ℕ). x < S.net.n) (sym v) (least_next_hops S A 0 u t (omega arith) lu lt ne).node in
      let x : detection S u t ≡ Moved (packet d.next t d.topology) d.kind =
      detection_along S A u t lu lt ne d (e1 ∙ same_detour u t via P lv ∙ ap (detour_of S (tables_of S) u t) v)
      in
      let m : most ≡ most_hops S.net = e2 ∙ ap most_hops same_net in
      let W : Within S (packet d.next t d.topology) = subst (λ (y : Step). Within S (packet_of y)) x (after_detection S A u t lu lt ne) in
      let b : back + 1 ≡ backup_hops S u t =
      add-one back
      ∙ ap suc (B.is ∙ ap (λ (y : ℕ). walk_hops tables net d.topology t (y - 1) d.next) m ∙ same_walk d.topology t (most_hops S.net - 1) d.next W.known lt W.node)
      ∙ sym (backup_along S A u t lu lt ne (packet d.next t d.topology) d.kind x)
      in
      let f : plain ≡ plain_hops S u t =
      F.is ∙ ap (λ (y : ℕ). walk_hops tables net 0 t y u) m ∙ same_walk 0 t (most_hops S.net) u (omega arith) lt lu ∙ sym (plain_along S A u t lu lt ne)
      in
      let y = sym x in
      λ i. record { via = v i; kind = kind_of (y i); topology = (packet_of (y i)).topology; next = (packet_of (y i)).place; hops = b i; plain = f i }

pub ruleset walks = (walk_begins, walk_goes_on, walk_arrives, walk_stops)

pub ruleset seens = (own_ready, nodes_least, nodes_most, some_hops, seen_of)
