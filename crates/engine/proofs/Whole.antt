-- Laws of the whole tables, as the functions use them.
use Prim.Native.Nat.{ℕ, ◌+◌, ◌-◌, ◌*◌, ◌≤◌, ◌<◌}
use native.Mathlib.Nat.{mul-le-mul_right}
use native.Mathlib.Numerals.{add-one}
use native.Mathlib.Omega.{arith}
use mathlib.Core.Path.{◌≡◌, refl, sym, ap, ap₂, subst, ◌∙◌}
use mathlib.Core.List.{List, [], ◌++◌, append-nil}
use Rattle.std.proofs.Common.{get_or-take}
use lib.ListN.{length, get_or, take, drop, length-drop, length-append}
use lib.Seq.{ext_get_or, drop-length, take_at, length-take-le}
use Rattle.rules.specs.declared.Network.{Network}
use Rattle.rules.specs.Basics.{up_to, flat}
use Rattle.rules.specs.Limits.{tables_length}
use Rattle.rules.specs.File.{Set}
use Rattle.rules.specs.Distance.{next_hop, alternate, table_bytes}
use Rattle.rules.specs.Entries.Write.{set_with}
use Rattle.rules.specs.Sets.{AcceptedSet}
use Rattle.routes.specs.Listed.{listed}
use Rattle.rules.proofs.Ground.Rows.{length_up_to, get_d_up_to, up_to_ext, length_flat, flat_ext}
use Rattle.rules.proofs.Isolation.Homes.{home_high}
use Rattle.routes.proofs.Filling.{rows_done, at_more, part_long, start_none, start_more}
use Rattle.engine.specs.Stages.{hop_table, entry, entries_of, AlternatesBelow, Added, AllAdded, Stage}

module _ (net : Network) (a b weights homes rows : List ℕ) (A : AcceptedSet (listed net a b weights homes rows)) where
  pub few_nodes : net.n ≤ 32
  unfolding set_with
  few_nodes = A.rules.limits.nodes.1

  few_links : net.m ≤ 128
  unfolding set_with
  few_links = A.rules.limits.links.1

  -- ---- room for the links and for the nodes
  pub links_room : (c : List ℕ) → length c ≡ 128 → net.m ≤ length c
  links_room c l = omega (arith, few_links)

  pub links_count : (c : List ℕ) → length c ≡ 128 → net.m ≡ length (take net.m c)
  links_count c l = sym (length-take-le net.m c (links_room c l))

  pub nodes_room : (d : List (List ℕ)) → length d ≡ 32 → net.n ≤ length d
  nodes_room d l = omega (arith, few_nodes)

  pub nodes_count : (d : List (List ℕ)) → length d ≡ 32 → net.n ≡ length (take net.n d)
  nodes_count d l = sym (length-take-le net.n d (nodes_room d l))

  pub links_kept : (c y : List ℕ) → length c ≡ 128 → length y ≡ length (take net.m c) → length (y ++ drop net.m c) ≡ 128
  links_kept c y l e = omega (arith, length-append y (drop net.m c), length-drop net.m c, links_room c l, links_count c l)

  pub nodes_kept : (d y : List (List ℕ)) → length d ≡ 32 → length y ≡ length (take net.n d) → length (y ++ drop net.n d) ≡ 32
  nodes_kept d y l e = omega (arith, length-append y (drop net.n d), length-drop net.n d, nodes_room d l, nodes_count d l)

  -- ---- `fill_tables`
  pub out_held : (out : List ℕ) → length out ≡ tables_length net → length out ≡ tables_length (listed net a b weights homes rows).net
  unfolding set_with
  out_held out l = l

-- ---- of an accepted set
module _ (S : Set) (A : AcceptedSet S) where
  table_long : (i : ℕ) → length (hop_table S i) ≡ S.net.n * S.net.n
  unfolding hop_table
  table_long i = length_flat (λ u. up_to (next_hop S i u) S.net.n) S.net.n S.net.n (λ u h. length_up_to (next_hop S i u) S.net.n)

  room_after : (i : ℕ) (out : List ℕ) → i ≤ S.net.k → length out ≡ (S.net.k + 1) * (S.net.n * S.net.n) → i * (S.net.n * S.net.n) + S.net.n * S.net.n ≤ length out
  room_after i out h l =
      let g : i + 1 ≤ S.net.k + 1 = omega arith in
      omega (arith, at_more i (S.net.n * S.net.n) (i * (S.net.n * S.net.n)) refl, mul-le-mul_right (S.net.n * S.net.n) g, l)

  one_more : (i : ℕ) (out₀ out y : List ℕ) (alts e : List (List ℕ)) → Stage S out₀ out alts i → Added S i y e
      → Stage S out₀ (take (i * (S.net.n * S.net.n)) out ++ (y ++ drop (i * (S.net.n * S.net.n) + S.net.n * S.net.n - i * (S.net.n * S.net.n)) (drop (i * (S.net.n * S.net.n)) out))) e (i + 1)
  one_more i out₀ out y alts e Q D =
      record {
        is = start_more (hop_table S) (S.net.n * S.net.n) i out₀ out y table_long Q.is D.hops;
        alternates = rw add-one D.alternates;
      }

  all_done : (i : ℕ) (out₀ out : List ℕ) (alts : List (List ℕ)) → Stage S out₀ out alts i → i ≡ S.net.k + 1 → length out₀ ≡ (S.net.k + 1) * (S.net.n * S.net.n) → AllAdded S out alts
  all_done i out₀ out alts Q e l =
      record {
        hops = rows_done (hop_table S) (S.net.n * S.net.n) (S.net.k + 1) i (i * (S.net.n * S.net.n)) out₀ out (omega arith) (omega arith) refl l Q.is;
        alternates = subst (λ (j : ℕ). AlternatesBelow S j alts) e Q.alternates;
      }

  alternates_are : (f : List (List ℕ)) → AlternatesBelow S (S.net.k + 1) f → flat (entries_of f S.net.n) S.net.n ≡ flat (λ u. up_to (alternate S u) S.net.n) S.net.n
  unfolding entries_of entry
  alternates_are f B =
      flat_ext (entries_of f S.net.n) (λ u. up_to (alternate S u) S.net.n) S.net.n
      (λ u lu. up_to_ext (entry (get_or f u [])) (alternate S u) S.net.n (λ v lv. B.is u lu (omega (arith, home_high S A u lu)) v lv))

  module _ (out : List ℕ) (long : length out ≡ tables_length S.net) where
    tables_long : length out ≡ (S.net.k + 1) * (S.net.n * S.net.n) + S.net.n * S.net.n
    unfolding tables_length
    tables_long = long

    split : ℕ
    split = length out - S.net.n * S.net.n

    front_fits : length (take split out) ≡ (S.net.k + 1) * (S.net.n * S.net.n)
    unfolding split
    front_fits = length-take-le split out (omega arith) ∙ omega (arith, tables_long)

    module _ (y : List ℕ) (f : List (List ℕ)) (D : AllAdded S y f) where
      front : length y ≡ split
      unfolding split
      front = ap length D.hops ∙ length_flat (hop_table S) (S.net.n * S.net.n) (S.net.k + 1) (λ i h. table_long i) ∙ omega (arith, tables_long)

      whole : List ℕ
      whole = y ++ drop split out

      back_long : length whole - split ≡ S.net.n * S.net.n
      unfolding whole split
      back_long = omega (arith, length-append y (drop split out), front, length-drop split out, tables_long)

      tail_fits : length (take (length whole - split) (drop split whole)) ≡ length f * length f
      tail_fits =
          length-take-le (length whole - split) (drop split whole) (omega (arith, length-drop split whole))
          ∙ back_long ∙ rw D.alternates.long

      filled : (z : List ℕ) → z ≡ flat (entries_of f (length f)) (length f) → take split whole ++ (z ++ drop (length whole - split) (drop split whole)) ≡ table_bytes S
      unfolding whole table_bytes hop_table
      filled z q =
          let rest : drop (length whole - split) (drop split whole) ≡ [] = ap (λ (j : ℕ). drop j (drop split whole)) (sym (length-drop split whole)) ∙ drop-length (drop split whole) in
          ap₂ ◌++◌ (take_at y (drop split out) split front ∙ D.hops)
          (ap₂ ◌++◌ q rest ∙ append-nil (flat (entries_of f (length f)) (length f)) ∙ rw D.alternates.long (alternates_are f D.alternates))

-- ---- of the set that lists hold
module _ (net : Network) (a b weights homes rows : List ℕ) (S : Set) (V : listed net a b weights homes rows ≡ S) (A : AcceptedSet (listed net a b weights homes rows)) where
  accepted : AcceptedSet S
  accepted = subst AcceptedSet V A

  same : S.net ≡ net
  unfolding set_with
  same = ap (λ (Q : Set). Q.net) (sym V)

  -- ---- `topologies`
  pub turn_low : (i : ℕ) → i ≤ net.k → i ≤ S.net.k
  turn_low i h = rw same h

  pub links_held : (c : List ℕ) → length c ≡ 128 → length (take net.m c) ≡ S.net.m
  links_held c l = rw same (sym (links_count net a b weights homes rows A c l))

  pub nodes_held : (d : List (List ℕ)) → length d ≡ 32 → length (take net.n d) ≡ S.net.n
  nodes_held d l = rw same (sym (nodes_count net a b weights homes rows A d l))

  pub turn_room : (i : ℕ) (out₀ out : List ℕ) → i ≤ net.k → length out₀ ≡ (S.net.k + 1) * (S.net.n * S.net.n) → length out ≡ length out₀ → i * (net.n * net.n) + net.n * net.n ≤ length out
  turn_room i out₀ out h l m =
      subst (λ (N : Network). i * (N.n * N.n) + N.n * N.n ≤ length out) same (room_after S accepted i out (turn_low i h) (m ∙ l))

  pub turn_part : (i : ℕ) (out₀ out : List ℕ) → i ≤ net.k → length out₀ ≡ (S.net.k + 1) * (S.net.n * S.net.n) → length out ≡ length out₀
      → length (take (i * (net.n * net.n) + net.n * net.n - i * (net.n * net.n)) (drop (i * (net.n * net.n)) out)) ≡ S.net.n * S.net.n
  turn_part i out₀ out h l m =
      part_long (i * (net.n * net.n)) (net.n * net.n) out (turn_room i out₀ out h l m) ∙ ap (λ (N : Network). N.n * N.n) (sym same)

  pub stage_none : (out : List ℕ) (alts : List (List ℕ)) → length alts ≡ S.net.n → Stage S out out alts 0
  stage_none out alts l =
      record { is = start_none (hop_table S) (S.net.n * S.net.n) out; alternates = record { long = l; is = λ u lu h. absurd (omega arith) } }

  module _ (i : ℕ) (out₀ out : List ℕ) (alts : List (List ℕ)) (Q : Stage S out₀ out alts i) where
    pub stage_more : (y : List ℕ) (e : List (List ℕ)) → Added S i y e
        → Stage S out₀ (take (i * (net.n * net.n)) out ++ (y ++ drop (i * (net.n * net.n) + net.n * net.n - i * (net.n * net.n)) (drop (i * (net.n * net.n)) out))) e (i + 1)
    stage_more y e D =
        subst
        (λ (N : Network). Stage S out₀ (take (i * (N.n * N.n)) out ++ (y ++ drop (i * (N.n * N.n) + N.n * N.n - i * (N.n * N.n)) (drop (i * (N.n * N.n)) out))) e (i + 1))
        same (one_more S accepted i out₀ out y alts e Q D)

    pub stage_last : (y : List ℕ) (e : List (List ℕ)) → Added S i y e → i ≤ net.k → net.k ≤ i → length out₀ ≡ (S.net.k + 1) * (S.net.n * S.net.n)
        → AllAdded S (take (i * (net.n * net.n)) out ++ (y ++ drop (i * (net.n * net.n) + net.n * net.n - i * (net.n * net.n)) (drop (i * (net.n * net.n)) out))) e
    stage_last y e D h g l =
        all_done S accepted (i + 1) out₀ _ e (stage_more y e D) (let z : i + 1 ≡ net.k + 1 = omega arith in rw same z) l

  -- ---- `all_tables`
  module _ (out : List ℕ) (long : length out ≡ tables_length S.net) where
    pub tail_within : net.n * net.n ≤ length out
    tail_within =
        subst (λ (N : Network). N.n * N.n ≤ length out) same (omega (arith, tables_long S accepted out long))

    pub front_long : length (take (length out - net.n * net.n) out) ≡ (S.net.k + 1) * (S.net.n * S.net.n)
    unfolding split
    front_long = subst (λ (N : Network). length (take (length out - N.n * N.n) out) ≡ (S.net.k + 1) * (S.net.n * S.net.n)) same (front_fits S accepted out long)

    module _ (y : List ℕ) (f : List (List ℕ)) (D : AllAdded S y f) where
      pub alternates_few : length f ≤ 32
      alternates_few = omega (arith, D.alternates.long, accepted.rules.limits.nodes.1)

      pub tail_long : length (take (length (y ++ drop (length out - net.n * net.n) out) - (length out - net.n * net.n)) (drop (length out - net.n * net.n) (y ++ drop (length out - net.n * net.n) out))) ≡ length f * length f
      unfolding whole split
      tail_long =
          subst
          (λ (N : Network). length (take (length (y ++ drop (length out - N.n * N.n) out) - (length out - N.n * N.n)) (drop (length out - N.n * N.n) (y ++ drop (length out - N.n * N.n) out))) ≡ length f * length f)
          same (tail_fits S accepted out long y f D)

      pub all_filled : (z : List ℕ) → z ≡ flat (entries_of f (length f)) (length f)
          → take (length out - net.n * net.n) (y ++ drop (length out - net.n * net.n) out)
          ++ (z ++ drop (length (y ++ drop (length out - net.n * net.n) out) - (length out - net.n * net.n)) (drop (length out - net.n * net.n) (y ++ drop (length out - net.n * net.n) out)))
          ≡ table_bytes S
      unfolding whole split
      all_filled z q =
          subst
          (λ (N : Network). take (length out - N.n * N.n) (y ++ drop (length out - N.n * N.n) out)
          ++ (z ++ drop (length (y ++ drop (length out - N.n * N.n) out) - (length out - N.n * N.n)) (drop (length out - N.n * N.n) (y ++ drop (length out - N.n * N.n) out)))
          ≡ table_bytes S)
          same (filled S accepted out long y f D z q)

-- ---- `copy_rows`
front_is : (r : List ℕ) (n : ℕ) → n ≤ length r → take n r ≡ up_to (entry r) n
unfolding entry
front_is r n h =
    ext_get_or 0 (take n r) (up_to (entry r) n) (length-take-le n r h ∙ sym (length_up_to (entry r) n))
    (λ i g. let k : i < n = omega (arith, length-take-le n r h) in get_or-take n r i 0 k ∙ sym (get_d_up_to (entry r) n i 0 k))

pub copies_more : (alts : List (List ℕ)) (u : ℕ) (out e y : List ℕ) → e ≡ flat (entries_of alts (length alts)) u ++ drop (u * length alts) out
    → ((i : ℕ) → i < length alts → length (get_or alts i []) ≡ 32) → u < length alts → length alts ≤ 32 → y ≡ take (length alts) (get_or alts u [])
    → take (u * length alts) e ++ (y ++ drop (u * length alts + length alts - u * length alts) (drop (u * length alts) e)) ≡ flat (entries_of alts (length alts)) (u + 1) ++ drop ((u + 1) * length alts) out
unfolding entries_of
copies_more alts u out e y q rows h few ey =
    let n = length alts in
    start_more (entries_of alts n) n u out e y (λ i. length_up_to (entry (get_or alts i [])) n) q (ey ∙ front_is (get_or alts u []) n (omega (arith, rows u h)))

pub copies_done : (alts : List (List ℕ)) (u : ℕ) (out e : List ℕ) → u ≤ length alts → length alts ≤ u → length out ≡ length alts * length alts → e ≡ flat (entries_of alts (length alts)) u ++ drop (u * length alts) out
    → e ≡ flat (entries_of alts (length alts)) (length alts)
copies_done alts u out e h g l p = let n = length alts in rows_done (entries_of alts n) n n u (u * n) out e h g refl l p
