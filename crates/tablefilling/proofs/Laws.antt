-- From a file's lists to its tables.
use mathlib.Core.Path.{◌≡◌, sym, ap, subst, ◌∙◌}
use mathlib.Core.List.{List, ◌++◌, append-nil}
use Prim.Native.Nat.{ℕ, ◌*◌, ◌≤◌}
use native.Mathlib.Nat.{mul-le-mul}
use native.Mathlib.Omega.{arith}
use lib.ListN.{length, take, drop_of_length-le}
use lib.Seq.{length-take-le}
use Rattle.rules.specs.declared.Network.{Network}
use Rattle.rules.specs.Verdict.{Accepted}
use Rattle.rules.specs.Basics.{up_to, flat, laid}
use Rattle.rules.specs.Limits.{row_weights, home_records}
use Rattle.rules.specs.File.{Set, header_of, end_a, end_b, link_weight, home_topology, row_weight, set_of}
use Rattle.rules.specs.Distance.{table_bytes}
use Rattle.rules.specs.Judgement.{take_set}
use Rattle.rules.specs.Entries.Lists.{Lists, lists, LongLists}
use Rattle.rules.specs.Entries.Write.{set_with}
use Rattle.rules.specs.Sets.{WithinLimits, AcceptedSet}
use Rattle.rules.proofs.Ground.Rows.{length_up_to, length_flat}
use Rattle.rules.proofs.File.SetOfBytes.{net_held}
use Rattle.rules.proofs.File.TakenIn.{set_accepted}
use Rattle.rules.proofs.Isolation.HomesAndRows.{homes_all}
use Rattle.listing.specs.Fields.{row_of, lists_of}
use Rattle.tablefilling.specs.Parts.{Exact}

-- ---- lists of exactly the right lengths hold just the set's

laid_whole : (new old : List ℕ) → length old ≤ length new → laid new old ≡ new
unfolding laid
laid_whole new old h = ap (λ (l : List ℕ). new ++ l) (drop_of_length-le old h) ∙ append-nil new

module _ (s : List ℕ) (h : Network) (n : h ≡ header_of s) (c : take_set s ≡ Accepted) where
  some : 1 ≤ h.k
  some = rw (n, ← net_held s) (set_accepted s c).topologies

  nodes : home_records h ≡ h.n
  nodes = homes_all h some

  -- the lists that reading leaves, where they were of exactly the right lengths
  held : (d e : Lists) → Exact h d → e ≡ lists_of s h d → set_with h e ≡ set_of s
  unfolding set_with lists_of set_of row_of
  held d e x q =
      let S : Set = set_of s in
      let a : laid (up_to (end_a s) h.m) d.a ≡ up_to (end_a s) h.m = laid_whole _ _ (omega (arith, x.a, length_up_to (end_a s) h.m)) in
      let b : laid (up_to (end_b s) h.m) d.b ≡ up_to (end_b s) h.m = laid_whole _ _ (omega (arith, x.b, length_up_to (end_b s) h.m)) in
      let w : laid (up_to (link_weight s) h.m) d.weights ≡ up_to (link_weight s) h.m = laid_whole _ _ (omega (arith, x.weights, length_up_to (link_weight s) h.m)) in
      let v : laid (up_to (home_topology s h) (home_records h)) d.homes ≡ up_to (home_topology s h) (home_records h) = laid_whole _ _ (omega (arith, nodes, x.homes, length_up_to (home_topology s h) (home_records h))) in
      let r : laid (flat (λ j. up_to (row_weight s h j) (row_weights h)) h.k) d.rows ≡ flat (λ j. up_to (row_weight s h j) (row_weights h)) h.k =
      laid_whole _ _ (omega (arith, x.rows, length_flat (λ j. up_to (row_weight s h j) (row_weights h)) (row_weights h) h.k (λ j l. length_up_to (row_weight s h j) (row_weights h))))
      in
      ap (set_with h) (q ∙ (λ i. record { a = a i; b = b i; weights = w i; homes = v i; rows = r i }))
      ∙ ap (λ (k : Network). record { net = k; a = up_to (end_a s) k.m; b = up_to (end_b s) k.m; weights = up_to (link_weight s) k.m; homes = up_to (home_topology s k) (home_records k); rows = flat (λ j. up_to (row_weight s k j) (row_weights k)) k.k }) n

pub room_of : (h : Network) (d : Lists) (s : List ℕ) → h ≡ header_of s → take_set s ≡ Accepted → Exact h d → LongLists h d
room_of h d s n c x =
    record {
      a = omega (arith, x.a);
      b = omega (arith, x.b);
      weights = omega (arith, x.weights);
      homes = omega (arith, x.homes, nodes s h n c);
      rows = omega (arith, x.rows);
    }

module _ (s : List ℕ) (h : Network) (d e : Lists) (n : h ≡ header_of s) (c : take_set s ≡ Accepted) (x : Exact h d) (q : e ≡ lists_of s h d) where
  pub lists_accepted : AcceptedSet (set_with h e)
  lists_accepted = subst (λ (S : Set). AcceptedSet S) (sym (held s h n c d e x q)) (set_accepted s c)

  pub tables_held : (t : List ℕ) → t ≡ table_bytes (set_with h e) → t ≡ table_bytes (set_of s)
  tables_held t g = g ∙ ap table_bytes (held s h n c d e x q)

-- ---- parts of longer lists

module _ (s : List ℕ) (h : Network) (n : h ≡ header_of s) (c : take_set s ≡ Accepted) where
  limits : WithinLimits h
  limits = rw (n, ← net_held s) (set_accepted s c).rules.limits

  pub links_fit : h.m ≤ 128
  links_fit = limits.links.1

  pub nodes_fit : h.n ≤ 32
  nodes_fit = limits.nodes.1

  pub rows_fit : h.k * row_weights h ≤ 4096
  unfolding row_weights
  rows_fit = mul-le-mul {n₂ = 32} {m₂ = 128} limits.topologies.0 limits.links.1

  pub links_in : (l : List ℕ) → length l ≡ 128 → h.m ≤ length l
  links_in l e = omega (arith, links_fit)

  pub nodes_in : (l : List ℕ) → length l ≡ 32 → h.n ≤ length l
  nodes_in l e = omega (arith, nodes_fit)

  pub rows_in : (entries : ℕ) (l : List ℕ) → entries ≡ h.k * row_weights h → length l ≡ 4096 → entries ≤ length l
  rows_in entries l e f = omega (arith, rows_fit)

  pub links_count : (l : List ℕ) → length l ≡ 128 → h.m ≡ length (take h.m l)
  links_count l e = sym (length-take-le h.m l (links_in l e))

  pub nodes_count : (l : List ℕ) → length l ≡ 32 → h.n ≡ length (take h.n l)
  nodes_count l e = sym (length-take-le h.n l (nodes_in l e))

  pub rows_count : (entries : ℕ) (l : List ℕ) → entries ≡ h.k * row_weights h → length l ≡ 4096 → entries ≡ length (take entries l)
  rows_count entries l e f = sym (length-take-le entries l (rows_in entries l e f))

  pub parts_exact : (a b w v r : List ℕ) (entries : ℕ) → length a ≡ 128 → length b ≡ 128 → length w ≡ 128 → length v ≡ 32 → length r ≡ 4096 → entries ≡ h.k * row_weights h
      → Exact h (lists (take h.m a) (take h.m b) (take h.m w) (take h.n v) (take entries r))
  parts_exact a b w v r entries p q x y z e =
      record {
        a = sym (links_count a p);
        b = sym (links_count b q);
        weights = sym (links_count w x);
        homes = sym (nodes_count v y);
        rows = sym (rows_count entries r e z) ∙ e;
      }

pub ruleset tabling = (room_of, lists_accepted, tables_held)

pub ruleset parts = (links_in, nodes_in, rows_in, links_count, nodes_count, rows_count, parts_exact)
