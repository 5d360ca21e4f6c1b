-- Demand 2, files: bytes are accepted exactly when they are the encoding of a set that meets the rules, and of one only.
use mathlib.Core.Path.{◌≡◌, refl, sym, ap, ap₂, subst, ◌∙◌}
use mathlib.Core.Bool.{true}
use mathlib.Core.List.{List}
use Prim.Native.Nat.{ℕ, zero, suc, ◌+◌, ◌*◌, ◌≤◌, ◌<◌}
use native.Mathlib.Nat.{mul-le-mul}
use native.Mathlib.Omega.{arith}
use lib.Dec.{eqb}
use lib.ListN.{length, get_or}
use Rattle.rules.specs.declared.Network.{Network}
use Rattle.rules.specs.Verdict.{Accepted}
use Rattle.rules.specs.Limits.{row_weights, row_length, home_records, link_place, home_place, row_place, file_length}
use Rattle.rules.specs.File.{Set, encode, header_of, end_a, end_b, home_topology, set_of}
use Rattle.rules.specs.Isolation.{home, isolated, Class, class_by, class, weight_fits, row_in_force}
use Rattle.rules.specs.Judgement.{rises, row_weight_fits, judge}
use Rattle.rules.specs.Sets.{Bytes, WithinLimits, MeetsRules}
use Rattle.rules.specs.Demands.Two.{AcceptedExactly, OneSet, LongestFile}
use Rattle.rules.proofs.File.Encoded.{encode_long, header_back, header_marked, link_marked, end_a_back, end_b_back, link_weight_back, home_marked, home_node_back, home_topology_back, row_marked, row_topology_back, row_weight_back}
use Rattle.rules.proofs.File.SetOfBytes.{a_held, b_held, weight_held, home_held, row_held, class_held, a_long, b_long, weights_long, homes_long, rows_long}
use Rattle.rules.proofs.File.Records.{After, after_is, after_of, LinkMeets, HomeMeets, RowMeets, fits_normal, fits_other, fits_of, FileMeets, file_meets, file_accepted}
use Rattle.rules.proofs.File.WithinCounts.{set_of_encode, within_all}
use Rattle.rules.proofs.File.EncodesItsSet.{encode_again}
use Rattle.rules.proofs.Isolation.HomesAndRows.{homes_all, homes_most, isolated_by_home, row_entry}

-- ---- from an accepted file to the rules

-- what an accepted file is: the set that it holds meets the rules, it has the length that its counts give, and, where its entries are bytes, it is
-- the encoding of that set
pub record Judged (s : List ℕ) : Type 0 where
  pub rules : MeetsRules (set_of s)
  pub long : length s ≡ file_length (header_of s)
  pub bytes : Bytes s → encode (set_of s) ≡ s

module _ (s : List ℕ) (ok : FileMeets s) where
  abbrev h : Network
  h = header_of s

  -- with a topology, both ends of a link have home records
  ends_homed : (l j : ℕ) → l < h.m → j < h.k → (end_a s l < home_records h) × (end_b s l < home_records h)
  ends_homed l j p q = let e = (ok.links l p).ends in let all = homes_all h (omega arith) in omega arith

  order_held : (l : ℕ) → suc l < h.m → After (get_or (set_of s).a l 0) (get_or (set_of s).b l 0) (get_or (set_of s).a (suc l) 0) (get_or (set_of s).b (suc l) 0)
  unfolding rises
  order_held l p =
      let q : l < h.m = omega arith in
      after_is _ _ _ _ ((cc (a_held s l q, b_held s l q, a_held s (suc l) p, b_held s (suc l) p)) ∙ (ok.links (suc l) p).rise)

  fits_held : (i l : ℕ) → 1 ≤ i → i ≤ h.k → l < h.m → weight_fits (class (set_of s) i l) h.wmax (get_or (row_in_force (set_of s) i) l 0) ≡ true
  unfolding row_weight_fits row_weights set_of
  fits_held zero l p r q = absurd (omega arith)
  fits_held (suc j) l p r q =
      let b : j < h.k = omega arith in
      let e = ends_homed l j q b in
      ap₂ (λ (c : Class) (w : ℕ). weight_fits c h.wmax w) (class_held s j l q e.0 e.1) (row_entry (set_of s) j l q ∙ row_held s j l b q)
      ∙ (ok.rows j b).weights l q

  pub set_meets : MeetsRules (set_of s)
  unfolding set_of
  set_meets = record {
    limits = ok.header.limits;
    links_long = (a_long s, b_long s, weights_long s);
    homes_long = homes_long s;
    rows_long = rows_long s;
    ends = λ l p. let e = (ok.links l p).ends in omega (arith, a_held s l p, b_held s l p);
    order = order_held;
    weights = λ l p. let e = (ok.links l p).weight in omega (arith, weight_held s l p);
    homes = λ v p. let e = (ok.homes v p).topology in omega (arith, home_held s v p);
    normal = λ i l p q r. fits_normal _ h.wmax _ (fits_held i l p q r);
    other = λ i l p q r. fits_other _ h.wmax _ (fits_held i l p q r);
  }

pub judged : (s : List ℕ) → judge s ≡ Accepted → Judged s
judged s e =
    let ok = file_meets s e in
    record { rules = set_meets s ok; long = ok.header.long; bytes = λ small. encode_again s small ok }

-- ---- from a set that meets the rules to its file

module _ (S : Set) where
  rise_back : (l : ℕ) → l < S.net.m → ((x : ℕ) → suc x < S.net.m → After (get_or S.a x 0) (get_or S.b x 0) (get_or S.a (suc x) 0) (get_or S.b (suc x) 0)) → rises (encode S) l ≡ true
  unfolding rises
  rise_back zero p order = refl
  rise_back (suc l) p order =
      let q : l < S.net.m = omega arith in
      (cc (end_a_back S l q, end_b_back S l q, end_a_back S (suc l) p, end_b_back S (suc l) p)) ∙ after_of _ _ _ _ (order l p)

  -- a row's weight is judged by its class, where both ends of its link have home records
  pub fits_back : (j l : ℕ) → j < S.net.k → l < S.net.m → get_or S.a l 0 < home_records S.net → get_or S.b l 0 < home_records S.net
      → row_weight_fits (encode S) S.net j l ≡ weight_fits (class S (suc j) l) S.net.wmax (get_or (row_in_force S (suc j)) l 0)
  unfolding row_weight_fits row_weights class home
  fits_back j l p q a b =
      let s : List ℕ = encode S in
      let isolated_back : (x v : ℕ) → x ≡ v → v < home_records S.net → eqb (home_topology s S.net x) (suc j) ≡ isolated S (suc j) v =
      λ x v e r. ap (λ (t : ℕ). eqb (home_topology s S.net t) (suc j)) e ∙ ap (λ (t : ℕ). eqb t (suc j)) (home_topology_back S v r) ∙ sym (isolated_by_home S j v)
      in
      ap₂ (λ (c : Class) (w : ℕ). weight_fits c S.net.wmax w)
      (ap₂ class_by (isolated_back (end_a s l) (get_or S.a l 0) (end_a_back S l q) a) (isolated_back (end_b s l) (get_or S.b l 0) (end_b_back S l q) b))
      (row_weight_back S j p l q ∙ sym (row_entry S j l q))

module _ (S : Set) (ok : MeetsRules S) where
  ends_inside : (j l : ℕ) → j < S.net.k → l < S.net.m → (get_or S.a l 0 < home_records S.net) × (get_or S.b l 0 < home_records S.net)
  ends_inside j l p q = let e = ok.ends l q in let all = homes_all S.net (omega arith) in omega arith

  homes_inside : (v : ℕ) → v < home_records S.net → (1 ≤ home_topology (encode S) S.net v) × (home_topology (encode S) S.net v ≤ S.net.k)
  unfolding home
  homes_inside v p = let e = ok.homes v p in omega (arith, home_topology_back S v p)

  encode_meets : FileMeets (encode S)
  encode_meets =
      let s : List ℕ = encode S in
      let back : S.net ≡ header_of s = sym (header_back S) in
      record {
        header = record { marked = header_marked S; limits = subst WithinLimits back ok.limits; long = encode_long S ∙ ap file_length back };
        links = subst (λ (g : Network). (l : ℕ) → l < g.m → LinkMeets s g l) back (λ l p.
            let e = ok.ends l p in
            let w = ok.weights l p in
            record {
              marked = link_marked S l p;
              ends = omega (arith, end_a_back S l p, end_b_back S l p);
              rise = rise_back S l p ok.order;
              weight = omega (arith, link_weight_back S l p);
            });
        homes = subst (λ (g : Network). (v : ℕ) → v < home_records g → HomeMeets s g v) back (λ v p.
            record { marked = home_marked S v p; node = home_node_back S v p; topology = homes_inside v p });
        rows = subst (λ (g : Network). (j : ℕ) → j < g.k → RowMeets s g j) back (λ j p.
            record {
              marked = row_marked S j p;
              topology = row_topology_back S j p;
              weights = λ l q.
                  let e = ends_inside j l p q in
                  fits_back S j l p q e.0 e.1
                  ∙ fits_of _ S.net.wmax _ (ok.normal (suc j) l (omega arith) (omega arith) q) (ok.other (suc j) l (omega arith) (omega arith) q);
            });
      }

  pub encode_accepted : judge (encode S) ≡ Accepted
  encode_accepted = file_accepted (encode S) encode_meets

  pub set_back : set_of (encode S) ≡ S
  set_back = set_of_encode S ∙ within_all S ok

-- ---- the theorems

pub accepted_exactly : AcceptedExactly
accepted_exactly s small = (
  (λ e. let j = judged s e in (set_of s, j.rules, j.bytes small)),
  (λ v. ap judge (sym v.2) ∙ encode_accepted v.0 v.1),
)

pub one_set : OneSet
one_set S S' ok ok' e = sym (set_back S ok) ∙ ap set_of e ∙ set_back S' ok'

pub length_bound : (h : Network) → WithinLimits h → file_length h ≤ 9192
unfolding file_length row_place home_place link_place row_length row_weights
length_bound h w =
    let n = w.nodes in
    let m = w.links in
    let k = w.topologies in
    let row : 3 + 2 * h.m ≤ 259 = omega arith in
    let rows : h.k * (3 + 2 * h.m) ≤ 32 * 259 = mul-le-mul {n₂ = 32} {m₂ = 259} k.0 row in
    omega (arith, homes_most h)

pub longest_file : LongestFile
longest_file s e = let j = judged s e in let b = length_bound (header_of s) (file_meets s e).header.limits in omega (arith, j.long)
