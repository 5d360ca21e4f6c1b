-- The rules of a file's records, number by number: a record's number is 0 exactly where its rules hold.
use mathlib.Core.Path.{◌≡◌, refl, sym, ◌∙◌}
use mathlib.Core.Logic.{◌⊎◌, inl, inr}
use mathlib.Core.Bool.{true, ◌&&◌}
use mathlib.Core.List.{List}
use Prim.Native.Nat.{ℕ, suc, ◌≤◌, ◌<◌}
use native.Mathlib.Omega.{arith}
use lib.Dec.{eqb, ltb, leb}
use lib.ListN.{length}
use borrow.Author.Tests.{ltb-true, leb-true, eqb-true, lt-ltb, le-leb, eq-eqb}
use Rattle.rules.specs.declared.Network.{Network}
use Rattle.rules.specs.Verdict.{Accepted}
use Rattle.rules.specs.Limits.{need_counts, home_records, link_place, home_place, row_place, file_length}
use Rattle.rules.specs.File.{header_of, end_a, end_b, link_weight, home_node, home_topology, row_topology}
use Rattle.rules.specs.Isolation.{Class, Isolated, Restricted, Normal, weight_fits}
use Rattle.rules.specs.Judgement.{refuse, in_turn, need_mark, header_number, after, rises, link_number, home_number, row_weight_fits, row_number, records, judge}
use Rattle.rules.specs.Sets.{WithinLimits}
use Rattle.rules.proofs.Ground.Choices.{and_of, and_left, and_right, or_left, or_right, or_cases, need_yes, need_ok, refuse_ok, refuse_zero, numbers, then_ok, then_first, then_second, turn_all, turn_each}
use Rattle.rules.proofs.Ground.Numbers.{all_at, all_of}
use Rattle.rules.proofs.File.Encoded.{Marked}

-- ---- marks, counts and the header

pub mark_ok : (s : List ℕ) (at x y rest : ℕ) → need_mark s at x y rest ≡ 0 → Marked s at x y × (rest ≡ 0)
unfolding need_mark
mark_ok s at x y rest e =
    let p = need_ok _ _ _ e in
    let q = need_ok _ _ _ p.1 in
    (record { first = eqb-true _ _ p.0; second = eqb-true _ _ q.0 }, q.1)

pub mark_on : (s : List ℕ) (at x y rest : ℕ) → Marked s at x y → need_mark s at x y rest ≡ rest
unfolding need_mark
mark_on s at x y rest m = let p = m.first in let q = m.second in sym (search numbers)

pub counts_ok : (h : Network) (rest : ℕ) → need_counts h rest ≡ 0 → WithinLimits h × (rest ≡ 0)
unfolding need_counts
counts_ok h rest e =
    let p1 = need_ok _ _ _ e in
    let p2 = need_ok _ _ _ p1.1 in
    let p3 = need_ok _ _ _ p2.1 in
    let p4 = need_ok _ _ _ p3.1 in
    let p5 = need_ok _ _ _ p4.1 in
    let p6 = need_ok _ _ _ p5.1 in
    let p7 = need_ok _ _ _ p6.1 in
    let p8 = need_ok _ _ _ p7.1 in (
      record {
        nodes = (leb-true _ _ p1.0, leb-true _ _ p2.0);
        links = (leb-true _ _ p3.0, leb-true _ _ p4.0);
        topologies = (leb-true _ _ p5.0, leb-true _ _ p6.0);
        weights = (leb-true _ _ p7.0, leb-true _ _ p8.0);
      },
      p8.1,
    )

pub counts_on : (h : Network) (rest : ℕ) → WithinLimits h → need_counts h rest ≡ rest
unfolding need_counts
counts_on h rest w =
    let p = w.nodes in
    let q = w.links in
    let t = w.topologies in
    let x = w.weights in
    sym (search numbers depth 14)

pub record HeaderMeets (s : List ℕ) : Type 0 where
  pub marked : Marked s 0 0x4E 0x57
  pub limits : WithinLimits (header_of s)
  pub long : length s ≡ file_length (header_of s)

pub header_meets : (s : List ℕ) → header_number s ≡ 0 → HeaderMeets s
unfolding header_number
header_meets s e =
    let p1 = need_ok _ _ _ e in
    let p2 = mark_ok s 0 _ _ _ p1.1 in
    let p3 = counts_ok (header_of s) _ p2.1 in
    let p4 = need_ok _ _ _ p3.1 in
    record { marked = p2.0; limits = p3.0; long = eqb-true _ _ p4.0 }

long_enough : (h : Network) → 8 ≤ file_length h
unfolding file_length row_place home_place link_place
long_enough h = omega arith

pub header_zero : (s : List ℕ) → HeaderMeets s → header_number s ≡ 0
unfolding header_number
header_zero s m =
    let long = m.long in
    let enough = long_enough (header_of s) in
    let room : 8 ≤ length s = omega arith in
    sym (need_yes (leb 8 (length s)) 1 _ 0 (le-leb _ _ room)
    (sym (mark_on s 0 _ _ _ m.marked ∙ counts_on (header_of s) _ m.limits ∙ sym (need_yes (eqb (length s) (file_length (header_of s))) 1 0 0 (eq-eqb _ _ long) refl))))

-- ---- a link

abbrev pub After : ℕ → ℕ → ℕ → ℕ → Type 0
After a b c d = (a < c) ⊎ ((a ≡ c) × (b < d))

pub after_is : (a b c d : ℕ) → after a b c d ≡ true → After a b c d
unfolding after
after_is a b c d e = go (or_cases (ltb a c) (eqb a c && ltb b d) e)
  where
    go : (ltb a c ≡ true) ⊎ ((eqb a c && ltb b d) ≡ true) → After a b c d
    go (inl p) = inl (ltb-true a c p)
    go (inr p) = inr (eqb-true a c (and_left (eqb a c) (ltb b d) p), ltb-true b d (and_right (eqb a c) (ltb b d) p))

pub after_of : (a b c d : ℕ) → After a b c d → after a b c d ≡ true
unfolding after
after_of a b c d (inl p) = or_left (ltb a c) (eqb a c && ltb b d) (lt-ltb a c p)
after_of a b c d (inr p) = or_right (ltb a c) (eqb a c && ltb b d) (and_of (eqb a c) (ltb b d) (eq-eqb a c p.0) (lt-ltb b d p.1))

pub record LinkMeets (s : List ℕ) (h : Network) (l : ℕ) : Type 0 where
  pub marked : Marked s (link_place l) 0x4C 0x4B
  pub ends : (end_a s l < end_b s l) × (end_b s l < h.n)
  pub rise : rises s l ≡ true
  pub weight : (1 ≤ link_weight s l) × (link_weight s l ≤ h.wmax)

pub link_meets : (s : List ℕ) (h : Network) (l : ℕ) → link_number s h l ≡ 0 → LinkMeets s h l
unfolding link_number
link_meets s h l e =
    let p1 = mark_ok s _ _ _ _ e in
    let p2 = need_ok _ _ _ p1.1 in
    let p3 = need_ok _ _ _ p2.1 in
    let p4 = need_ok _ _ _ p3.1 in
    let p5 = need_ok _ _ _ p4.1 in
    let p6 = need_ok _ _ _ p5.1 in
    record {
      marked = p1.0;
      ends = (ltb-true _ _ p3.0, ltb-true _ _ p2.0);
      rise = p4.0;
      weight = (leb-true _ _ p5.0, leb-true _ _ p6.0);
    }

pub link_zero : (s : List ℕ) (h : Network) (l : ℕ) → LinkMeets s h l → link_number s h l ≡ 0
unfolding link_number
link_zero s h l m =
    let p = m.ends in
    let q = m.rise in
    let w = m.weight in
    mark_on s _ _ _ _ m.marked ∙ sym (search numbers depth 14)

-- ---- a home

pub record HomeMeets (s : List ℕ) (h : Network) (v : ℕ) : Type 0 where
  pub marked : Marked s (home_place h v) 0x48 0x4D
  pub node : home_node s h v ≡ v
  pub topology : (1 ≤ home_topology s h v) × (home_topology s h v ≤ h.k)

pub home_meets : (s : List ℕ) (h : Network) (v : ℕ) → home_number s h v ≡ 0 → HomeMeets s h v
unfolding home_number
home_meets s h v e =
    let p1 = mark_ok s _ _ _ _ e in
    let p2 = need_ok _ _ _ p1.1 in
    let p3 = need_ok _ _ _ p2.1 in
    let p4 = need_ok _ _ _ p3.1 in
    record { marked = p1.0; node = eqb-true _ _ p2.0; topology = (leb-true _ _ p3.0, leb-true _ _ p4.0) }

pub home_zero : (s : List ℕ) (h : Network) (v : ℕ) → HomeMeets s h v → home_number s h v ≡ 0
unfolding home_number
home_zero s h v m =
    let p = m.node in
    let q = m.topology in
    mark_on s _ _ _ _ m.marked ∙ sym (search numbers depth 14)

-- ---- a row

pub record RowMeets (s : List ℕ) (h : Network) (j : ℕ) : Type 0 where
  pub marked : Marked s (row_place h j) 0x42 0x57
  pub topology : row_topology s h j ≡ suc j
  pub weights : (l : ℕ) → l < h.m → row_weight_fits s h j l ≡ true

pub row_meets : (s : List ℕ) (h : Network) (j : ℕ) → row_number s h j ≡ 0 → RowMeets s h j
unfolding row_number
row_meets s h j e =
    let p1 = mark_ok s _ _ _ _ e in
    let p2 = need_ok _ _ _ p1.1 in
    let p3 = need_ok _ _ _ p2.1 in
    record { marked = p1.0; topology = eqb-true _ _ p2.0; weights = all_at (row_weight_fits s h j) h.m p3.0 }

pub row_zero : (s : List ℕ) (h : Network) (j : ℕ) → RowMeets s h j → row_number s h j ≡ 0
unfolding row_number
row_zero s h j m =
    let p = m.topology in
    let q = all_of (row_weight_fits s h j) h.m m.weights in
    mark_on s _ _ _ _ m.marked ∙ sym (search numbers depth 14)

-- a weight fits its class exactly by the two sentences of the rule
pub fits_normal : (c : Class) (wmax w : ℕ) → weight_fits c wmax w ≡ true → c ≡ Normal → (1 ≤ w) × (w ≤ wmax)
unfolding weight_fits
fits_normal Normal wmax w e q = (leb-true 1 w (and_left (leb 1 w) (leb w wmax) e), leb-true w wmax (and_right (leb 1 w) (leb w wmax) e))
fits_normal Restricted wmax w e q = let z : ◌≡◌ {A = ℕ} 0 1 = cc in absurd (omega arith)
fits_normal Isolated wmax w e q = let z : ◌≡◌ {A = ℕ} 0 1 = cc in absurd (omega arith)

pub fits_other : (c : Class) (wmax w : ℕ) → weight_fits c wmax w ≡ true → (c ≡ Normal → ⊥) → w ≡ 0
unfolding weight_fits
fits_other Normal wmax w e q = absurd (q refl)
fits_other Restricted wmax w e q = eqb-true w 0 e
fits_other Isolated wmax w e q = eqb-true w 0 e

pub fits_of : (c : Class) (wmax w : ℕ) → (c ≡ Normal → (1 ≤ w) × (w ≤ wmax)) → ((c ≡ Normal → ⊥) → w ≡ 0) → weight_fits c wmax w ≡ true
unfolding weight_fits
fits_of Normal wmax w f g = and_of (leb 1 w) (leb w wmax) (le-leb 1 w (f refl).0) (le-leb w wmax (f refl).1)
fits_of Restricted wmax w f g = eq-eqb w 0 (g (λ q. let z : ◌≡◌ {A = ℕ} 0 1 = cc in omega arith))
fits_of Isolated wmax w f g = eq-eqb w 0 (g (λ q. let z : ◌≡◌ {A = ℕ} 0 1 = cc in omega arith))

-- ---- a file

pub record FileMeets (s : List ℕ) : Type 0 where
  pub header : HeaderMeets s
  pub links : (l : ℕ) → l < (header_of s).m → LinkMeets s (header_of s) l
  pub homes : (v : ℕ) → v < home_records (header_of s) → HomeMeets s (header_of s) v
  pub rows : (j : ℕ) → j < (header_of s).k → RowMeets s (header_of s) j

-- a turn of refusals is accepted exactly where every number is 0
turn_zero : (f place : ℕ → ℕ) (n : ℕ) → in_turn (λ i. refuse (f i) (place i)) n ≡ Accepted → (i : ℕ) → i < n → f i ≡ 0
turn_zero f place n e i l = refuse_zero (f i) (place i) (turn_each (λ j. refuse (f j) (place j)) n e i l)

zero_turn : (f place : ℕ → ℕ) (n : ℕ) → ((i : ℕ) → i < n → f i ≡ 0) → in_turn (λ i. refuse (f i) (place i)) n ≡ Accepted
zero_turn f place n h = turn_all (λ i. refuse (f i) (place i)) n (λ i l. sym (refuse_ok (f i) (place i) (h i l)))

pub file_meets : (s : List ℕ) → judge s ≡ Accepted → FileMeets s
unfolding judge records
file_meets s e =
    let h : Network = header_of s in
    let r = then_second _ _ e in
    let t = then_second _ _ r in
    record {
      header = header_meets s (refuse_zero _ 0 (then_first _ _ e));
      links = λ l p. link_meets s h l (turn_zero (link_number s h) link_place h.m (then_first _ _ r) l p);
      homes = λ v p. home_meets s h v (turn_zero (home_number s h) (home_place h) (home_records h) (then_first _ _ t) v p);
      rows = λ j p. row_meets s h j (turn_zero (row_number s h) (row_place h) h.k (then_second _ _ t) j p);
    }

pub file_accepted : (s : List ℕ) → FileMeets s → judge s ≡ Accepted
unfolding judge records
file_accepted s m =
    let h : Network = header_of s in
    then_ok _ _ (sym (refuse_ok _ 0 (header_zero s m.header)))
    ∙ then_ok _ _ (zero_turn (link_number s h) link_place h.m (λ l p. link_zero s h l (m.links l p)))
    ∙ then_ok _ _ (zero_turn (home_number s h) (home_place h) (home_records h) (λ v p. home_zero s h v (m.homes v p)))
    ∙ zero_turn (row_number s h) (row_place h) h.k (λ j p. row_zero s h j (m.rows j p))
