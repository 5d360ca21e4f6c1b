-- Each record's rule over its fields is the published one over the file's bytes; and the laws of the records in turn.
use mathlib.Core.Path.{◌≡◌, refl, sym, ap, ◌∙◌}
use mathlib.Core.Bool.{Bool, true, false, ◌&&◌, ◌||◌}
use mathlib.Core.List.{List}
use mathlib.Core.Logic.{◌⊎◌, inl, inr}
use Prim.Native.Nat.{ℕ, zero, suc, ◌+◌, ◌*◌, ◌≤◌, ◌<◌}
use native.Mathlib.Numerals.{add-one}
use native.Mathlib.Omega.{arith}
use lib.Dec.{eqb, ltb, leb}
use lib.ListN.{length, get_or}
use borrow.Author.Tests.{lt-ltb, ltb-true, eqb-true, eqb-false}
use Rattle.rules.specs.declared.Network.{Network}
use Rattle.rules.specs.declared.Rule.{Rule}
use Rattle.rules.specs.declared.Refusal.{Refusal}
use Rattle.rules.specs.Verdict.{Verdict, Accepted, Refused, number_of}
use Rattle.rules.specs.Basics.{need, all}
use Rattle.rules.specs.Limits.{need_counts, home_records, link_place, home_place, row_place, file_length}
use Rattle.rules.specs.File.{header_of, end_a, end_b, link_weight, home_node, home_topology, row_topology, row_weight}
use Rattle.rules.specs.Judgement.{refuse, in_turn, need_mark, header_number, after, rises, link_number, home_number, row_weight_fits, row_number, records, judge}
use Rattle.rules.proofs.Ground.Choices.{and_of, and_left, and_right, or_left, or_right, or_cases, clash, false_of, same_test, need_yes, need_no, need_ok, refuse_ok, refuse_zero, then_ok, then_no, turn_none, turn_more, turn_stop}
use Rattle.rules.proofs.Ground.Numbers.{all_at}
use Rattle.rules.proofs.File.Records.{header_meets}
use Rattle.layout.specs.declared.LinkFields.{LinkFields}
use Rattle.layout.specs.Fields.{LinkAt}
use Rattle.layout.proofs.Places.{link_inside, links_end}
use Rattle.rules.proofs.Ground.Ruling.{number_some, says_number}
use Rattle.recordrules.proofs.Orders.{counts_in_order, header_in_order, row_in_order}
use Rattle.recordrules.specs.Rules.{header_rule, link_rule, home_rule, row_rule, weight_rule}
use Rattle.judgement.specs.Turns.{judged, rank_before, low_before}

-- what follows a needed test matters only where it holds
need_under : (t : Bool) (number rest rest' : ℕ) → (t ≡ true → rest ≡ rest') → need t number rest ≡ need t number rest'
unfolding need
need_under true number rest rest' h = h refl
need_under false number rest rest' h = refl

-- ---- records in turn, by number and place

module _ (number_at place_of : ℕ → ℕ) (i number place : ℕ) (h : in_turn (judged number_at place_of) i ≡ Accepted) (e : number ≡ number_at i) where
  pub turn_taken : Accepted ≡ refuse number place → in_turn (judged number_at place_of) (i + 1) ≡ Accepted
  unfolding judged
  turn_taken t = turn_more (judged number_at place_of) i h (sym (refuse_ok (number_at i) (place_of i) (sym e ∙ refuse_zero number place (sym t))))

  pub turn_refused : (m c q : ℕ) → place ≡ place_of i → i < m → Refused c q ≡ refuse number place → Refused c q ≡ in_turn (judged number_at place_of) m
  unfolding judged
  turn_refused m c q p l t = sym (turn_stop (judged number_at place_of) i m c q l h (rw (← e, ← p) (sym t)))

-- ---- the header

-- the header's rules in their order, each told as the code tells it
module _ (s : List ℕ) (h : Network) (x y : ℕ) (p : x ≡ get_or s 0 0) (q : y ≡ get_or s 1 0) (d : h ≡ header_of s) where
  whole : header_rule (length s) x y (need_counts h (need (eqb (length s) (file_length h)) 1 0)) ≡ header_number s
  unfolding header_rule header_number need_mark
  whole = rw (p, q, d)

  pub unmarked : (r : Rule) → number_of r ≡ header_rule (length s) x y 0 → number_of r ≡ header_number s
  unmarked r e = (header_in_order (length s) x y).stop r _ e ∙ whole

  pub miscounted : (r : Rule) → 0 ≡ header_rule (length s) x y 0 → number_of r ≡ need_counts h 0 → number_of r ≡ header_number s
  miscounted r m e = (counts_in_order h).stop r _ e ∙ (header_in_order (length s) x y).on _ m ∙ whole

  pub measured : (number wanted : ℕ) → 0 ≡ header_rule (length s) x y 0 → 0 ≡ need_counts h 0 → wanted ≡ file_length h → number ≡ need (eqb (length s) wanted) 1 0
      → number ≡ header_number s
  measured number wanted m c w e =
      e ∙ ap (λ (k : ℕ). need (eqb (length s) k) 1 0) w ∙ (counts_in_order h).on _ c ∙ (header_in_order (length s) x y).on _ m ∙ whole

pub ruleset heading = (unmarked, miscounted, measured)

-- ---- links

-- a file of the length that its header says has all its links
pub links_there : (s : List ℕ) (h : Network) → length s ≡ file_length h → link_place h.m ≤ length s
links_there s h e = rw e (links_end h)

pub header_long : (s : List ℕ) (h : Network) → h ≡ header_of s → 0 ≡ header_number s → length s ≡ file_length h
header_long s h eh en = (header_meets s (sym en)).long ∙ ap file_length (sym eh)

-- (c, d) comes after (a, b) exactly where 256 × c + d is the greater, both b and d being bytes
after_is : (a b c d : ℕ) → b < 256 → d < 256 → after a b c d ≡ ltb (256 * a + b) (256 * c + d)
unfolding after
after_is a b c d l r =
    same_test (ltb a c || (eqb a c && ltb b d)) (ltb (256 * a + b) (256 * c + d))
    (λ e. go (or_cases (ltb a c) (eqb a c && ltb b d) e))
    (λ e. back (ltb-true (256 * a + b) (256 * c + d) e) (eqb a c) refl)
  where
    go : (ltb a c ≡ true) ⊎ ((eqb a c && ltb b d) ≡ true) → ltb (256 * a + b) (256 * c + d) ≡ true
    go (inl e) = let h = ltb-true a c e in lt-ltb (256 * a + b) (256 * c + d) (omega arith)
    go (inr e) =
        let h = eqb-true a c (and_left (eqb a c) (ltb b d) e) in
        let g = ltb-true b d (and_right (eqb a c) (ltb b d) e) in
        lt-ltb (256 * a + b) (256 * c + d) (omega arith)

    back : 256 * a + b < 256 * c + d → (t : Bool) → eqb a c ≡ t → (ltb a c || (eqb a c && ltb b d)) ≡ true
    back h true q =
        let same = eqb-true a c q in
        or_right (ltb a c) (eqb a c && ltb b d) (and_of (eqb a c) (ltb b d) q (lt-ltb b d (omega arith)))
    back h false q = let ne = eqb-false a c q in or_left (ltb a c) (eqb a c && ltb b d) (lt-ltb a c (omega arith))

-- what the loop over the links keeps of the link before
pub record Ranked (s : List ℕ) (l last : ℕ) : Type 0 where
  pub rank : last ≡ rank_before s l
  pub low : low_before s l < 256

pub ranked_none : (s : List ℕ) → Ranked s 0 0
unfolding rank_before low_before
ranked_none s = record { rank = refl; low = omega arith }

pub ranked_more : (s : List ℕ) (l last : ℕ) (r : LinkFields) → LinkAt s l r → last ≡ 256 * r.a + r.b → r.b < 256 → Ranked s (l + 1) last
unfolding rank_before low_before
ranked_more s l last r f e h = record { rank = rw (add-one) (e ∙ rw (f.a_is, f.b_is)); low = rw (add-one, ← f.b_is) h }

rises_is : (s : List ℕ) (l last : ℕ) → Ranked s l last → end_b s l < 256 → end_a s l < end_b s l → rises s l ≡ ltb last (256 * end_a s l + end_b s l)
unfolding rises rank_before low_before
rises_is s zero last r h g = let z = r.rank in sym (lt-ltb last (256 * end_a s 0 + end_b s 0) (omega arith))
rises_is s (suc l) last r h g =
    after_is (end_a s l) (end_b s l) (end_a s (suc l)) (end_b s (suc l)) r.low h
    ∙ ap (λ (k : ℕ). ltb k (256 * end_a s (suc l) + end_b s (suc l))) (sym r.rank)

pub link_number_is : (s : List ℕ) (h : Network) (l last rank number : ℕ) (r : LinkFields) → LinkAt s l r → number ≡ link_rule h r.x r.y last rank r.a r.b r.weight
    → rank ≡ 256 * r.a + r.b → r.b < 256 → Ranked s l last → number ≡ link_number s h l
unfolding link_rule link_number need_mark
link_number_is s h l last rank number r f e er low k =
    let same = f.b_is in
    let in_order : (ltb (end_a s l) (end_b s l) ≡ true → rises s l ≡ ltb last (256 * end_a s l + end_b s l)) =
    λ t. rises_is s l last k (omega arith) (ltb-true (end_a s l) (end_b s l) t) in
    e ∙ rw (er, f.first, f.second, f.a_is, f.b_is, f.weight) (ap (λ (x : ℕ). need_mark s (link_place l) 0x4C 0x4B (need (ltb (end_b s l) h.n) 4 x))
    (need_under (ltb (end_a s l) (end_b s l)) 4 _ _ (λ t. ap (λ (q : Bool). need q 4 (need (leb 1 (link_weight s l)) 5 (need (leb (link_weight s l) h.wmax) 5 0))) (sym (in_order t)))))

-- what the loop over the links keeps: those before are taken, and the last one's rank
pub record LinksTaken (s : List ℕ) (h : Network) (l last : ℕ) : Type 0 where
  pub taken : in_turn (judged (link_number s h) link_place) l ≡ Accepted
  pub ranked : Ranked s l last

pub links_none : (s : List ℕ) (h : Network) → LinksTaken s h 0 0
links_none s h = record { taken = turn_none _; ranked = ranked_none s }

module _ (s : List ℕ) (h : Network) (l last rank number place : ℕ) (r : LinkFields) (k : LinksTaken s h l last) (f : LinkAt s l r)
    (e : number ≡ link_rule h r.x r.y last rank r.a r.b r.weight) (er : rank ≡ 256 * r.a + r.b) (low : r.b < 256) where
  pub links_more : Accepted ≡ refuse number place → LinksTaken s h (l + 1) rank
  links_more t =
      record {
        taken = turn_taken (link_number s h) link_place l number place k.taken (link_number_is s h l last rank number r f e er low k.ranked) t;
        ranked = ranked_more s l rank r f er low;
      }

  pub links_stop : (m c q : ℕ) → place ≡ link_place l → l < m → Refused c q ≡ refuse number place → Refused c q ≡ in_turn (judged (link_number s h) link_place) m
  links_stop m c q p g t =
      turn_refused (link_number s h) link_place l number place k.taken (link_number_is s h l last rank number r f e er low k.ranked) m c q p g t

pub links_done : (s : List ℕ) (h : Network) (m last : ℕ) → LinksTaken s h m last → Accepted ≡ in_turn (judged (link_number s h) link_place) m
links_done s h m last k = sym k.taken

pub ruleset link_turns = (links_none, links_more, links_stop, links_done, link_inside)

-- ---- homes

pub home_number_is : (s : List ℕ) (h : Network) (v place x y node topology number : ℕ) → number ≡ home_rule h v x y node topology → x ≡ get_or s place 0
    → y ≡ get_or s (place + 1) 0 → node ≡ get_or s (place + 2) 0 → topology ≡ home_topology s h v → place ≡ home_place h v → number ≡ home_number s h v
unfolding home_rule home_number need_mark home_node
home_number_is s h v place x y node topology number e ex ey en et ep = e ∙ rw (ex, ey, en, et, ep)

pub ruleset home_turns = (turn_taken, turn_refused, home_number_is)

-- ---- rows

fits_is : (s : List ℕ) (h : Network) (j l a b p q w number : ℕ) → number ≡ weight_rule h.wmax (j + 1) p q w → p ≡ home_topology s h a
    → q ≡ home_topology s h b → a ≡ end_a s l → b ≡ end_b s l → w ≡ row_weight s h j l → number ≡ need (row_weight_fits s h j l) 5 0
unfolding weight_rule row_weight_fits
fits_is s h j l a b p q w number e ep eq ea eb ew = e ∙ rw (ep, eq, ea, eb, ew, add-one)

module _ (s : List ℕ) (h : Network) (j l : ℕ) where
  fits_pass : all (row_weight_fits s h j) l ≡ true → 0 ≡ need (row_weight_fits s h j l) 5 0 → all (row_weight_fits s h j) (l + 1) ≡ true
  unfolding all
  fits_pass a t = rw add-one (and_of (all (row_weight_fits s h j) l) (row_weight_fits s h j l) a (need_ok (row_weight_fits s h j l) 4 0 (sym t)).0)

  fits_fail : (r : Rule) (m : ℕ) → l < m → number_of r ≡ need (row_weight_fits s h j l) 5 0 → number_of r ≡ need (all (row_weight_fits s h j) m) 5 0
  fits_fail r m g t =
      let misfit : row_weight_fits s h j l ≡ false = false_of (row_weight_fits s h j l) (λ f. number_some r (t ∙ sym (need_yes (row_weight_fits s h j l) 5 0 0 f refl))) in
      let some : all (row_weight_fits s h j) m ≡ false =
      false_of (all (row_weight_fits s h j) m) (λ f. clash (row_weight_fits s h j l) (all_at (row_weight_fits s h j) m f l g) misfit) in
      t ∙ sym (need_no (row_weight_fits s h j l) 5 0 5 misfit refl) ∙ need_no (all (row_weight_fits s h j) m) 5 0 5 some refl

  -- the same over what the code reads
  module _ (a b p q w number : ℕ) (e : number ≡ weight_rule h.wmax (j + 1) p q w) (ea : a ≡ end_a s l) (eb : b ≡ end_b s l) (ep : p ≡ home_topology s h a)
      (eq : q ≡ home_topology s h b) (ew : w ≡ row_weight s h j l) where
    pub weight_passes : all (row_weight_fits s h j) l ≡ true → 0 ≡ number → all (row_weight_fits s h j) (l + 1) ≡ true
    weight_passes g t = fits_pass g (t ∙ fits_is s h j l a b p q w number e ep eq ea eb ew)

    pub weight_fails : (r : Rule) (m : ℕ) → l < m → number_of r ≡ number → number_of r ≡ need (all (row_weight_fits s h j) m) 5 0
    weight_fails r m g t = fits_fail r m g (t ∙ fits_is s h j l a b p q w number e ep eq ea eb ew)

pub fits_none : (s : List ℕ) (h : Network) (j : ℕ) → all (row_weight_fits s h j) 0 ≡ true
unfolding all
fits_none s h j = refl

pub fits_all : (s : List ℕ) (h : Network) (j m : ℕ) → all (row_weight_fits s h j) m ≡ true → 0 ≡ need (all (row_weight_fits s h j) m) 5 0
fits_all s h j m a = need_yes (all (row_weight_fits s h j) m) 5 0 0 a refl

pub ruleset fitting = (weight_passes, weight_fails, fits_none, fits_all)

-- the start of a row, and then its weights
module _ (s : List ℕ) (h : Network) (j place x y topology : ℕ) (ex : x ≡ get_or s place 0) (ey : y ≡ get_or s (place + 1) 0) (et : topology ≡ get_or s (place + 2) 0)
    (ep : place ≡ row_place h j) where
  row_is : row_rule (j + 1) x y topology (need (all (row_weight_fits s h j) h.m) 5 0) ≡ row_number s h j
  unfolding row_rule row_number need_mark row_topology
  row_is = rw (ex, ey, et, ep, add-one j)

  pub row_stop : (r : Rule) → number_of r ≡ row_rule (j + 1) x y topology 0 → number_of r ≡ row_number s h j
  row_stop r e = (row_in_order (j + 1) x y topology).stop r _ e ∙ row_is

  pub row_on : (number : ℕ) → number ≡ need (all (row_weight_fits s h j) h.m) 5 0 → 0 ≡ row_rule (j + 1) x y topology 0 → number ≡ row_number s h j
  row_on number w e = w ∙ (row_in_order (j + 1) x y topology).on _ e ∙ row_is

pub ruleset row_starts = (row_stop, row_on)

pub ruleset row_turns = (turn_taken, turn_refused)

-- ---- the judgement

-- the records in their order, each kind told as the code tells it
module _ (s : List ℕ) (h : Network) where
  abbrev links_in_turn : Verdict
  links_in_turn = in_turn (judged (link_number s h) link_place) h.m

  abbrev homes_in_turn : ℕ → Verdict
  homes_in_turn count = in_turn (judged (home_number s h) (home_place h)) count

  pub links_refuse : (number place : ℕ) → Refused number place ≡ links_in_turn → Refused number place ≡ records s h
  unfolding records judged
  links_refuse number place e = sym (then_no _ _ number place (sym e))

  pub homes_refuse : (count number place : ℕ) → count ≡ home_records h → Accepted ≡ links_in_turn → Refused number place ≡ homes_in_turn count → Refused number place ≡ records s h
  unfolding records judged
  homes_refuse count number place c e d =
      sym (then_ok _ _ (sym e) ∙ then_no _ _ number place (ap (in_turn _) (sym c) ∙ sym d))

  pub rows_decide : (count : ℕ) (v : Verdict) → count ≡ home_records h → Accepted ≡ links_in_turn → Accepted ≡ homes_in_turn count
      → v ≡ in_turn (judged (row_number s h) (row_place h)) h.k → v ≡ records s h
  unfolding records judged
  rows_decide count v c e d r = r ∙ sym (then_ok _ _ (sym e) ∙ then_ok _ _ (ap (in_turn _) (sym c) ∙ sym d))

module _ (s : List ℕ) where
  pub judge_stop : (r : Refusal) → number_of r.rule ≡ header_number s → r.place ≡ 0 → Refused (number_of r.rule) r.place ≡ judge s
  unfolding judge
  judge_stop r e p = sym (then_no _ _ (number_of r.rule) r.place (sym (says_number r (header_number s) 0 e p)))

  pub judge_on : (h : Network) (v : Verdict) → h ≡ header_of s → 0 ≡ header_number s → v ≡ records s h → v ≡ judge s
  unfolding judge
  judge_on h v d t p = p ∙ ap (records s) d ∙ sym (then_ok _ _ (sym (refuse_ok (header_number s) 0 (sym t))))

pub ruleset judging = (links_refuse, homes_refuse, rows_decide, judge_stop, judge_on, header_long, links_there)
