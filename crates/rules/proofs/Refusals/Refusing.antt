-- What the number and the place of a refusal say is so: of every entry, row by row of 01's table.
use Rattle.std.specs.Prelude.{if◌then◌else◌}
use mathlib.Core.Path.{◌≡◌, refl, sym, ap, subst, ◌∙◌}
use mathlib.Core.Bool.{Bool, true, false, not, ◌&&◌, ◌||◌, true≢false, false≢true}
use mathlib.Core.Logic.{◌⊎◌, inl, inr}
use mathlib.Core.List.{List}
use Prim.Native.Nat.{ℕ, zero, suc, ◌+◌, ◌*◌, ◌≤◌, ◌<◌}
use native.Mathlib.Omega.{arith}
use lib.Dec.{eqb, ltb, leb}
use lib.ListN.{length, get_or}
use borrow.Author.Tests.{eqb-true, eqb-false, eq-eqb, ltb-false, leb-false, le-leb}
use Rattle.rules.specs.declared.Network.{Network}
use Rattle.rules.specs.declared.Packet.{Packet}
use Rattle.rules.specs.declared.Failure.{Failure}
use Rattle.rules.specs.declared.Failure.TheVariants.{Nothing, Link, Node}
use Rattle.rules.specs.Verdict.{Verdict, Accepted, Refused}
use Rattle.rules.specs.Basics.{need, all}
use Rattle.rules.specs.Limits.{need_counts, row_weights, header_length, home_records, link_place, home_place, row_place, file_length, tables_length, trail_room}
use Rattle.rules.specs.File.{Set, encode, header_of, end_a, end_b, link_weight, home_node, home_topology, row_topology, row_weight, set_of}
use Rattle.rules.specs.Isolation.{neighbours, home, isolated, backbone, class_by, weight_fits, connected, restricted_links, two_links, topology_number}
use Rattle.rules.specs.Forwarding.{fault_of, up, Tables, lent_tables, packet, alternate_number, change_number, toward_number, lookup_number}
use Rattle.rules.specs.Building.{fits, built, spared, build_number}
use Rattle.rules.specs.Judgement.{refuse, and_then, in_turn, need_mark, header_number, rises, link_number, home_number, row_weight_fits, row_number, records, judge, topologies, take_in, need_set, need_graph, take_set, need_failure, need_packet, need_cap, need_fit, source_number, need_source, need_room}
use Rattle.rules.specs.Report.{report_text}
use Rattle.rules.specs.Entries.Entry.{Entry, NothingLent}
use Rattle.rules.specs.Entries.Lists.{Lists, need_lists, LongLists}
use Rattle.rules.specs.Entries.Read.{read_entry}
use Rattle.rules.specs.Entries.Write.{WriteInput, set_with, write_entry}
use Rattle.rules.specs.Entries.Build.{BuildInput, built_from, build_entry}
use Rattle.rules.specs.Entries.Tables.{tables_entry}
use Rattle.rules.specs.Entries.Step.{StepInput, lookups_of, step_entry}
use Rattle.rules.specs.Entries.Run.{RunInput, RunLent, run_entry}
use Rattle.rules.specs.Entries.Report.{report_entry}
use Rattle.rules.specs.Sets.{WithinLimits, MeetsRules}
use Rattle.rules.specs.Demands.Step.{InRange, Standing, LooksUp}
use Rattle.rules.specs.Demands.Building.{Removable, topologies_needed, with_topologies}
use Rattle.rules.specs.Refusals.{EndsInOrder, RowFits, RecordFault, link_mark, home_mark, row_mark, link_ends, link_weight_wrong, row_weight_wrong, home_wrong, row_topology_wrong, FileFault, under, other_length, header_mark, counts, in_record, TopologyFault, backbone_apart, too_few, Known, IntakeFault, SetFault, ReadFault, WriteFault, BuildFault, TablesFault, StepFault, RunFault, ReportFault, SaysSo, RefusalsSaySo}
use Rattle.rules.proofs.Ground.Choices.{and_of, and_right, or_left, or_right, clash, true_of, refuse_zero}
use Rattle.rules.proofs.Ground.Numbers.{all_of, of_two}
use Rattle.rules.proofs.File.Records.{header_meets, after_of}
use Rattle.rules.proofs.File.Accepted.{judged}
use Rattle.rules.proofs.File.TakenIn.{taken_file}
use Rattle.rules.proofs.Isolation.Homes.{backbone_node}
use Rattle.rules.proofs.Isolation.Connected.{joined_connected}
use Rattle.rules.proofs.Building.BuiltBy.{built_net}
use Rattle.rules.proofs.Building.BuildNumber.{nine_exactly, ten_exactly}
use Rattle.rules.proofs.Entries.Determined.{tells_refused}
use Rattle.rules.proofs.Entries.Build.{fit_needed}
use Rattle.rules.proofs.Entries.Step.{looked_up}

-- ---- verdicts in order

-- what a verdict refuses by is so
abbrev pub Says : Verdict → (ℕ → ℕ → Type 0) → Type 0
Says v P = (number place : ℕ) → v ≡ Refused number place → P number place

-- what a number says is so; 0 says nothing
abbrev Tells : ℕ → (ℕ → Type 0) → Type 0
Tells x P = (x ≡ 0 → ⊥) → P x

module _ (P : ℕ → ℕ → Type 0) where
  accepted_says : Says Accepted P
  accepted_says number place e = let z : ◌≡◌ {A = ℕ} 0 1 = cc in absurd (omega arith)

  refuse_says : (number place : ℕ) → Tells number (λ x. P x place) → Says (refuse number place) P
  unfolding refuse
  refuse_says zero place t = accepted_says
  refuse_says (suc number) place t = λ x y e.
      let a : suc number ≡ x = cc in
      let b : place ≡ y = cc in
      subst (λ (w : ℕ). P w y) a (subst (λ (w : ℕ). P (suc number) w) b (t (λ z. omega arith)))

  then_says : (v w : Verdict) → Says v P → (v ≡ Accepted → Says w P) → Says (and_then v w) P
  unfolding and_then
  then_says Accepted w f g = g refl
  then_says (Refused number place) w f g = f

  turn_says : (f : ℕ → Verdict) (n : ℕ) → ((i : ℕ) → i < n → Says (f i) P) → Says (in_turn f n) P
  unfolding in_turn
  turn_says f zero h = accepted_says
  turn_says f (suc n) h = then_says (in_turn f n) (f n) (turn_says f n (λ i l. h i (omega arith))) (λ e. h n (omega arith))

  -- what one verdict says in the words of another
  says_map : (Q : ℕ → ℕ → Type 0) (v : Verdict) → ((number place : ℕ) → Q number place → P number place) → Says v Q → Says v P
  says_map Q v f g = λ number place e. f number place (g number place e)

module _ (P : ℕ → Type 0) where
  nothing_told : Tells 0 P
  nothing_told h = absurd (h refl)

  need_tells : (t : Bool) (number rest : ℕ) → (t ≡ false → P number) → Tells rest P → Tells (need t number rest) P
  unfolding need
  need_tells true number rest f g = g
  need_tells false number rest f g = λ h. f refl

-- ---- 1 to 6

counts_fail : (h : Network) (rest : ℕ) (P : ℕ → Type 0) → ((WithinLimits h → ⊥) → P 3) → Tells rest P → Tells (need_counts h rest) P
unfolding need_counts
counts_fail h rest P f g =
    need_tells P (leb 3 h.n) 3 _ (λ e. f (λ w. let l = leb-false 3 h.n e in let q = w.nodes in omega arith))
    (need_tells P (leb h.n 32) 3 _ (λ e. f (λ w. let l = leb-false h.n 32 e in let q = w.nodes in omega arith))
    (need_tells P (leb 3 h.m) 3 _ (λ e. f (λ w. let l = leb-false 3 h.m e in let q = w.links in omega arith))
    (need_tells P (leb h.m 128) 3 _ (λ e. f (λ w. let l = leb-false h.m 128 e in let q = w.links in omega arith))
    (need_tells P (leb h.k 32) 3 _ (λ e. f (λ w. let l = leb-false h.k 32 e in let q = w.topologies in omega arith))
    (need_tells P (leb h.k h.n) 3 _ (λ e. f (λ w. let l = leb-false h.k h.n e in let q = w.topologies in omega arith))
    (need_tells P (leb 1 h.wmax) 3 _ (λ e. f (λ w. let l = leb-false 1 h.wmax e in let q = w.weights in omega arith))
    (need_tells P (leb h.wmax 65535) 3 rest (λ e. f (λ w. let l = leb-false h.wmax 65535 e in let q = w.weights in omega arith)) g)))))))

module _ (s : List ℕ) where
  abbrev h : Network
  h = header_of s

  mark_tells : (place x y rest : ℕ) (P : ℕ → Type 0) → (((get_or s place 0 ≡ x) × (get_or s (place + 1) 0 ≡ y) → ⊥) → P 2) → Tells rest P → Tells (need_mark s place x y rest) P
  unfolding need_mark
  mark_tells place x y rest P f g =
      need_tells P (eqb (get_or s place 0) x) 2 _ (λ e. f (λ m. eqb-false _ _ e m.0))
      (need_tells P (eqb (get_or s (place + 1) 0) y) 2 rest (λ e. f (λ m. eqb-false _ _ e m.1)) g)

  header_tells : Tells (header_number s) (λ x. FileFault s x 0)
  unfolding header_number
  header_tells =
      let P : ℕ → Type 0 = λ x. FileFault s x 0 in
      need_tells P (leb header_length (length s)) 1 _ (λ e. under (leb-false header_length (length s) e))
      (mark_tells 0 0x4E 0x57 _ P header_mark
      (counts_fail h _ P counts
      (need_tells P (eqb (length s) (file_length h)) 1 0 (λ e. other_length (eqb-false _ _ e)) (nothing_told P))))

  -- a link that rises after the one before it
  rises_of : (l : ℕ) → EndsInOrder s l → rises s l ≡ true
  unfolding rises
  rises_of zero o = refl
  rises_of (suc l) o = after_of (end_a s l) (end_b s l) (end_a s (suc l)) (end_b s (suc l)) (o.order l refl)

  link_tells : (l : ℕ) → l < h.m → Tells (link_number s h l) (λ x. RecordFault s x (link_place l))
  unfolding link_number
  link_tells l b =
      let P : ℕ → Type 0 = λ x. RecordFault s x (link_place l) in
      mark_tells (link_place l) 0x4C 0x4B _ P (link_mark l b)
      (need_tells P (ltb (end_b s l) h.n) 4 _ (λ e. link_ends l b (λ o. let q = ltb-false (end_b s l) h.n e in let w = o.ends in omega arith))
      (need_tells P (ltb (end_a s l) (end_b s l)) 4 _ (λ e. link_ends l b (λ o. let q = ltb-false (end_a s l) (end_b s l) e in let w = o.ends in omega arith))
      (need_tells P (rises s l) 4 _ (λ e. link_ends l b (λ o. clash (rises s l) (rises_of l o) e))
      (need_tells P (leb 1 (link_weight s l)) 5 _ (λ e. link_weight_wrong l b (λ o. let q = leb-false 1 (link_weight s l) e in omega (arith, o.0)))
      (need_tells P (leb (link_weight s l) h.wmax) 5 0 (λ e. link_weight_wrong l b (λ o. let q = leb-false (link_weight s l) h.wmax e in omega (arith, o.1))) (nothing_told P))))))

  home_tells : (v : ℕ) → v < home_records h → Tells (home_number s h v) (λ x. RecordFault s x (home_place h v))
  unfolding home_number
  home_tells v b =
      let P : ℕ → Type 0 = λ x. RecordFault s x (home_place h v) in
      mark_tells (home_place h v) 0x48 0x4D _ P (home_mark v b)
      (need_tells P (eqb (home_node s h v) v) 6 _ (λ e. home_wrong v b (λ o. eqb-false _ _ e o.0))
      (need_tells P (leb 1 (home_topology s h v)) 6 _ (λ e. home_wrong v b (λ o. let q = leb-false 1 (home_topology s h v) e in omega (arith, o.1)))
      (need_tells P (leb (home_topology s h v) h.k) 6 0 (λ e. home_wrong v b (λ o. let q = leb-false (home_topology s h v) h.k e in omega (arith, o.2))) (nothing_told P))))

  -- a row whose weights go by their links' classes
  row_fits : (j : ℕ) → RowFits s j → (l : ℕ) → l < h.m → row_weight_fits s h j l ≡ true
  unfolding row_weight_fits weight_fits class_by
  row_fits j F l b = go (eqb (home_topology s h (end_a s l)) (suc j)) refl (eqb (home_topology s h (end_b s l)) (suc j)) refl
    where
      go : (x : Bool) → eqb (home_topology s h (end_a s l)) (suc j) ≡ x → (y : Bool) → eqb (home_topology s h (end_b s l)) (suc j) ≡ y
          → weight_fits (class_by (eqb (home_topology s h (end_a s l)) (suc j)) (eqb (home_topology s h (end_b s l)) (suc j))) h.wmax (row_weight s h j l) ≡ true
      go true p true q = rw (p, q) (eq-eqb _ 0 (F.other l b (inl (eqb-true _ _ p))))
      go true p false q = rw (p, q) (eq-eqb _ 0 (F.other l b (inl (eqb-true _ _ p))))
      go false p true q = rw (p, q) (eq-eqb _ 0 (F.other l b (inr (eqb-true _ _ q))))
      go false p false q =
          let w = F.normal l b (eqb-false _ _ p) (eqb-false _ _ q) in
          rw (p, q) (and_of (leb 1 (row_weight s h j l)) (leb (row_weight s h j l) h.wmax) (le-leb _ _ w.0) (le-leb _ _ w.1))

  row_tells : (j : ℕ) → j < h.k → Tells (row_number s h j) (λ x. RecordFault s x (row_place h j))
  unfolding row_number
  row_tells j b =
      let P : ℕ → Type 0 = λ x. RecordFault s x (row_place h j) in
      mark_tells (row_place h j) 0x42 0x57 _ P (row_mark j b)
      (need_tells P (eqb (row_topology s h j) (suc j)) 6 _ (λ e. row_topology_wrong j b (eqb-false _ _ e))
      (need_tells P (all (row_weight_fits s h j) h.m) 5 0 (λ e. row_weight_wrong j b (λ F. clash (all (row_weight_fits s h j) h.m) (all_of (row_weight_fits s h j) h.m (row_fits j F)) e)) (nothing_told P)))

  records_say : Says (records s h) (RecordFault s)
  unfolding records
  records_say =
      let P = RecordFault s in
      then_says P _ _ (turn_says P _ h.m (λ l b. refuse_says P (link_number s h l) (link_place l) (link_tells l b)))
      (λ c. then_says P _ _ (turn_says P _ (home_records h) (λ v b. refuse_says P (home_number s h v) (home_place h v) (home_tells v b)))
      (λ d. turn_says P _ h.k (λ j b. refuse_says P (row_number s h j) (row_place h j) (row_tells j b))))

  judge_says : Says (judge s) (FileFault s)
  unfolding judge
  judge_says =
      let P = FileFault s in
      then_says P _ _ (refuse_says P (header_number s) 0 header_tells)
      (λ a. says_map P (RecordFault s) (records s h) (λ x y q. in_record (header_meets s (refuse_zero (header_number s) 0 a)).limits q) records_say)

-- ---- 7 and 8

and_no : (a b : Bool) → (a && b) ≡ false → b ≡ true → a ≡ false
and_no a true e q = and_true a e
  where
    and_true : (x : Bool) → (x && true) ≡ false → x ≡ false
    and_true true d = d
    and_true false d = refl
and_no a false e q = absurd (false≢true q)

-- where not all pass, some number does not
all_not : (p : ℕ → Bool) (n : ℕ) → all p n ≡ false → (x : ℕ) × (x < n) × (p x ≡ false)
unfolding all
all_not p zero e = absurd (true≢false e)
all_not p (suc n) e = go (p n) refl (all_not p n)
  where
    go : (t : Bool) → p n ≡ t → (all p n ≡ false → (x : ℕ) × (x < n) × (p x ≡ false)) → (x : ℕ) × (x < suc n) × (p x ≡ false)
    go false q r = (n, omega arith, q)
    go true q r = let f = r (and_no (all p n) (p n) e q) in (f.0, omega (arith, f.1), f.2)

module _ (S : Set) where
  -- a node that fails: isolated, and without two restricted links
  too_few_of : (i : ℕ) → 1 ≤ i → i ≤ S.net.k → two_links S i ≡ false → TopologyFault S 8 i
  unfolding two_links restricted_links
  too_few_of i one high e =
      let f = all_not (λ v. not (isolated S i v) || leb 2 (restricted_links S i v)) S.net.n e in
      let v : ℕ = f.0 in
      let isolated_there : isolated S i v ≡ true = true_of (isolated S i v) (λ q. clash _ (or_left (not (isolated S i v)) (leb 2 (restricted_links S i v)) (ap not q)) f.2) in
      too_few i v one high f.1 isolated_there
      (λ T. clash _ (or_right (not (isolated S i v)) (leb 2 (restricted_links S i v))
      (le-leb 2 (restricted_links S i v) (of_two (λ w. neighbours S v w && backbone S i w) S.net.n (λ w q. backbone_node S i w (and_right (neighbours S v w) (backbone S i w) q)) T))) f.2)

  topology_tells : (i : ℕ) → 1 ≤ i → i ≤ S.net.k → Tells (topology_number S i) (λ x. TopologyFault S x i)
  unfolding topology_number
  topology_tells i one high =
      let P : ℕ → Type 0 = λ x. TopologyFault S x i in
      need_tells P (connected S i) 7 _ (λ e. backbone_apart i one high (λ J. clash (connected S i) (joined_connected S i (record { some = J.some; joined = J.joined })) e))
      (need_tells P (two_links S i) 8 0 (too_few_of i one high) (nothing_told P))

  topologies_say : Says (topologies S) (TopologyFault S)
  unfolding topologies
  topologies_say =
      turn_says (TopologyFault S) (λ j. refuse (topology_number S (suc j)) (suc j)) S.net.k
      (λ j b. refuse_says (TopologyFault S) (topology_number S (suc j)) (suc j) (topology_tells (suc j) (omega arith) (omega arith)))

-- ---- 9, 10 and 15 are the only numbers of their rules

nine_or_ten : (G : Set) (cap : ℕ) → (build_number G cap ≡ 0) ⊎ ((build_number G cap ≡ 9) ⊎ (build_number G cap ≡ 10))
unfolding build_number need
nine_or_ten G cap = go (all (spared G) G.net.n) (fits G cap)
  where
    go : (a b : Bool) → (need a 9 (need b 10 0) ≡ 0) ⊎ ((need a 9 (need b 10 0) ≡ 9) ⊎ (need a 9 (need b 10 0) ≡ 10))
    go true true = inl refl
    go true false = inr (inr refl)
    go false b = inr (inl refl)

lookup_or : (S : Set) (tables : Tables) (on : ℕ → ℕ → Bool) (p : Packet) → (lookup_number S tables on p ≡ 0) ⊎ (lookup_number S tables on p ≡ 15)
unfolding lookup_number toward_number change_number alternate_number need
lookup_or S tables on p =
    let v : ℕ = tables.next p.topology p.place p.destination in
    let w : ℕ = tables.next (home S v) p.place p.destination in
    go (eqb p.place p.destination) (neighbours S p.place v) (on p.place v || not (eqb p.topology 0)) (neighbours S p.place w) (eqb w v) (neighbours S p.place (tables.alternate p.place v))
  where
    chain : Bool → Bool → Bool → Bool → Bool → Bool → ℕ
    chain here a over b back c = if here then 0 else need a 15 (if over then 0 else need b 15 (if back then need c 15 0 else 0))

    go : (here a over b back c : Bool) → (chain here a over b back c ≡ 0) ⊎ (chain here a over b back c ≡ 15)
    go true a over b back c = inl refl
    go false false over b back c = inr refl
    go false true true b back c = inl refl
    go false true false false back c = inr refl
    go false true false true false c = inl refl
    go false true false true true false = inr refl
    go false true false true true true = inl refl

-- ---- one number at place 0, where what it needs does not hold

module _ (P : ℕ → ℕ → Type 0) where
  room_says : (long : ℕ) (lent : List ℕ) → (length lent < long → P 14 0) → Says (need_room long lent) P
  unfolding need_room
  room_says long lent f =
      refuse_says P _ 0 (need_tells (λ x. P x 0) (leb long (length lent)) 14 0 (λ e. f (leb-false long (length lent) e)) (nothing_told (λ x. P x 0)))

  lists_say : (number : ℕ) (h : Network) (d : Lists) → ((LongLists h d → ⊥) → P number 0) → Says (need_lists number h d) P
  unfolding need_lists
  lists_say number h d f =
      let Q : ℕ → Type 0 = λ x. P x 0 in
      refuse_says P _ 0
      (need_tells Q (leb h.m (length d.a)) number _ (λ e. f (λ l. let q = leb-false h.m (length d.a) e in let w = l.a in omega arith))
      (need_tells Q (leb h.m (length d.b)) number _ (λ e. f (λ l. let q = leb-false h.m (length d.b) e in let w = l.b in omega arith))
      (need_tells Q (leb h.m (length d.weights)) number _ (λ e. f (λ l. let q = leb-false h.m (length d.weights) e in let w = l.weights in omega arith))
      (need_tells Q (leb (home_records h) (length d.homes)) number _ (λ e. f (λ l. let q = leb-false (home_records h) (length d.homes) e in let w = l.homes in omega arith))
      (need_tells Q (leb (h.k * row_weights h) (length d.rows)) number 0 (λ e. f (λ l. let q = leb-false (h.k * row_weights h) (length d.rows) e in let w = l.rows in omega arith)) (nothing_told Q))))))

  set_says : (h : Network) → (h.k ≡ 0 → P 13 0) → Says (need_set h) P
  unfolding need_set
  set_says h f = refuse_says P _ 0 (need_tells (λ x. P x 0) (leb 1 h.k) 13 0 (λ e. f (let q = leb-false 1 h.k e in omega arith)) (nothing_told (λ x. P x 0)))

  graph_says : (h : Network) → ((h.k ≡ 0 → ⊥) → P 13 0) → Says (need_graph h) P
  unfolding need_graph
  graph_says h f = refuse_says P _ 0 (need_tells (λ x. P x 0) (eqb h.k 0) 13 0 (λ e. f (eqb-false h.k 0 e)) (nothing_told (λ x. P x 0)))

  cap_says : (cap : ℕ) → (((1 ≤ cap) × (cap ≤ 32) → ⊥) → P 11 0) → Says (need_cap cap) P
  unfolding need_cap
  cap_says cap f =
      let Q : ℕ → Type 0 = λ x. P x 0 in
      refuse_says P _ 0
      (need_tells Q (leb 1 cap) 11 _ (λ e. f (λ w. let q = leb-false 1 cap e in omega (arith, w.0)))
      (need_tells Q (leb cap 32) 11 0 (λ e. f (λ w. let q = leb-false cap 32 e in omega (arith, w.1))) (nothing_told Q)))

  failure_tells : (h : Network) (f : Failure) → ((InRange h f → ⊥) → P 11 0) → Tells (need_failure h f 0) (λ x. P x 0)
  unfolding need_failure
  failure_tells h Nothing g = nothing_told (λ x. P x 0)
  failure_tells h (Link l) g = need_tells (λ x. P x 0) (ltb l h.m) 11 0 (λ e. g (λ w. let q = ltb-false l h.m e in omega arith)) (nothing_told (λ x. P x 0))
  failure_tells h (Node v) g = need_tells (λ x. P x 0) (ltb v h.n) 11 0 (λ e. g (λ w. let q = ltb-false v h.n e in omega arith)) (nothing_told (λ x. P x 0))

  packet_says : (h : Network) (p : Packet) (f : Failure) → ((Known h p f → ⊥) → P 11 0) → Says (need_packet h p f) P
  unfolding need_packet
  packet_says h p f g =
      let Q : ℕ → Type 0 = λ x. P x 0 in
      refuse_says P _ 0
      (need_tells Q (ltb p.place h.n) 11 _ (λ e. g (λ k. let q = ltb-false p.place h.n e in let w = k.place in omega arith))
      (need_tells Q (ltb p.destination h.n) 11 _ (λ e. g (λ k. let q = ltb-false p.destination h.n e in let w = k.destination in omega arith))
      (need_tells Q (leb p.topology h.k) 11 _ (λ e. g (λ k. let q = leb-false p.topology h.k e in let w = k.topology in omega arith))
      (failure_tells h f (λ n. g (λ k. n k.failure))))))

  source_tells : (u : ℕ) (f : Failure) → ((Standing u f → ⊥) → P 12 0) → Tells (source_number u f) (λ x. P x 0)
  unfolding source_number
  source_tells u Nothing g = nothing_told (λ x. P x 0)
  source_tells u (Link l) g = nothing_told (λ x. P x 0)
  source_tells u (Node v) g = go (eqb v u) refl
    where
      go : (t : Bool) → eqb v u ≡ t → Tells (if t then 12 else 0) (λ x. P x 0)
      go true e = λ z. g (λ s. s (eqb-true v u e))
      go false e = nothing_told (λ x. P x 0)

  source_says : (u : ℕ) (f : Failure) → ((Standing u f → ⊥) → P 12 0) → Says (need_source u f) P
  unfolding need_source
  source_says u f g = refuse_says P (source_number u f) 0 (source_tells u f g)

-- ---- 15

lookup_tells : (S : Set) (tables : Tables) (on : ℕ → ℕ → Bool) (p : Packet) (P : ℕ → Type 0) → ((LooksUp S tables on p → ⊥) → P 15) → Tells (lookup_number S tables on p) P
lookup_tells S tables on p P f = go (lookup_number S tables on p) refl (lookup_or S tables on p)
  where
    go : (x : ℕ) → lookup_number S tables on p ≡ x → (x ≡ 0) ⊎ (x ≡ 15) → Tells x P
    go x e (inl z) = λ n. absurd (n z)
    go x e (inr z) = λ n. subst P (sym z) (f (λ l. n (sym e ∙ looked_up S tables on p l)))

-- ---- each entry

-- from the verdict to what the answer tells
pub says_so : {Input Lent Answer : Type 0} (E : Entry Input Lent Answer) (Fault : Input → Lent → ℕ → ℕ → Type 0)
    → ((i : Input) (before : Lent) → Says (E.verdict i before) (Fault i before)) → SaysSo E Fault
says_so E Fault f i before after r number place P e =
    f i before number place (tells_refused (E.verdict i before) (E.gives i before) number place (sym e ∙ P.answer))

intake_says : (s : List ℕ) → Says (take_in s) (IntakeFault s)
unfolding take_in
intake_says s =
    let P = IntakeFault s in
    then_says P _ _ (says_map P (FileFault s) (judge s) (λ x y q. IntakeFault.file q) (judge_says s))
    (λ a. says_map P (TopologyFault (set_of s)) (topologies (set_of s)) (λ x y q. IntakeFault.topology (judged s a).rules q) (topologies_say (set_of s)))

set_taken_says : (s : List ℕ) → Says (take_set s) (SetFault s)
unfolding take_set
set_taken_says s =
    let P = SetFault s in
    then_says P _ _ (says_map P (IntakeFault s) (take_in s) (λ x y q. SetFault.intake q) (intake_says s)) (λ a. set_says P (header_of s) SetFault.graph)

pub read_refuses : (s : List ℕ) (d : Lists) → Says (read_entry.verdict s d) (ReadFault s d)
unfolding read_entry
read_refuses s d =
    let P = ReadFault s d in
    then_says P _ _ (says_map P (IntakeFault s) (take_in s) (λ x y q. ReadFault.intake q) (intake_says s)) (λ a. lists_say P 14 (header_of s) d ReadFault.room)

pub write_refuses : (i : WriteInput) (lent : List ℕ) → Says (write_entry.verdict i lent) (WriteFault i lent)
unfolding write_entry
write_refuses i lent =
    let P = WriteFault i lent in
    let s : List ℕ = encode (set_with i.net i.lists) in
    then_says P _ _ (refuse_says P (need_counts i.net 0) 0 (counts_fail i.net 0 (λ x. P x 0) WriteFault.counts (nothing_told (λ x. P x 0))))
    (λ a. then_says P _ _ (lists_say P 1 i.net i.lists WriteFault.lists)
    (λ b. then_says P _ _ (says_map P (IntakeFault s) (take_in s) (λ x y q. WriteFault.intake q) (intake_says s))
    (λ c. room_says P (file_length i.net) lent WriteFault.room)))

pub tables_refuses : (s : List ℕ) (lent : List ℕ) → Says (tables_entry.verdict s lent) (TablesFault s lent)
unfolding tables_entry
tables_refuses s lent =
    let P = TablesFault s lent in
    then_says P _ _ (says_map P (SetFault s) (take_set s) (λ x y q. TablesFault.set q) (set_taken_says s)) (λ a. room_says P (tables_length (header_of s)) lent TablesFault.room)

pub report_refuses : (s : List ℕ) (lent : List ℕ) → Says (report_entry.verdict s lent) (ReportFault s lent)
unfolding report_entry
report_refuses s lent =
    let P = ReportFault s lent in
    then_says P _ _ (says_map P (SetFault s) (take_set s) (λ x y q. ReportFault.set q) (set_taken_says s)) (λ a. room_says P (length (report_text (set_of s))) lent ReportFault.room)

pub run_refuses : (i : RunInput) (d : RunLent) → Says (run_entry.verdict i d) (RunFault i d)
unfolding run_entry
run_refuses i d =
    let P = RunFault i d in
    then_says P _ _ (says_map P (SetFault i.file) (take_set i.file) (λ x y q. RunFault.set q) (set_taken_says i.file))
    (λ a. then_says P _ _ (packet_says P (header_of i.file) (packet i.source i.destination 0) i.failure RunFault.range)
    (λ b. then_says P _ _ (source_says P i.source i.failure RunFault.stopped)
    (λ c. then_says P _ _ (room_says P (tables_length (header_of i.file)) d.tables RunFault.tables)
    (λ e. room_says P (trail_room (header_of i.file)) d.trail RunFault.trail))))

pub step_refuses : (i : StepInput) (d : NothingLent) → Says (step_entry.verdict i d) (StepFault i)
unfolding step_entry lookups_of
step_refuses i d =
    let P = StepFault i in
    let S : Set = set_of i.file in
    then_says P _ _ (says_map P (FileFault i.file) (judge i.file) (λ x y q. StepFault.file q) (judge_says i.file))
    (λ a. then_says P _ _ (set_says P (header_of i.file) StepFault.graph)
    (λ b. then_says P _ _ (packet_says P (header_of i.file) i.packet i.failure StepFault.range)
    (λ c. then_says P _ _ (source_says P i.packet.place i.failure StepFault.stopped)
    (λ e. then_says P _ _ (room_says P (tables_length (header_of i.file)) i.tables StepFault.room)
    (λ f. refuse_says P _ 0 (lookup_tells S (lent_tables (header_of i.file) i.tables) (up S (fault_of i.failure)) i.packet (λ x. P x 0) StepFault.lookup))))))

-- ---- build: 9 and 10 are exact

fit_says : (P : ℕ → ℕ → Type 0) (G : Set) (cap : ℕ) → MeetsRules G → ((Removable G → ⊥) → P 9 0) → (cap < topologies_needed G → P 10 0) → Says (need_fit G cap) P
unfolding need_fit
fit_says P G cap R f g = refuse_says P (build_number G cap) 0 (go (build_number G cap) refl (nine_or_ten G cap))
  where
    go : (x : ℕ) → build_number G cap ≡ x → (x ≡ 0) ⊎ ((x ≡ 9) ⊎ (x ≡ 10)) → Tells x (λ y. P y 0)
    go x e (inl z) = λ n. absurd (n z)
    go x e (inr (inl z)) = λ n. subst (λ (y : ℕ). P y 0) (sym z) (f ((nine_exactly G cap R).0 (e ∙ z)))
    go x e (inr (inr z)) = λ n. subst (λ (y : ℕ). P y 0) (sym z) (g ((ten_exactly G cap R).0 (e ∙ z)).1)

built_room : (s : List ℕ) (cap : ℕ) (lent : List ℕ) → judge s ≡ Accepted → need_fit (set_of s) cap ≡ Accepted → length lent < file_length (built (set_of s) cap).net
    → length lent < file_length (with_topologies (header_of s) (topologies_needed (set_of s)))
unfolding set_of
built_room s cap lent e f l =
    let R = (judged s e).rules in
    subst (λ (g : Network). length lent < file_length g) (built_net (set_of s) cap (fit_needed (set_of s) cap R f) R) l

pub build_refuses : (i : BuildInput) (lent : List ℕ) → Says (build_entry.verdict i lent) (BuildFault i lent)
unfolding build_entry built_from
build_refuses i lent =
    let P = BuildFault i lent in
    let G : Set = set_of i.file in
    then_says P _ _ (says_map P (IntakeFault i.file) (take_in i.file) (λ x y q. BuildFault.intake q) (intake_says i.file))
    (λ a. then_says P _ _ (graph_says P (header_of i.file) BuildFault.set)
    (λ b. then_says P _ _ (cap_says P i.cap BuildFault.cap)
    (λ c. then_says P _ _ (fit_says P G i.cap (judged i.file (taken_file i.file a)).rules BuildFault.nine BuildFault.ten)
    (λ f. room_says P (file_length (built G i.cap).net) lent (λ l. BuildFault.room (built_room i.file i.cap lent (taken_file i.file a) f l))))))

-- ---- what the answers tell

pub refusals_say_so : RefusalsSaySo
refusals_say_so =
    record {
      read = says_so read_entry ReadFault read_refuses;
      write = says_so write_entry WriteFault write_refuses;
      build = says_so build_entry BuildFault build_refuses;
      tables = says_so tables_entry TablesFault tables_refuses;
      step = says_so step_entry (λ i d. StepFault i) step_refuses;
      run = says_so run_entry RunFault run_refuses;
      report = says_so report_entry ReportFault report_refuses;
    }
