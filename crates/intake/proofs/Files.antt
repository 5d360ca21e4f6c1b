-- What the proofs of the functions over a file's bytes cite.
use mathlib.Core.Path.{◌≡◌, refl, sym, ap, ◌∙◌}
use mathlib.Core.List.{List}
use Prim.Native.Nat.{ℕ, zero, suc, ◌+◌, ◌-◌, ◌≤◌, ◌<◌}
use native.Mathlib.Numerals.{add-one}
use native.Mathlib.Omega.{arith}
use lib.ListN.{length, get_or, replicate}
use Rattle.rules.specs.declared.Network.{Network}
use Rattle.rules.specs.Verdict.{Verdict, Accepted, Refused}
use Rattle.rules.specs.Limits.{link_place, home_records}
use Rattle.rules.specs.File.{header_of, end_a, end_b, home_topology, set_of}
use Rattle.rules.specs.Isolation.{topology_number}
use Rattle.rules.specs.Judgement.{refuse, and_then, in_turn, judge, topologies, take_in, need_set, take_set}
use Rattle.rules.proofs.Ground.Choices.{refuse_ok, refuse_zero, then_ok, then_no, turn_none, turn_more, turn_stop, turn_agree}
use Rattle.rules.proofs.File.SetOfBytes.{net_held}
use Rattle.layout.proofs.Places.{link_inside}
use Rattle.topologyrules.specs.Entered.{entered}
use Rattle.topologyrules.specs.Topology.{number_by}
use Rattle.topologyrules.proofs.Same.{number_same}
use Rattle.intake.specs.Graph.{linked, neighbour_words, isolated_words, isolated_in, turns_by, Ends, Homes}
use Rattle.intake.proofs.Graph.{words_of, isolated_words_are, accepted_ends, accepted_homes, accepted_few, accepted_some, accepted_topologies}

-- ---- neighbour_words

pub linked_none : (s : List ℕ) → replicate 32 0 ≡ neighbour_words s 0
unfolding neighbour_words linked
linked_none s = refl

pub linked_more : (s : List ℕ) (l x y : ℕ) (nb e f : List ℕ) → nb ≡ neighbour_words s l → x ≡ end_a s l → y ≡ end_b s l → e ≡ entered nb x y → f ≡ entered e y x
    → f ≡ neighbour_words s (l + 1)
unfolding neighbour_words linked
linked_more s l x y nb e f q ex ey p r = r ∙ rw (p, q, ex, ey, add-one)

pub link_there : (s : List ℕ) (m l : ℕ) → Ends s m → l < m → link_place (l + 1) ≤ length s
link_there s m l E h = link_inside s l l m E.long h refl

pub a_low : (s : List ℕ) (m l x : ℕ) → Ends s m → l < m → x ≡ end_a s l → x < 32
a_low s m l x E h e = let q = E.a_low l h in omega arith

pub b_low : (s : List ℕ) (m l y : ℕ) → Ends s m → l < m → y ≡ end_b s l → y < 32
b_low s m l y E h e = let q = E.b_low l h in omega arith

pub ruleset ends_low = (a_low, b_low)

pub ruleset linking = (linked_none, linked_more, link_there)

-- ---- isolated_words

pub isolated_none : (s : List ℕ) (h : Network) → replicate 32 0 ≡ isolated_words s h 0
unfolding isolated_words
isolated_none s h = refl

pub isolated_more : (s : List ℕ) (h : Network) (v home x y : ℕ) (isos e : List ℕ) → isos ≡ isolated_words s h v → home ≡ home_topology s h v → x ≡ home - 1 → y ≡ v
    → e ≡ entered isos x y → e ≡ isolated_words s h (v + 1)
unfolding isolated_words
isolated_more s h v home x y isos e q eh ex ey p = p ∙ rw (q, ex, ey, eh, add-one)

pub isolated_done : (s : List ℕ) (h : Network) (count : ℕ) (isos : List ℕ) → isos ≡ isolated_words s h count → count ≡ home_records h → isos ≡ isolated_words s h (home_records h)
isolated_done s h count isos q ec = q ∙ ap (isolated_words s h) ec

pub ruleset isolating = (isolated_none, isolated_more, isolated_done)

module _ (s : List ℕ) (h : Network) (H : Homes s h) (v count home : ℕ) (l : v < count) (ec : count ≡ home_records h) (eh : home ≡ home_topology s h v) where
  pub home_some : 1 ≤ home
  home_some = let q = H.one v (omega arith) in omega arith

  pub home_low : home - 1 < 32
  home_low = let q = H.high v (omega arith) in let o = home_some in omega arith

pub node_low : (s : List ℕ) (h : Network) → Homes s h → (v count : ℕ) → v < count → count ≡ home_records h → v < 32
node_low s h H v count l ec = let q = H.few in omega arith

pub ruleset homes_low = (home_some, home_low, node_low)

-- ---- isolated_in

pub none_isolated : (isos : List ℕ) (i : ℕ) → i ≡ 0 → 0 ≡ isolated_in isos i
unfolding isolated_in
none_isolated isos i e = rw e

pub word_there : (isos : List ℕ) (i x w : ℕ) → (i ≡ 0 → ⊥) → x ≡ i - 1 → w ≡ get_or isos x 0 → w ≡ isolated_in isos i
unfolding isolated_in
word_there isos i x w some ex ew = ew ∙ ap (λ (y : ℕ). get_or isos y 0) ex ∙ at i some
  where
    at : (y : ℕ) → (y ≡ 0 → ⊥) → get_or isos (y - 1) 0 ≡ isolated_in isos y
    at zero f = absurd (f refl)
    at (suc y) f = ap (λ (z : ℕ). get_or isos z 0) (omega arith)

-- ---- in_turn

module _ (nb : List ℕ) (n : ℕ) (isos : List ℕ) where
  abbrev turn : ℕ → Verdict
  turn x = refuse (number_by nb n (isolated_in isos (suc x))) (suc x)

  pub turns_none : turns_by nb n isos 0 ≡ Accepted
  unfolding turns_by
  turns_none = turn_none turn

  module _ (j i iso r place : ℕ) (t : turns_by nb n isos j ≡ Accepted) (ei : i ≡ j + 1) (ew : iso ≡ isolated_in isos i) (er : r ≡ number_by nb n iso) where
    number_is : number_by nb n (isolated_in isos (suc j)) ≡ r
    number_is = ap (λ (x : ℕ). number_by nb n (isolated_in isos x)) (sym (ei ∙ add-one j)) ∙ ap (number_by nb n) (sym ew) ∙ sym er

    pub turns_more : Accepted ≡ refuse r place → turns_by nb n isos (j + 1) ≡ Accepted
    unfolding turns_by
    turns_more z = turn_more turn j t (sym (refuse_ok (number_by nb n (isolated_in isos (suc j))) (suc j) (number_is ∙ refuse_zero r place (sym z))))

    pub turns_out : (k number q : ℕ) → place ≡ i → j < k → Refused number q ≡ refuse r place → Refused number q ≡ turns_by nb n isos k
    unfolding turns_by
    turns_out k number q ep l z =
        sym (turn_stop turn j k number q l t (ap (λ (x : ℕ). refuse x (suc j)) number_is ∙ ap (refuse r) (sym (ep ∙ ei ∙ add-one j)) ∙ sym z))

pub ruleset turns = (turns_none, turns_more, turns_out)

-- ---- by_words

pub ends_of : (s : List ℕ) (h : Network) → h ≡ header_of s → judge s ≡ Accepted → Ends s h.m
ends_of s h eh a = rw eh (accepted_ends s a)

pub homes_of : (s : List ℕ) (h : Network) → h ≡ header_of s → judge s ≡ Accepted → Homes s h
homes_of s h eh a = rw eh (accepted_homes s a)

pub few_of : (s : List ℕ) (h : Network) → h ≡ header_of s → judge s ≡ Accepted → h.n ≤ 32
few_of s h eh a = rw eh (accepted_few s a)

pub some_of : (s : List ℕ) (h : Network) → h ≡ header_of s → judge s ≡ Accepted → 1 ≤ h.n
some_of s h eh a = rw eh (let l = accepted_some s a in omega arith)

-- by the words of its own links and homes, the topologies in turn are those of the set
held_turns : (s : List ℕ) → judge s ≡ Accepted
    → turns_by (neighbour_words s (header_of s).m) (header_of s).n (isolated_words s (header_of s) (home_records (header_of s))) (header_of s).k ≡ topologies (set_of s)
unfolding turns_by isolated_in topologies set_of
held_turns s a =
    let h : Network = header_of s in
    let k = accepted_topologies s a in
    turn_agree _ (λ j. refuse (topology_number (set_of s) (suc j)) (suc j)) h.k
    (λ j l t. ap (λ (x : ℕ). refuse x (suc j))
    (ap (number_by (neighbour_words s h.m) h.n) (isolated_words_are s j (accepted_homes s a) l (omega arith))
    ∙ number_same (set_of s) (suc j) (neighbour_words s h.m) (words_of s (accepted_few s a))))

pub turns_are : (s nb isos : List ℕ) (h : Network) (r : Verdict) → judge s ≡ Accepted → h ≡ header_of s → nb ≡ neighbour_words s h.m → isos ≡ isolated_words s h (home_records h)
    → r ≡ turns_by nb h.n isos h.k → r ≡ topologies (set_of s)
turns_are s nb isos h r a eh en ei er = er ∙ rw (en, ei, eh) (held_turns s a)

pub ruleset of_words = (ends_of, homes_of, few_of, some_of, turns_are)

-- ---- topology_verdict

pub none_to_check : (s : List ℕ) (h : Network) → h ≡ header_of s → h.k ≡ 0 → Accepted ≡ topologies (set_of s)
unfolding topologies
none_to_check s h eh z =
    let f : ℕ → Verdict = λ j. refuse (topology_number (set_of s) (suc j)) (suc j) in
    let none : (set_of s).net.k ≡ 0 = rw (net_held s) (rw eh at z) in
    sym (ap (in_turn f) none ∙ turn_none f)

-- ---- take_in, take_set

module _ (s : List ℕ) where
  pub judged : Accepted ≡ judge s → judge s ≡ Accepted
  judged e = sym e

  pub taken_on : (v : Verdict) → Accepted ≡ judge s → v ≡ topologies (set_of s) → v ≡ take_in s
  unfolding take_in
  taken_on v e d = d ∙ sym (then_ok (judge s) (topologies (set_of s)) (sym e))

  pub taken_stop : (number place : ℕ) → Refused number place ≡ judge s → Refused number place ≡ take_in s
  unfolding take_in
  taken_stop number place e = sym (then_no (judge s) (topologies (set_of s)) number place (sym e))

  pub set_on : (h : Network) (v : Verdict) → Accepted ≡ take_in s → h ≡ header_of s → v ≡ need_set h → v ≡ take_set s
  unfolding take_set
  set_on h v e eh d = d ∙ ap need_set eh ∙ sym (then_ok (take_in s) (need_set (header_of s)) (sym e))

  pub set_stop : (number place : ℕ) → Refused number place ≡ take_in s → Refused number place ≡ take_set s
  unfolding take_set
  set_stop number place e = sym (then_no (take_in s) (need_set (header_of s)) number place (sym e))

pub ruleset taking = (judged, taken_on, taken_stop)

pub ruleset taking_set = (set_on, set_stop)
