-- What the builder answers and leaves, verdict by verdict.
use Rattle.std.specs.Prelude.{Ok, Err}
use mathlib.Core.Path.{◌≡◌, refl, sym, ap, subst, ◌∙◌}
use mathlib.Core.Bool.{Bool, true, false}
use mathlib.Core.List.{List, [], ◌∷◌}
use Prim.Native.Nat.{ℕ, zero, suc, ◌≤◌, ◌<◌}
use native.Mathlib.Omega.{arith}
use lib.Dec.{leb}
use lib.ListN.{length, take, replicate, length-replicate}
use borrow.Author.Tests.{leb-true}
use Rattle.rules.specs.declared.Network.{Network}
use Rattle.rules.specs.declared.Rule.{Rule}
use Rattle.rules.specs.declared.Refusal.{Refusal}
use Rattle.rules.specs.Verdict.{Verdict, Accepted, Refused, number_of}
use Rattle.rules.specs.Basics.{need, all, laid}
use Rattle.rules.specs.Limits.{file_length}
use Rattle.rules.specs.File.{Set, encode, header_of, set_of}
use Rattle.rules.specs.Building.{first_fit, highest, filled, built, spared, build_number}
use Rattle.rules.specs.Judgement.{refuse, and_then, judge, take_in, need_graph, need_cap, need_fit, need_room}
use Rattle.rules.specs.Answers.{LengthAnswer, tell, length_tells, tells}
use Rattle.rules.specs.Entries.Entry.{on_accept, Promise}
use Rattle.rules.specs.Entries.Build.{built_from, build_entry}
use Rattle.rules.proofs.Ground.Choices.{need_yes, need_no, need_ok, refuse_no, refuse_ok, refuse_zero, then_ok, then_no, then_both, then_assoc}
use Rattle.rules.proofs.Ground.Ruling.{number_some}
use Rattle.rules.proofs.File.SetOfBytes.{net_held}
use Rattle.rules.proofs.File.Records.{file_meets}
use Rattle.rules.proofs.File.Accepted as accepted
use Rattle.rules.proofs.File.TakenIn.{taken_file}
use Rattle.rules.proofs.Building.BuildNumber.{zero_exactly}
use Rattle.rules.proofs.Entries.Determined.{length_one}
use Rattle.layout.proofs.Places.{links_end}
use Rattle.topologyrules.proofs.Same.{WordsOf}
use Rattle.intake.specs.Graph.{neighbour_words}
use Rattle.intake.proofs.Graph.{words_of, accepted_few}
use Rattle.firstfit.specs.Fit.{all_spared, Placed}
use Rattle.firstfit.proofs.Fitted.{all_spared_same, passed_cap, all_placed, placed_homes}
use Rattle.slices.specs.Stores.{put}
use Rattle.filling.specs.Filled.{LinksIn, filled_file}
use Rattle.builder.specs.Answer.{Gives}
use Rattle.filling.proofs.Written.{written_is}

-- ---- the two ways of an answer

gives_refused : (v : Verdict) (S : Set) (d : List ℕ) (r : Refusal) → v ≡ Refused (number_of r.rule) r.place → Gives v S d (Err r) d
unfolding tells tell on_accept
gives_refused v S d r e = rw e (record { answer = refl; lent = refl })

gives_length : (v : Verdict) (S : Set) (d f : List ℕ) (bytes : ℕ) → v ≡ Accepted → bytes ≡ file_length S.net → f ≡ laid (encode S) d → Gives v S d (Ok bytes) f
unfolding tells tell on_accept
gives_length v S d f bytes e b l = rw e (record { answer = ap (λ (x : ℕ). length_tells (Ok x)) b; lent = l })

gives_on : (v w : Verdict) (S : Set) (d : List ℕ) (r : LengthAnswer) (f : List ℕ) → v ≡ Accepted → Gives w S d r f → Gives (and_then v w) S d r f
gives_on v w S d r f e g = rw (then_ok v w e) g

refuses : (number : ℕ) → (number ≡ 0 → ⊥) → refuse number 0 ≡ Refused number 0
refuses number h = sym (refuse_no number 0 h)

-- ---- finish

-- the links stand in the graph's file, and their ends have homes
pub links_in : (s homes : List ℕ) (net set : Network) (k : ℕ) → judge s ≡ Accepted → net ≡ header_of s → length homes ≡ net.n
    → set ≡ record { n = net.n; m = net.m; k = k; wmax = net.wmax } → LinksIn s set.m (length homes)
links_in s homes net set k a en el es =
    rw (es, el, en)
    (record {
      long = rw (file_meets s a).header.long (links_end (header_of s));
      a_below = λ l h. let e = ((file_meets s a).links l h).ends in omega arith;
      b_below = λ l h. ((file_meets s a).links l h).ends.1;
    })

module _ (s homes d : List ℕ) (net set : Network) (k bytes : ℕ) (en : net ≡ header_of s) (el : length homes ≡ net.n) (ek : k ≡ highest homes (length homes))
    (es : set ≡ record { n = net.n; m = net.m; k = k; wmax = net.wmax }) (eb : bytes ≡ file_length set) where
  set_is : set ≡ (filled (set_of s) homes).net
  unfolding filled set_of
  set_is = es ∙ rw (ek, el, en)

  long_is : bytes ≡ file_length (filled (set_of s) homes).net
  long_is = eb ∙ ap file_length set_is

  pub room_is : (v : Verdict) → v ≡ refuse (need (leb bytes (length d)) 14 0) 0 → v ≡ need_room (file_length (filled (set_of s) homes).net) d
  unfolding need_room
  room_is v ev = ev ∙ rw long_is

  -- the lent file has room
  pub room_there : Accepted ≡ refuse (need (leb bytes (length d)) 14 0) 0 → file_length set ≤ length d
  room_there t = rw (← eb) (leb-true bytes (length d) (need_ok (leb bytes (length d)) 13 0 (refuse_zero _ 0 (sym t))).0)

  pub no_room : (r : Refusal) → Refused (number_of r.rule) r.place ≡ refuse (need (leb bytes (length d)) 14 0) 0
      → Gives (need_room (file_length (filled (set_of s) homes).net) d) (filled (set_of s) homes) d (Err r) d
  no_room r t = gives_refused _ (filled (set_of s) homes) d r (sym (room_is _ t))

  pub room : (f : List ℕ) → Accepted ≡ refuse (need (leb bytes (length d)) 14 0) 0 → f ≡ put d 0 (filled_file s homes set)
      → Gives (need_room (file_length (filled (set_of s) homes).net) d) (filled (set_of s) homes) d (Ok bytes) f
  room f t ef =
      gives_length _ (filled (set_of s) homes) d f bytes (sym (room_is _ t)) long_is (ef ∙ written_is s homes d set set_is (room_there t))

words_are : (s nb : List ℕ) (net : Network) → judge s ≡ Accepted → net ≡ header_of s → nb ≡ neighbour_words s net.m → WordsOf (set_of s) nb
words_are s nb net a en eb = rw (eb, en) (words_of s (accepted_few s a))

-- ---- unplaced

pub some_one : (nb : List ℕ) (n : ℕ) (t : Bool) → t ≡ all_spared nb n n → t ≡ false → 9 ≡ need (all_spared nb n n) 9 10
some_one nb n t e f = need_no (all_spared nb n n) 9 10 9 (sym e ∙ f) refl

pub no_one : (nb : List ℕ) (n : ℕ) (t : Bool) → t ≡ all_spared nb n n → t ≡ true → 10 ≡ need (all_spared nb n n) 9 10
no_one nb n t e f = need_yes (all_spared nb n n) 9 10 10 (sym e ∙ f) refl

-- ---- fit

module _ (s nb homes d : List ℕ) (net : Network) (cap r : ℕ) (a : judge s ≡ Accepted) (en : net ≡ header_of s) (eb : nb ≡ neighbour_words s net.m)
    (P : Placed nb net.n cap homes r) where
  words : WordsOf (set_of s) nb
  words = words_are s nb net a en eb

  same_net : net ≡ (set_of s).net
  same_net = en ∙ sym (net_held s)

  placed_is : Placed nb (set_of s).net.n cap homes r
  placed_is = subst (λ (h : Network). Placed nb h.n cap homes r) same_net P

  -- a node is not placed: 9 or 10
  pub not_placed : (v : Verdict) (S : Set) (rule : Rule) (q : Refusal) → r < net.n → number_of rule ≡ need (all_spared nb net.n net.n) 9 10
      → q ≡ record { rule = rule; place = 0 } → Gives (and_then (need_fit (set_of s) cap) v) S d (Err q) d
  unfolding need_fit build_number need
  not_placed v S rule q h e eq =
      let number : ℕ = number_of rule in
      let f = passed_cap (set_of s) nb words cap homes r placed_is (subst (λ (x : Network). r < x.n) same_net h) in
      let t = subst (λ (x : Network). all_spared nb x.n x.n ≡ all (spared (set_of s)) (set_of s).net.n) (sym same_net) (all_spared_same (set_of s) nb words) in
      gives_refused (and_then (need_fit (set_of s) cap) v) S d q
      (then_no (need_fit (set_of s) cap) v number 0
      (ap (λ (x : ℕ). refuse x 0) (rw f (sym (e ∙ ap (λ (b : Bool). need b 9 10) t))) ∙ refuses number (number_some rule))
      ∙ ap (λ (x : Refusal). Refused (number_of x.rule) x.place) (sym eq))

  -- every node is placed: neither 9 nor 10
  pub all_fitted : (w : LengthAnswer) (f : List ℕ) → net.n ≤ r → Gives (need_room (file_length (filled (set_of s) homes).net) d) (filled (set_of s) homes) d w f
      → Gives (and_then (need_fit (set_of s) cap) (need_room (file_length (built (set_of s) cap).net) d)) (built (set_of s) cap) d w f
  unfolding built need_fit
  all_fitted w f h g =
      let h' : (set_of s).net.n ≤ r = subst (λ (x : Network). x.n ≤ r) same_net h in
      let q = all_placed (set_of s) nb words cap homes r placed_is h' in
      let e = placed_homes (set_of s) nb words cap homes r placed_is h' in
      gives_on (refuse (build_number (set_of s) cap) 0) (need_room (file_length (filled (set_of s) (first_fit (set_of s) cap)).net) d) (filled (set_of s) (first_fit (set_of s) cap)) d w f
      (sym (refuse_ok (build_number (set_of s) cap) 0 ((zero_exactly (set_of s) cap (accepted.judged s a).rules).1 q)))
      (subst (λ (x : List ℕ). Gives (need_room (file_length (filled (set_of s) x).net) d) (filled (set_of s) x) d w f) e g)

-- ---- build

module _ (s d f : List ℕ) (cap : ℕ) (r : LengthAnswer) where
  promised : Gives (and_then (and_then (take_in s) (and_then (need_graph (header_of s)) (need_cap cap))) (and_then (need_fit (set_of s) cap) (need_room (file_length (built (set_of s) cap).net) d))) (built (set_of s) cap) d r f
      → Promise build_entry (record { file = s; cap = cap }) d r f
  unfolding build_entry built_from
  promised g =
      let e =
      ap (and_then (take_in s)) (then_assoc (need_graph (header_of s)) (need_cap cap) (and_then (need_fit (set_of s) cap) (need_room (file_length (built (set_of s) cap).net) d)))
      ∙ then_assoc (take_in s) (and_then (need_graph (header_of s)) (need_cap cap)) (and_then (need_fit (set_of s) cap) (need_room (file_length (built (set_of s) cap).net) d)) in
      record {
        answer = g.answer ∙ ap (λ (v : Verdict). tell v (file_length (built (set_of s) cap).net ∷ [])) (sym e);
        lent = g.lent ∙ ap (λ (v : Verdict). on_accept v (laid (encode (built (set_of s) cap)) d) d) (sym e);
      }

  pub build_on : (h : Network) → h ≡ header_of s → Accepted ≡ take_in s → Accepted ≡ need_graph h → Accepted ≡ need_cap cap
      → Gives (and_then (need_fit (set_of s) cap) (need_room (file_length (built (set_of s) cap).net) d)) (built (set_of s) cap) d r f → Promise build_entry (record { file = s; cap = cap }) d r f
  build_on h eh t a c g =
      promised (gives_on (and_then (take_in s) (and_then (need_graph (header_of s)) (need_cap cap))) _ (built (set_of s) cap) d r f
      (then_both (take_in s) _ (sym t) (then_both (need_graph (header_of s)) (need_cap cap) (ap need_graph (sym eh) ∙ sym a) (sym c))) g)

pub graph_asked : (s : List ℕ) (h : Network) (v : Verdict) → h ≡ header_of s → v ≡ need_graph h → v ≡ need_graph (header_of s)
graph_asked s h v eh e = e ∙ ap need_graph eh

pub judged : (s : List ℕ) → Accepted ≡ take_in s → judge s ≡ Accepted
judged s t = taken_file s (sym t)

pub cap_most : (cap : ℕ) → Accepted ≡ need_cap cap → cap ≤ 32
unfolding need_cap
cap_most cap t =
    let p = need_ok (leb 1 cap) 10 (need (leb cap 32) 11 0) (refuse_zero (need (leb 1 cap) 11 (need (leb cap 32) 11 0)) 0 (sym t)) in
    leb-true cap 32 (need_ok (leb cap 32) 10 0 p.1).0

pub ruleset building = (graph_asked, judged, cap_most)

-- ---- the room for the homes

take_same : (n m x : ℕ) → n ≤ m → take n (replicate m x) ≡ replicate n x
take_same zero m x h = refl
take_same (suc n) zero x h = absurd (omega arith)
take_same (suc n) (suc m) x h = ap (λ (l : List ℕ). x ∷ l) (take_same n m x (omega arith))

pub none_placed : (n : ℕ) → n ≤ 32 → take {A = ℕ} n (replicate 32 0) ≡ replicate n 0
none_placed n h = take_same n 32 0 h

pub part_long : (n : ℕ) → n ≤ 32 → n ≡ length {A = ℕ} (take n (replicate 32 0))
part_long n h = sym (ap length (take_same n 32 0 h) ∙ length-replicate n 0)

-- two results that the promise allows coincide: the whole answer, and every byte of the file
pub one_part : (v : Verdict) (S : Set) (before after after' : List ℕ) (r r' : LengthAnswer) → Gives v S before r after → Gives v S before r' after' → (r ≡ r') × (after ≡ after')
one_part v S before after after' r r' p q = (length_one r r' (p.answer ∙ sym q.answer), p.lent ∙ sym q.lent)
