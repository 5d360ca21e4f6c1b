-- First fit over words is first fit of 01, for a graph and its neighbour words.
use mathlib.Core.Path.{◌≡◌, refl, sym, ap, ◌∙◌}
use mathlib.Core.Bool.{Bool, true, false, ◌&&◌, and-false}
use mathlib.Core.List.{List}
use Prim.Native.Nat.{ℕ, zero, suc, ◌≤◌, ◌<◌}
use native.Mathlib.Omega.{arith}
use lib.Dec.{eqb, ltb, leb}
use lib.ListN.{length, get_or, set}
use borrow.Author.Tests.{eqb-true, lt-ltb, le-leb, leb-true}
use Rattle.rules.specs.Basics.{all}
use Rattle.rules.specs.File.{Set}
use Rattle.rules.specs.Isolation.{joins, link_between, neighbours, home, isolated, isolated_word}
use Rattle.rules.specs.Building.{with_homes, homeless, admits, first_topology, homes_after, first_fit, fits, spared}
use Rattle.rules.proofs.Ground.Choices.{false_of}
use Rattle.rules.proofs.Ground.Numbers.{all_at, all_of, all_ext, lowest_ext}
use Rattle.rules.proofs.Isolation.Removal.{alone_isolates}
use Rattle.rules.proofs.Building.FirstFit.{homes_long, placed}
use Rattle.words.specs.Word.{only}
use Rattle.words.proofs.Members.{has_ext, has_one, word_ext, only_fits}
use Rattle.topologyrules.specs.Topology.{backbone_word, connected_by, number_by}
use Rattle.topologyrules.proofs.Same.{WordsOf, has_isolated, isolated_fits, connected_same, number_same}
use Rattle.firstfit.specs.Fit.{spared_by, all_spared, isolated_by, word_admits, admits_by, first_by, homes_by, Placed}
use Rattle.firstfit.proofs.Placing.{isolated_adding}

module _ (G : Set) (nb : List ℕ) (W : WordsOf G nb) where
  -- homes change no neighbour
  words_with : (homes : List ℕ) → WordsOf (with_homes G homes) nb
  unfolding with_homes neighbours link_between joins
  words_with homes = record { few = W.few; each = W.each }

  -- ---- 9

  alone_word : (v : ℕ) → v < G.net.n → isolated_word (with_homes G (set (homeless G) v 1)) 1 ≡ only v
  unfolding with_homes
  alone_word v l =
      let few = W.few in
      has_ext 32 (isolated_word S 1) (only v) (isolated_fits S 1 W.few) (only_fits v (omega arith))
      (λ x lx. has_isolated S 1 W.few x ∙ ap (λ (t : Bool). ltb x G.net.n && t) (alone_isolates G v l x) ∙ low x (eqb x v) refl ∙ sym (has_one v x))
    where
      S : Set
      S = with_homes G (set (homeless G) v 1)

      low : (x : ℕ) (t : Bool) → eqb x v ≡ t → (ltb x G.net.n && eqb x v) ≡ eqb x v
      low x true e = rw (e, eqb-true x v e, lt-ltb v G.net.n l)
      low x false e = rw e (and-false (ltb x G.net.n))

  spared_same : (v : ℕ) → v < G.net.n → spared_by nb G.net.n v ≡ spared G v
  unfolding spared_by spared with_homes
  spared_same v l =
      ap (λ (o : ℕ). connected_by nb (backbone_word G.net.n o)) (sym (alone_word v l))
      ∙ connected_same (with_homes G (set (homeless G) v 1)) 1 nb (words_with (set (homeless G) v 1))

  pub all_spared_same : all_spared nb G.net.n G.net.n ≡ all (spared G) G.net.n
  unfolding all_spared
  all_spared_same = all_ext (spared_by nb G.net.n) (spared G) G.net.n spared_same

  -- ---- 10

  isolated_is : (homes : List ℕ) (i : ℕ) → 1 ≤ i → isolated_by homes G.net.n i ≡ isolated_word (with_homes G homes) i
  unfolding isolated_by isolated_word isolated home with_homes
  isolated_is homes i h =
      word_ext (λ u. eqb (get_or homes u 0) i) (λ u. leb 1 i && eqb (get_or homes u 0) i) G.net.n (λ u l. ap (λ (t : Bool). t && eqb (get_or homes u 0) i) (sym (le-leb 1 i h)))

  admits_same : (homes : List ℕ) (i v : ℕ) → length homes ≡ G.net.n → v < G.net.n → 1 ≤ i → admits_by nb G.net.n homes i v ≡ admits G homes i v
  unfolding admits_by word_admits admits with_homes
  admits_same homes i v long l h =
      ap (λ (w : ℕ). eqb (number_by nb G.net.n w) 0) (isolated_adding homes G.net.n v i W.few l long ∙ isolated_is (set homes v i) i h)
      ∙ ap (λ (x : ℕ). eqb x 0) (number_same (with_homes G (set homes v i)) i nb (words_with (set homes v i)))

  module _ (cap : ℕ) where
    first_same : (homes : List ℕ) (v : ℕ) → length homes ≡ G.net.n → v < G.net.n → first_by nb G.net.n cap homes v ≡ first_topology G cap homes v
    unfolding first_by first_topology
    first_same homes v long l =
        ap suc (lowest_ext (λ j. admits_by nb G.net.n homes (suc j) v) (λ j. admits G homes (suc j) v) cap cap (λ j lj. admits_same homes (suc j) v long l (omega arith)))

    homes_same : (v : ℕ) → v ≤ G.net.n → homes_by nb G.net.n cap v ≡ homes_after G cap v
    unfolding homes_by homes_after homeless
    homes_same zero h = refl
    homes_same (suc v) h =
        let e = homes_same v (omega arith) in
        rw e (ap (set (homes_after G cap v) v) (first_same (homes_after G cap v) v (homes_long G cap v) (omega arith)))

    -- node v's home in first fit
    given_is : (v : ℕ) → v < G.net.n → first_by nb G.net.n cap (homes_by nb G.net.n cap v) v ≡ get_or (first_fit G cap) v 0
    unfolding first_fit
    given_is v l = rw (homes_same v (omega arith)) (first_same (homes_after G cap v) v (homes_long G cap v) l ∙ sym (placed G cap G.net.n v l (omega arith)))

    pub passed_cap : (homes : List ℕ) (r : ℕ) → Placed nb G.net.n cap homes r → r < G.net.n → fits G cap ≡ false
    unfolding fits
    passed_cap homes r P l =
        false_of (all (λ v. leb (get_or (first_fit G cap) v 0) cap) G.net.n)
        (λ q. let a = leb-true (get_or (first_fit G cap) r 0) cap (all_at (λ v. leb (get_or (first_fit G cap) v 0) cap) G.net.n q r l) in let b = P.passed l in let e = given_is r l in omega arith)

    pub all_placed : (homes : List ℕ) (r : ℕ) → Placed nb G.net.n cap homes r → G.net.n ≤ r → fits G cap ≡ true
    unfolding fits
    all_placed homes r P l =
        all_of (λ v. leb (get_or (first_fit G cap) v 0) cap) G.net.n
        (λ v h. le-leb (get_or (first_fit G cap) v 0) cap (let a = P.each v (omega arith) in let e = given_is v h in omega arith))

    pub placed_homes : (homes : List ℕ) (r : ℕ) → Placed nb G.net.n cap homes r → G.net.n ≤ r → homes ≡ first_fit G cap
    unfolding first_fit
    placed_homes homes r P l =
        let w = P.within in
        let e : r ≡ G.net.n = omega arith in
        P.homes_are ∙ ap (homes_by nb G.net.n cap) e ∙ homes_same G.net.n (omega arith)
