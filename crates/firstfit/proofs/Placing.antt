-- First fit as it runs: what the proofs of its functions cite.
use mathlib.Core.Path.{◌≡◌, refl, sym, ap, subst, ◌∙◌}
use mathlib.Core.Bool.{Bool, true, false, ◌&&◌, ◌||◌, and-false, or-true, or-false, true≢false}
use mathlib.Core.List.{List}
use Prim.Native.Nat.{ℕ, suc, ◌+◌, ◌-◌, ◌≤◌, ◌<◌, max}
use native.Mathlib.Numerals.{add-one}
use native.Mathlib.Omega.{arith}
use lib.Dec.{eqb, ltb}
use lib.ListN.{length, get_or, set, replicate, length-set, length-replicate}
use lib.Seq.{get_or-set_same, get_or-set_other}
use borrow.Author.Tests.{eqb-true, eqb-false, eq-eqb, ne_eqb, lt-ltb}
use Rattle.std.specs.Prelude.{Result, is_ok}
use Rattle.rules.specs.declared.Rule.{Rule}
use Rattle.rules.specs.Verdict.{broken}
use Rattle.rules.proofs.Ground.Ruling.{unbroken}
use Rattle.rules.specs.Basics.{all, lowest}
use Rattle.rules.specs.Isolation.{word}
use Rattle.rules.specs.Building.{highest}
use Rattle.rules.proofs.Ground.Choices.{and_of, false_of}
use Rattle.rules.proofs.Ground.Numbers.{all_at, lowest_none, lowest_one}
use Rattle.rules.proofs.Isolation.Removal.{homeless_at}
use Rattle.words.specs.Word.{adding, only}
use Rattle.words.proofs.Members.{has_ext, has_none, has_word, has_adding, adding_fits, word_fits, word_ext}
use Rattle.topologyrules.specs.Entered.{entered}
use Rattle.topologyrules.specs.Topology.{backbone_word, connected_by, number_by}
use Rattle.firstfit.specs.Fit.{spared_by, all_spared, isolated_by, word_admits, admits_by, first_by, homes_by, Placed}

-- ---- spared, all_spared

pub spared_at : (nb : List ℕ) (n v o bb : ℕ) (t : Bool) → o ≡ only v → bb ≡ backbone_word n o → t ≡ connected_by nb bb → t ≡ spared_by nb n v
unfolding spared_by
spared_at nb n v o bb t eo eb et = et ∙ rw (eb, eo)

pub spared_none : (nb : List ℕ) (n : ℕ) → all_spared nb n 0 ≡ true
unfolding all_spared all
spared_none nb n = refl

pub spared_on : (nb : List ℕ) (n v : ℕ) (t : Bool) → all_spared nb n v ≡ true → t ≡ spared_by nb n v → t ≡ true → all_spared nb n (v + 1) ≡ true
unfolding all_spared all
spared_on nb n v t e es p = rw (add-one, all, e, ← es) p

pub spared_out : (nb : List ℕ) (n v k : ℕ) (t : Bool) → t ≡ spared_by nb n v → t ≡ false → v < k → false ≡ all_spared nb n k
unfolding all_spared
spared_out nb n v k t es p l = sym (false_of (all (spared_by nb n) k) (λ e. true≢false (sym (all_at (spared_by nb n) k e v l) ∙ sym es ∙ p)))

pub spared_done : (nb : List ℕ) (n v k : ℕ) → all_spared nb n v ≡ true → v ≤ k → k ≤ v → true ≡ all_spared nb n k
spared_done nb n v k e h g = let q : v ≡ k = omega arith in sym e ∙ ap (all_spared nb n) q

-- ---- admits

pub admits_at : (nb isos : List ℕ) (n i v at iso : ℕ) (r : Result (Unit {0}) Rule) (t : Bool) → at ≡ i - 1 → iso ≡ adding (get_or isos at 0) v → broken r ≡ number_by nb n iso → t ≡ is_ok r
    → t ≡ word_admits nb n (get_or isos (i - 1) 0) v
unfolding word_admits
admits_at nb isos n i v at iso r t ea ei er et = et ∙ unbroken r ∙ rw (er, ei, ea)

-- ---- the words of the topologies

-- entry i is the isolated word of topology i + 1
pub record Isos (homes isos : List ℕ) (n : ℕ) : Type 0 where
  pub each : (i : ℕ) → i < 32 → get_or isos i 0 ≡ isolated_by homes n (suc i)

isos_none : (n : ℕ) → n ≤ 32 → Isos (replicate n 0) (replicate 32 0) n
unfolding isolated_by
isos_none n few =
    record {
      each = λ i l. homeless_at 32 i ∙ sym (has_ext 32 (word (λ u. eqb (get_or (replicate n 0) u 0) (suc i)) n) 0 (word_fits (λ u. eqb (get_or (replicate n 0) u 0) (suc i)) n few) (omega arith)
          (λ v lv. has_word (λ u. eqb (get_or (replicate n 0) u 0) (suc i)) n v ∙ ap (λ (t : Bool). ltb v n && t) (ne_eqb (get_or (replicate n 0) v 0) (suc i) (λ z. let q = homeless_at n v in omega arith)) ∙ and-false (ltb v n) ∙ sym (has_none v)));
    }

-- with v at home in i, i's word has v too, and no other word changes
pub isolated_adding : (homes : List ℕ) (n v i : ℕ) → n ≤ 32 → v < n → length homes ≡ n → adding (isolated_by homes n i) v ≡ isolated_by (set homes v i) n i
unfolding isolated_by
isolated_adding homes n v i few l long =
    has_ext 32 (adding (word p n) v) (word q n) (adding_fits (word p n) v (word_fits p n few) (omega arith)) (word_fits q n few)
    (λ u lu. has_adding (word p n) v u ∙ ap (λ (t : Bool). t || eqb u v) (has_word p n u) ∙ go u (eqb u v) refl ∙ sym (has_word q n u))
  where
    p : ℕ → Bool
    p u = eqb (get_or homes u 0) i

    q : ℕ → Bool
    q u = eqb (get_or (set homes v i) u 0) i

    go : (u : ℕ) (t : Bool) → eqb u v ≡ t → ((ltb u n && p u) || eqb u v) ≡ (ltb u n && q u)
    go u true e =
        let s = eqb-true u v e in
        rw (e, s) (or-true (ltb v n && p v) ∙ sym (and_of (ltb v n) (q v) (lt-ltb v n l) (eq-eqb (get_or (set homes v i) v 0) i (get_or-set_same homes v i 0 (omega arith)))))
    go u false e = rw e (or-false (ltb u n && p u) ∙ ap (λ (x : ℕ). ltb u n && eqb x i) (sym (get_or-set_other homes v u i 0 (eqb-false u v e))))

isolated_same : (homes : List ℕ) (n v i home : ℕ) → v < n → length homes ≡ n → get_or homes v 0 ≡ 0 → (home ≡ i → ⊥) → (i ≡ 0 → ⊥) → isolated_by homes n i ≡ isolated_by (set homes v home) n i
unfolding isolated_by
isolated_same homes n v i home l long z ne nz = word_ext (λ u. eqb (get_or homes u 0) i) (λ u. eqb (get_or (set homes v home) u 0) i) n (λ u lu. go u (eqb u v) refl)
  where
    go : (u : ℕ) (t : Bool) → eqb u v ≡ t → eqb (get_or homes u 0) i ≡ eqb (get_or (set homes v home) u 0) i
    go u true e =
        let s = eqb-true u v e in
        rw (s, z, get_or-set_same homes v home 0 (omega arith), ne_eqb home i ne) (ne_eqb 0 i (λ y. nz (sym y)))
    go u false e = ap (λ (x : ℕ). eqb x i) (sym (get_or-set_other homes v u home 0 (eqb-false u v e)))

isos_more : (homes isos new : List ℕ) (n v home : ℕ) → Isos homes isos n → n ≤ 32 → length isos ≡ 32 → v < n → length homes ≡ n → get_or homes v 0 ≡ 0 → 1 ≤ home → home ≤ 32
    → new ≡ entered isos (home - 1) v → Isos (set homes v home) new n
unfolding entered
isos_more homes isos new n v home I few wide l long z lo hi e = record { each = λ i li. ap (λ (w : List ℕ). get_or w i 0) e ∙ go i li (eqb i (home - 1)) refl }
  where
    go : (i : ℕ) → i < 32 → (t : Bool) → eqb i (home - 1) ≡ t → get_or (set isos (home - 1) (adding (get_or isos (home - 1) 0) v)) i 0 ≡ isolated_by (set homes v home) n (suc i)
    go i li true q =
        let s = eqb-true i (home - 1) q in
        let h : suc i ≡ home = omega arith in
        rw (h, ← s) (get_or-set_same isos i (adding (get_or isos i 0) v) 0 (omega arith) ∙ ap (λ (w : ℕ). adding w v) (I.each i li ∙ ap (isolated_by homes n) h) ∙ isolated_adding homes n v home few l long)
    go i li false q =
        let s = eqb-false i (home - 1) q in
        get_or-set_other isos (home - 1) i (adding (get_or isos (home - 1) 0) v) 0 s ∙ I.each i li ∙ isolated_same homes n v (suc i) home l long z (λ y. omega arith) (λ y. omega arith)

-- ---- the inner search

pub record Tried (nb : List ℕ) (n cap : ℕ) (homes : List ℕ) (v i : ℕ) : Type 0 where
  pub low : 1 ≤ i
  pub high : i ≤ cap + 1
  pub none : (j : ℕ) → suc j < i → admits_by nb n homes (suc j) v ≡ false

pub tried_none : (nb homes : List ℕ) (n cap v : ℕ) → Tried nb n cap homes v 1
tried_none nb homes n cap v = record { low = omega arith; high = omega arith; none = λ j l. absurd (omega arith) }

admits_is : (nb homes isos : List ℕ) (n v i : ℕ) (t : Bool) → Isos homes isos n → 1 ≤ i → i ≤ 32 → t ≡ word_admits nb n (get_or isos (i - 1) 0) v → t ≡ admits_by nb n homes i v
unfolding admits_by
admits_is nb homes isos n v i t I lo hi e =
    let s : suc (i - 1) ≡ i = omega arith in
    e ∙ ap (λ (w : ℕ). word_admits nb n w v) (I.each (i - 1) (omega arith) ∙ ap (isolated_by homes n) s)

pub tried_more : (nb homes isos : List ℕ) (n cap v i : ℕ) (t : Bool) → Tried nb n cap homes v i → Isos homes isos n → cap ≤ 32 → i ≤ cap → t ≡ word_admits nb n (get_or isos (i - 1) 0) v → t ≡ false
    → Tried nb n cap homes v (i + 1)
tried_more nb homes isos n cap v i t T I few h e p = record { low = omega arith; high = omega arith; none = λ j l. go j l (eqb (suc j) i) refl }
  where
    go : (j : ℕ) → suc j < i + 1 → (b : Bool) → eqb (suc j) i ≡ b → admits_by nb n homes (suc j) v ≡ false
    go j l true q = rw (eqb-true (suc j) i q) (sym (admits_is nb homes isos n v i t I T.low (omega arith) e) ∙ p)
    go j l false q = let ne = eqb-false (suc j) i q in T.none j (omega arith)

module _ (nb homes : List ℕ) (n cap v i : ℕ) (T : Tried nb n cap homes v i) where
  tried_found : i ≤ cap → admits_by nb n homes i v ≡ true → i ≡ first_by nb n cap homes v
  unfolding first_by
  tried_found h e =
      let low = T.low in
      let s : suc (i - 1) ≡ i = omega arith in
      let f : lowest (λ j. admits_by nb n homes (suc j) v) cap cap ≡ i - 1 =
      lowest_one (λ j. admits_by nb n homes (suc j) v) cap cap (i - 1) (omega arith) (ap (λ (x : ℕ). admits_by nb n homes x v) s ∙ e) (λ j l. T.none j (omega arith)) in
      omega arith

  tried_out : cap < i → cap < first_by nb n cap homes v
  unfolding first_by
  tried_out h =
      let f = lowest_none (λ j. admits_by nb n homes (suc j) v) cap cap (λ j l. T.none j (omega arith)) in
      omega arith

-- ---- the nodes in order

pub record Placing (nb : List ℕ) (n cap : ℕ) (homes isos : List ℕ) (v : ℕ) : Type 0 where
  pub long : length homes ≡ n
  pub wide : length isos ≡ 32
  pub words : Isos homes isos n
  pub homes_are : homes ≡ homes_by nb n cap v
  pub later : (u : ℕ) → v ≤ u → get_or homes u 0 ≡ 0
  pub each : (u : ℕ) → u < v → first_by nb n cap (homes_by nb n cap u) u ≤ cap

pub placing_none : (nb homes : List ℕ) (n cap : ℕ) → homes ≡ replicate n 0 → n ≤ 32 → Placing nb n cap homes (replicate 32 0) 0
unfolding homes_by
placing_none nb homes n cap e few =
    rw e (record { long = length-replicate {A = ℕ} n 0; wide = length-replicate {A = ℕ} 32 0; words = isos_none n few; homes_are = refl; later = λ u l. homeless_at n u; each = λ u l. absurd (omega arith) })

placing_there : (nb homes isos new : List ℕ) (n cap v i : ℕ) (t : Bool) → Placing nb n cap homes isos v → Tried nb n cap homes v i → n ≤ 32 → v < n → cap ≤ 32 → i ≤ cap
    → t ≡ word_admits nb n (get_or isos (i - 1) 0) v → t ≡ true → new ≡ entered isos (i - 1) v → Placing nb n cap (set homes v i) new (v + 1)
unfolding homes_by entered
placing_there nb homes isos new n cap v i t P T few lv small h ea p e =
    let lo = T.low in
    let a = admits_is nb homes isos n v i t P.words lo (omega arith) ea in
    let q = tried_found nb homes n cap v i T h (sym a ∙ p) in
    record {
      long = length-set homes v i ∙ P.long;
      wide = ap length e ∙ length-set isos (i - 1) (adding (get_or isos (i - 1) 0) v) ∙ P.wide;
      words = isos_more homes isos new n v i P.words few P.wide lv P.long (P.later v (omega arith)) lo (omega arith) e;
      homes_are = (let r : set homes v i ≡ set (homes_by nb n cap v) v (first_by nb n cap (homes_by nb n cap v) v) = rw (← P.homes_are, ← q) in rw (add-one, homes_by) r);
      later = λ u l. get_or-set_other homes v u i 0 (λ z. omega arith) ∙ P.later u (omega arith);
      each = λ u l. go q u l (eqb u v) refl;
    }
  where
    go : i ≡ first_by nb n cap homes v → (u : ℕ) → u < v + 1 → (b : Bool) → eqb u v ≡ b → first_by nb n cap (homes_by nb n cap u) u ≤ cap
    go q u l true z = rw (eqb-true u v z, ← P.homes_are, ← q) h
    go q u l false z = let ne = eqb-false u v z in P.each u (omega arith)

pub placing_more : (nb homes isos new : List ℕ) (n cap v at i : ℕ) (t : Bool) → at ≡ v → Placing nb n cap homes isos v → Tried nb n cap homes v i → n ≤ 32 → v < n → cap ≤ 32 → i ≤ cap
    → t ≡ word_admits nb n (get_or isos (i - 1) 0) v → t ≡ true → new ≡ entered isos (i - 1) v → Placing nb n cap (set homes at i) new (v + 1)
placing_more nb homes isos new n cap v at i t w P T few lv small h ea p e =
    subst (λ (x : ℕ). Placing nb n cap (set homes x i) new (v + 1)) (sym w) (placing_there nb homes isos new n cap v i t P T few lv small h ea p e)

pub placed_all : (nb homes isos : List ℕ) (n cap v r : ℕ) → r ≡ v → Placing nb n cap homes isos v → v ≤ n → n ≤ v → Placed nb n cap homes r
placed_all nb homes isos n cap v r e P h g =
    subst (Placed nb n cap homes) (sym e) (record { within = h; long = P.long; homes_are = P.homes_are; each = P.each; passed = λ l. absurd (omega arith) })

pub placed_part : (nb homes isos : List ℕ) (n cap v i r : ℕ) → r ≡ v → Placing nb n cap homes isos v → v < n → Tried nb n cap homes v i → cap < i → Placed nb n cap homes r
placed_part nb homes isos n cap v i r e P h T g =
    subst (Placed nb n cap homes) (sym e) (record { within = omega arith; long = P.long; homes_are = P.homes_are; each = P.each; passed = λ l. rw (← P.homes_are) (tried_out nb homes n cap v i T g) })

-- ---- highest

pub highest_none : (homes : List ℕ) → 0 ≡ highest homes 0
unfolding highest
highest_none homes = refl

pub highest_more : (homes : List ℕ) (v t r : ℕ) → t ≡ highest homes v → r ≡ max t (get_or homes v 0) → r ≡ highest homes (v + 1)
unfolding highest
highest_more homes v t r et er = er ∙ rw (et, add-one)

pub highest_done : (homes : List ℕ) (v t : ℕ) → t ≡ highest homes v → v ≤ length homes → length homes ≤ v → t ≡ highest homes (length homes)
highest_done homes v t e h g = let q : v ≡ length homes = omega arith in e ∙ ap (highest homes) q

-- no node before the one that finds no home is without one
not_fewer : (nb : List ℕ) (n cap r r' : ℕ) (homes homes' : List ℕ) → Placed nb n cap homes r → Placed nb n cap homes' r' → r < r' → ⊥
not_fewer nb n cap r r' homes homes' p q l = omega (arith, p.passed (omega (arith, q.within)), q.each r l)

-- two results that the promise allows coincide: how many nodes are placed, and every home
pub one_placing : (nb : List ℕ) (n cap r r' : ℕ) (homes homes' : List ℕ) → Placed nb n cap homes r → Placed nb n cap homes' r' → (r ≡ r') × (homes ≡ homes')
one_placing nb n cap r r' homes homes' p q =
    let a = not_fewer nb n cap r r' homes homes' p q in
    let b = not_fewer nb n cap r' r homes' homes q p in
    let e : r ≡ r' = omega (arith, a, b) in
    (e, p.homes_are ∙ ap (homes_by nb n cap) e ∙ sym q.homes_are)
