-- First fit: with cap n it succeeds exactly where removing any one node leaves the others connected, and each topology it fills meets the rules.
use mathlib.Core.Path.{◌≡◌, refl, sym, subst, ◌∙◌}
use mathlib.Core.Bool.{Bool, true, false}
use mathlib.Core.Logic.{◌⊎◌, inl, inr}
use mathlib.Core.List.{List}
use Prim.Native.Nat.{ℕ, zero, suc, ◌≤◌, ◌<◌}
use native.Mathlib.Omega.{arith}
use lib.Dec.{eqb, ltb, leb}
use lib.ListN.{length, get_or, set, length-set, length-replicate}
use lib.Seq.{get_or-set_same, get_or-set_other}
use borrow.Author.Tests.{ltb-true, ltb-false, leb-true, le-leb, eqb-true, eqb-false, eq-eqb}
use Rattle.rules.specs.Basics.{any, lowest}
use Rattle.rules.specs.File.{Set}
use Rattle.rules.specs.Isolation.{joins, link_between, neighbours, home, isolated, topology_number}
use Rattle.rules.specs.Building.{with_homes, homeless, admits, first_topology, homes_after, first_fit, fits}
use Rattle.rules.specs.Sets.{MeetsRules, Sound}
use Rattle.rules.specs.Demands.Building.{avoiding, Removable, BuiltExactly}
use Rattle.rules.proofs.Ground.Choices.{and_of, and_right, clash}
use Rattle.rules.proofs.Ground.Numbers.{all_at, all_of, any_at, any_of, lowest_found, lowest_is}
use Rattle.rules.proofs.Isolation.Sound.{number_sound, sound_number, fewer_isolated}
use Rattle.rules.proofs.Isolation.Removal.{homeless_at, alone_isolates, alone_sound, sound_removable}

-- ---- one graph under several homes

module _ (G : Set) where
  -- homes that isolate fewer nodes in j than others do in i
  pub homes_fewer : (homes less : List ℕ) (i j : ℕ) → ((v : ℕ) → v < G.net.n → isolated (with_homes G less) j v ≡ true → isolated (with_homes G homes) i v ≡ true)
      → Sound (with_homes G homes) i → Sound (with_homes G less) j
  unfolding neighbours link_between joins with_homes
  homes_fewer homes less i j h s =
      fewer_isolated (with_homes G homes) (with_homes G less) i j (record { nodes = refl; links = λ u w. refl; fewer = h }) s

  isolated_home : (homes : List ℕ) (i v : ℕ) → isolated (with_homes G homes) i v ≡ true → get_or homes v 0 ≡ i
  unfolding isolated home with_homes
  isolated_home homes i v e = eqb-true (get_or homes v 0) i (and_right (leb 1 i) (eqb (get_or homes v 0) i) e)

  home_isolated : (homes : List ℕ) (i v : ℕ) → 1 ≤ i → get_or homes v 0 ≡ i → isolated (with_homes G homes) i v ≡ true
  unfolding isolated home with_homes
  home_isolated homes i v one e = and_of (leb 1 i) (eqb (get_or homes v 0) i) (le-leb 1 i one) (eq-eqb (get_or homes v 0) i e)

-- ---- the homes as they are given

module _ (G : Set) (cap : ℕ) where
  abbrev pub given : ℕ → ℕ
  given v = first_topology G cap (homes_after G cap v) v

  pub homes_long : (v : ℕ) → length (homes_after G cap v) ≡ G.net.n
  unfolding homes_after homeless
  homes_long zero = length-replicate G.net.n 0
  homes_long (suc v) = length-set (homes_after G cap v) v (given v) ∙ homes_long v

  pub unplaced : (v x : ℕ) → v ≤ x → get_or (homes_after G cap v) x 0 ≡ 0
  unfolding homes_after homeless
  unplaced zero x h = homeless_at G.net.n x
  unplaced (suc v) x h = get_or-set_other (homes_after G cap v) v x (given v) 0 (λ z. omega arith) ∙ unplaced v x (omega arith)

  pub placed : (v x : ℕ) → x < v → v ≤ G.net.n → get_or (homes_after G cap v) x 0 ≡ given x
  unfolding homes_after
  placed zero x l h = absurd (omega arith)
  placed (suc v) x l h = pick (λ g. placed v x g (omega arith)) (eqb x v) refl
    where
      pick : (x < v → get_or (homes_after G cap v) x 0 ≡ given x) → (t : Bool) → eqb x v ≡ t → get_or (set (homes_after G cap v) v (given v)) x 0 ≡ given x
      pick r true e = rw (eqb-true x v e) (get_or-set_same (homes_after G cap v) v (given v) 0 (let q = homes_long v in omega arith))
      pick r false e = let ne = eqb-false x v e in get_or-set_other (homes_after G cap v) v x (given v) 0 ne ∙ r (omega arith)

  given_low : (homes : List ℕ) (v : ℕ) → 1 ≤ first_topology G cap homes v
  unfolding first_topology
  given_low homes v = omega arith

  -- a topology within the cap admits its node
  pub given_admits : (homes : List ℕ) (v : ℕ) → first_topology G cap homes v ≤ cap → Sound (with_homes G (set homes v (first_topology G cap homes v))) (first_topology G cap homes v)
  unfolding first_topology admits
  given_admits homes v h = pick (lowest_is (λ j. admits G homes (suc j) v) cap cap)
    where
      least : ℕ
      least = lowest (λ j. admits G homes (suc j) v) cap cap

      pick : (least ≡ cap) ⊎ ((least < cap) × (admits G homes (suc least) v ≡ true)) → Sound (with_homes G (set homes v (suc least))) (suc least)
      pick (inl e) = absurd (omega arith)
      pick (inr e) = number_sound (with_homes G (set homes v (suc least))) (suc least) (eqb-true (topology_number (with_homes G (set homes v (suc least))) (suc least)) 0 e.1)

  -- ---- where any one node can be removed, a fresh topology admits each node: no home passes the number of nodes placed

  module _ (R : MeetsRules G) (O : Removable G) where
    fresh : (homes : List ℕ) (v : ℕ) → v < G.net.n → ((x : ℕ) → get_or homes x 0 ≤ v) → admits G homes (suc v) v ≡ true
    unfolding admits
    fresh homes v lv low =
        eq-eqb (topology_number (with_homes G (set homes v (suc v))) (suc v)) 0
        (sound_number (with_homes G (set homes v (suc v))) (suc v) (homes_fewer G (set (homeless G) v 1) (set homes v (suc v)) 1 (suc v) (λ x l e. alone_isolates G v lv x ∙ only x e (eqb x v) refl) (alone_sound G R O v lv)))
      where
        only : (x : ℕ) → isolated (with_homes G (set homes v (suc v))) (suc v) x ≡ true → (t : Bool) → eqb x v ≡ t → eqb x v ≡ true
        only x e true q = q
        only x e false q =
            let a = isolated_home G (set homes v (suc v)) (suc v) x e in
            let b = get_or-set_other homes v x (suc v) 0 (eqb-false x v q) in
            let c = low x in
            absurd (omega arith)

    given_high : (homes : List ℕ) (v : ℕ) → v < G.net.n → ((x : ℕ) → get_or homes x 0 ≤ v) → first_topology G cap homes v ≤ suc v
    unfolding first_topology
    given_high homes v lv low = pick (ltb v cap) refl (lowest_is (λ j. admits G homes (suc j) v) cap cap)
      where
        least : ℕ
        least = lowest (λ j. admits G homes (suc j) v) cap cap

        pick : (t : Bool) → ltb v cap ≡ t → (least ≡ cap) ⊎ ((least < cap) × (admits G homes (suc least) v ≡ true)) → suc least ≤ suc v
        pick true e q = let f = lowest_found (λ j. admits G homes (suc j) v) cap cap v (ltb-true v cap e) (fresh homes v lv low) in omega (arith, f.0)
        pick false e (inl q) = let l = ltb-false v cap e in omega arith
        pick false e (inr q) = let l = ltb-false v cap e in omega (arith, q.0)

    homes_high : (v x : ℕ) → v ≤ G.net.n → get_or (homes_after G cap v) x 0 ≤ v
    unfolding homes_after homeless
    homes_high zero x h = let q = homeless_at G.net.n x in omega arith
    homes_high (suc v) x h = pick (λ y. homes_high v y (omega arith)) (eqb x v) refl
      where
        pick : ((y : ℕ) → get_or (homes_after G cap v) y 0 ≤ v) → (t : Bool) → eqb x v ≡ t → get_or (set (homes_after G cap v) v (given v)) x 0 ≤ suc v
        pick r true e =
            let same = eqb-true x v e in
            let a = get_or-set_same (homes_after G cap v) v (given v) 0 (let q = homes_long v in omega arith) in
            let b = given_high (homes_after G cap v) v (omega arith) r in
            rw same (omega arith)
        pick r false e =
            let a = get_or-set_other (homes_after G cap v) v x (given v) 0 (eqb-false x v e) in
            let b = r x in
            omega arith

    -- no home passes n, whatever the cap; so a cap of n or more is enough
    pub home_n : (v : ℕ) → get_or (first_fit G cap) v 0 ≤ G.net.n
    unfolding first_fit
    home_n v = homes_high G.net.n v (omega arith)

    pub succeeds : G.net.n ≤ cap → fits G cap ≡ true
    unfolding fits
    succeeds h = all_of (λ v. leb (get_or (first_fit G cap) v 0) cap) G.net.n (λ v l. le-leb (get_or (first_fit G cap) v 0) cap (let q = home_n v in omega arith))

  -- ---- where every node found a topology

  module _ (ok : fits G cap ≡ true) where
    pub home_high : (v : ℕ) → v < G.net.n → get_or (first_fit G cap) v 0 ≤ cap
    unfolding fits
    home_high v l = leb-true (get_or (first_fit G cap) v 0) cap (all_at (λ x. leb (get_or (first_fit G cap) x 0) cap) G.net.n ok v l)

    pub home_low : (v : ℕ) → v < G.net.n → 1 ≤ get_or (first_fit G cap) v 0
    unfolding first_fit
    home_low v l = let a = placed G.net.n v l (omega arith) in let b = given_low (homes_after G cap v) v in omega arith

    pub within : (v : ℕ) → v < G.net.n → first_topology G cap (homes_after G cap v) v ≤ cap
    unfolding first_fit
    within v l = let a = placed G.net.n v l (omega arith) in let b = home_high v l in omega arith

    -- a topology that isolates a node meets the rules after each placement
    kept : (v : ℕ) → v ≤ G.net.n → (i x : ℕ) → 1 ≤ i → isolated (with_homes G (homes_after G cap v)) i x ≡ true → Sound (with_homes G (homes_after G cap v)) i
    unfolding homes_after
    kept zero h i x one e = let a = isolated_home G (homes_after G cap 0) i x e in let b = unplaced 0 x (omega arith) in absurd (omega arith)
    kept (suc v) h i x one e = pick (kept v (omega arith) i x one) (eqb (given v) i) refl
      where
        before : (given v ≡ i → ⊥) → (y : ℕ) → isolated (with_homes G (set (homes_after G cap v) v (given v))) i y ≡ true → isolated (with_homes G (homes_after G cap v)) i y ≡ true
        before ne y q = other (eqb y v) refl
          where
            other : (t : Bool) → eqb y v ≡ t → isolated (with_homes G (homes_after G cap v)) i y ≡ true
            other true d =
                let same = eqb-true y v d in
                let a = isolated_home G (set (homes_after G cap v) v (given v)) i y q in
                let b = get_or-set_same (homes_after G cap v) v (given v) 0 (let l = homes_long v in omega arith) in
                absurd (ne (sym b ∙ rw same at a))
            other false d =
                let a = isolated_home G (set (homes_after G cap v) v (given v)) i y q in
                let b = get_or-set_other (homes_after G cap v) v y (given v) 0 (eqb-false y v d) in
                home_isolated G (homes_after G cap v) i y one (sym b ∙ a)

        pick : (isolated (with_homes G (homes_after G cap v)) i x ≡ true → Sound (with_homes G (homes_after G cap v)) i) → (t : Bool) → eqb (given v) i ≡ t → Sound (with_homes G (set (homes_after G cap v) v (given v))) i
        pick r true q = subst (λ (j : ℕ). Sound (with_homes G (set (homes_after G cap v) v (given v))) j) (eqb-true (given v) i q) (given_admits (homes_after G cap v) v (within v (omega arith)))
        pick r false q =
            let ne = eqb-false (given v) i q in
            homes_fewer G (homes_after G cap v) (set (homes_after G cap v) v (given v)) i i (λ y l d. before ne y d) (r (before ne x e))

    own : (v : ℕ) → v < G.net.n → isolated (with_homes G (first_fit G cap)) (get_or (first_fit G cap) v 0) v ≡ true
    own v l = home_isolated G (first_fit G cap) (get_or (first_fit G cap) v 0) v (home_low v l) refl

    used : (i v : ℕ) → 1 ≤ i → isolated (with_homes G (first_fit G cap)) i v ≡ true → Sound (with_homes G (first_fit G cap)) i
    unfolding first_fit
    used i v one e = kept G.net.n (omega arith) i v one e

    own_sound : (v : ℕ) → v < G.net.n → Sound (with_homes G (first_fit G cap)) (get_or (first_fit G cap) v 0)
    own_sound v l = used (get_or (first_fit G cap) v 0) v (home_low v l) (own v l)

    -- any one node can be removed
    pub fitted_removable : Removable G
    unfolding avoiding neighbours link_between joins with_homes
    fitted_removable = sound_removable (with_homes G (first_fit G cap)) (λ v l. (get_or (first_fit G cap) v 0, own v l, own_sound v l))

    -- every topology meets the rules, one that is no node's home too
    pub fitted_sound : 1 ≤ G.net.n → (i : ℕ) → 1 ≤ i → Sound (with_homes G (first_fit G cap)) i
    fitted_sound some i one = pick (any (isolated (with_homes G (first_fit G cap)) i) G.net.n) refl
      where
        pick : (t : Bool) → any (isolated (with_homes G (first_fit G cap)) i) G.net.n ≡ t → Sound (with_homes G (first_fit G cap)) i
        pick true e = let s = any_at (isolated (with_homes G (first_fit G cap)) i) G.net.n e in used i s.0 one s.2
        pick false e =
            homes_fewer G (first_fit G cap) (first_fit G cap) (get_or (first_fit G cap) 0 0) i
            (λ v l q. absurd (clash (any (isolated (with_homes G (first_fit G cap)) i) G.net.n) (any_of (isolated (with_homes G (first_fit G cap)) i) G.net.n v l q) e))
            (own_sound 0 some)

-- ---- the statement

pub built_exactly : BuiltExactly
built_exactly G R = (λ ok. fitted_removable G G.net.n ok, λ O. succeeds G G.net.n R O (omega arith))
