-- The builder's refusals: 9 exactly where removing some one node disconnects the others, 10 exactly where first fit needs more than the cap.
use mathlib.Core.Path.{◌≡◌, refl, ap, ◌∙◌}
use mathlib.Core.Bool.{Bool, true, false}
use mathlib.Core.Logic.{◌↔◌, ◌⊎◌, inl, inr}
use mathlib.Core.List.{List}
use Prim.Native.Nat.{ℕ, zero, suc, ◌≤◌, ◌<◌}
use native.Mathlib.Omega.{arith}
use lib.Dec.{leb}
use lib.ListN.{get_or, set}
use borrow.Author.Tests.{leb-true, leb-false, le-leb}
use Rattle.rules.specs.Basics.{need, all, lowest}
use Rattle.rules.specs.File.{Set}
use Rattle.rules.specs.Building.{admits, first_topology, homes_after, first_fit, fits, highest, spared, build_number}
use Rattle.rules.specs.Sets.{MeetsRules}
use Rattle.rules.specs.Demands.Building.{Removable, topologies_needed}
use Rattle.rules.proofs.Ground.Choices.{clash, false_of}
use Rattle.rules.proofs.Ground.Numbers.{all_of, lowest_before, lowest_is, lowest_one}
use Rattle.rules.proofs.Isolation.Removal.{spared_exactly}
use Rattle.rules.proofs.Building.FirstFit.{placed, home_n, succeeds, home_high, fitted_removable}
use Rattle.rules.proofs.Building.BuiltAccepted.{highest_most, highest_least}

-- ---- what first fit topologies_needed: the topologies that it uses when it is allowed as many as there are nodes

-- a first topology within two caps is the first under both
given_same : (G : Set) (c d : ℕ) (homes : List ℕ) (v : ℕ) → first_topology G c homes v ≤ c → first_topology G c homes v ≤ d → first_topology G d homes v ≡ first_topology G c homes v
unfolding first_topology
given_same G c d homes v p q = pick (lowest_is (λ j. admits G homes (suc j) v) c c)
  where
    least : ℕ
    least = lowest (λ j. admits G homes (suc j) v) c c

    pick : (least ≡ c) ⊎ ((least < c) × (admits G homes (suc least) v ≡ true)) → suc (lowest (λ j. admits G homes (suc j) v) d d) ≡ suc least
    pick (inl e) = absurd (omega arith)
    pick (inr e) =
        ap suc (lowest_one (λ j. admits G homes (suc j) v) d d least (omega arith) e.1 (λ x l. lowest_before (λ j. admits G homes (suc j) v) c c x (omega arith) l))

homes_same : (G : Set) (c d v : ℕ) → v ≤ G.net.n
    → ((x : ℕ) → x < v → (first_topology G c (homes_after G c x) x ≤ c) × (first_topology G c (homes_after G c x) x ≤ d)) → homes_after G d v ≡ homes_after G c v
unfolding homes_after
homes_same G c d zero h w = refl
homes_same G c d (suc v) h w =
    let e = homes_same G c d v (omega arith) (λ x l. w x (omega arith)) in
    let t = w v (omega arith) in
    ap (λ (list : List ℕ). set list v (first_topology G d list v)) e ∙ ap (λ (x : ℕ). set (homes_after G c v) v x) (given_same G c d (homes_after G c v) v t.0 t.1)

-- homes within two caps are first fit's under both
pub fit_same : (G : Set) (c d : ℕ) → fits G c ≡ true → ((v : ℕ) → v < G.net.n → get_or (first_fit G c) v 0 ≤ d) → first_fit G d ≡ first_fit G c
unfolding first_fit
fit_same G c d ok h =
    homes_same G c d G.net.n (omega arith)
    (λ v l.
    let e = placed G c G.net.n v l (omega arith) in
    let a = home_high G c ok v l in
    let b = h v l in
    (omega arith, omega arith))

module _ (G : Set) (cap : ℕ) (R : MeetsRules G) where
  pub fits_needs : Removable G → (fits G cap ≡ true) ↔ (topologies_needed G ≤ cap)
  unfolding topologies_needed fits
  fits_needs O = (few, enough)
    where
      few : fits G cap ≡ true → highest (first_fit G G.net.n) G.net.n ≤ cap
      few ok =
          rw (fit_same G cap G.net.n ok (λ v l. home_n G cap R O v))
          (highest_most (first_fit G cap) G.net.n cap (home_high G cap ok))

      enough : highest (first_fit G G.net.n) G.net.n ≤ cap → fits G cap ≡ true
      enough h =
          all_of (λ v. leb (get_or (first_fit G cap) v 0) cap) G.net.n
          (λ v l. le-leb (get_or (first_fit G cap) v 0) cap (rw (fit_same G G.net.n cap (succeeds G G.net.n R O (omega arith)) low) (low v l)))
        where
          low : (v : ℕ) → v < G.net.n → get_or (first_fit G G.net.n) v 0 ≤ cap
          low v l = let a = highest_least (first_fit G G.net.n) G.net.n v l in omega arith

  -- ---- 9, then 10

  -- 0 exactly where first fit succeeds
  pub zero_exactly : (build_number G cap ≡ 0) ↔ (fits G cap ≡ true)
  unfolding build_number need
  zero_exactly = (λ e. ok (all (spared G) G.net.n) (fits G cap) e, λ e. rw ((spared_exactly G R).1 (fitted_removable G cap e), e))
    where
      ok : (s f : Bool) → need s 9 (need f 10 0) ≡ 0 → f ≡ true
      ok true true e = refl
      ok true false e = absurd (omega arith)
      ok false f e = absurd (omega arith)

  pub nine_exactly : (build_number G cap ≡ 9) ↔ (Removable G → ⊥)
  unfolding build_number need
  nine_exactly = (
    λ e O. clash (all (spared G) G.net.n) ((spared_exactly G R).1 O) (nine (all (spared G) G.net.n) (fits G cap) e),
    λ h. rw (false_of (all (spared G) G.net.n) (λ e. h ((spared_exactly G R).0 e))),
  )
    where
      nine : (s f : Bool) → need s 9 (need f 10 0) ≡ 9 → s ≡ false
      nine true true e = absurd (omega arith)
      nine true false e = absurd (omega arith)
      nine false f e = refl

  pub ten_exactly : (build_number G cap ≡ 10) ↔ (Removable G × (cap < topologies_needed G))
  unfolding build_number need
  ten_exactly = (λ e. over (ten (all (spared G) G.net.n) (fits G cap) e), λ h. rw ((spared_exactly G R).1 h.0, unfit h.0 h.1))
    where
      ten : (s f : Bool) → need s 9 (need f 10 0) ≡ 10 → (s ≡ true) × (f ≡ false)
      ten true true e = absurd (omega arith)
      ten true false e = (refl, refl)
      ten false f e = absurd (omega arith)

      over : (all (spared G) G.net.n ≡ true) × (fits G cap ≡ false) → Removable G × (cap < topologies_needed G)
      over t =
          let O = (spared_exactly G R).0 t.0 in
          (O, past O (leb (topologies_needed G) cap) refl t.1)
        where
          past : Removable G → (b : Bool) → leb (topologies_needed G) cap ≡ b → fits G cap ≡ false → cap < topologies_needed G
          past O true q f = absurd (clash (fits G cap) ((fits_needs O).1 (leb-true (topologies_needed G) cap q)) f)
          past O false q f = leb-false (topologies_needed G) cap q

      unfit : Removable G → cap < topologies_needed G → fits G cap ≡ false
      unfit O l = false_of (fits G cap) (λ e. let h = (fits_needs O).0 e in omega arith)
