-- Least totals by rounds, over any weights c between n nodes; 0 is no hop. n - 1 rounds are enough: a node that round h brings nearer has at least h
-- nodes nearer than itself, and there are at most n - 1 of those.
use Rattle.std.specs.Prelude.{if◌then◌else◌}
use mathlib.Core.Path.{◌≡◌, refl}
use mathlib.Core.Logic.{◌⊎◌, inl, inr}
use mathlib.Core.Bool.{Bool, true, false}
use Prim.Native.Nat.{ℕ, zero, suc, ◌+◌, ◌*◌, ◌≤◌, ◌<◌}
use native.Mathlib.Omega.{arith}
use lib.Dec.{eqb, ltb, leb}
use borrow.Author.Tests.{eqb-true, eq-eqb, ltb-true, ltb-false, lt-ltb, le-ltb, leb-true, le-leb}
use Rattle.rules.specs.Basics.{count, least}
use Rattle.rules.proofs.Ground.Choices.{if_yes, if_no}
use Rattle.rules.proofs.Ground.Numbers.{count_lt, count_all, least_other, least_le, least_is}

-- a way from a node to t, with its total
pub data Way (c : ℕ → ℕ → ℕ) (n t : ℕ) : ℕ → ℕ → Type 0 where
  there : Way c n t t 0
  over : {u w total : ℕ} → u < n → w < n → 1 ≤ c u w → Way c n t w total → Way c n t u (c u w + total)

-- the least total over the ways of at most h hops from u to t, or `none`
unfoldable pub best : (ℕ → ℕ → ℕ) → ℕ → ℕ → ℕ → ℕ → ℕ → ℕ
best c n none t zero u = if eqb u t then 0 else none
best c n none t (suc h) u = least (λ w. leb 1 (c u w)) (λ w. c u w + best c n none t h w) n (best c n none t h u)

-- how many of the n nodes have a smaller measure than u
abbrev pub rank : (ℕ → ℕ) → ℕ → ℕ → ℕ
rank d n u = count (λ x. ltb (d x) (d u)) n

pub rank_lt : (d : ℕ → ℕ) (n u w : ℕ) → w < n → d w < d u → rank d n w < rank d n u
rank_lt d n u w l h =
    count_lt (λ x. ltb (d x) (d w)) (λ x. ltb (d x) (d u)) n w
    (λ x lx e. lt-ltb (d x) (d u) (omega (arith, ltb-true (d x) (d w) e))) l (le-ltb (d w) (d w) (omega arith)) (lt-ltb (d w) (d u) h)

pub rank_bound : (d : ℕ → ℕ) (n u : ℕ) → u < n → rank d n u < n
rank_bound d n u l =
    omega (
      arith,
      count_lt (λ x. ltb (d x) (d u)) (λ x. true) n u (λ x lx e. refl) l (le-ltb (d u) (d u) (omega arith)) refl,
      count_all (λ x. true) n,
    )

module _ (c : ℕ → ℕ → ℕ) (n none t : ℕ) where
  abbrev to : ℕ → ℕ → ℕ
  to h u = best c n none t h u

  best_falls : (h u : ℕ) → to (suc h) u ≤ to h u
  unfolding best
  best_falls h u = least_other (λ w. leb 1 (c u w)) (λ w. c u w + to h w) n (to h u)

  best_over : (h u w : ℕ) → w < n → 1 ≤ c u w → to (suc h) u ≤ c u w + to h w
  unfolding best
  best_over h u w lw g = least_le (λ x. leb 1 (c u x)) (λ x. c u x + to h x) n (to h u) w lw (le-leb 1 (c u w) g)

  -- a round leaves a node's total, or takes it over one hop
  best_is : (h u : ℕ) → (to (suc h) u ≡ to h u) ⊎ ((w : ℕ) × (w < n) × (1 ≤ c u w) × (to (suc h) u ≡ c u w + to h w))
  unfolding best
  best_is h u = go (least_is (λ w. leb 1 (c u w)) (λ w. c u w + to h w) n (to h u))
    where
      go : (to (suc h) u ≡ to h u) ⊎ ((w : ℕ) × (w < n) × (leb 1 (c u w) ≡ true) × (to (suc h) u ≡ c u w + to h w))
          → (to (suc h) u ≡ to h u) ⊎ ((w : ℕ) × (w < n) × (1 ≤ c u w) × (to (suc h) u ≡ c u w + to h w))
      go (inl e) = inl e
      go (inr q) = inr (q.0, q.1, leb-true 1 (c u q.0) q.2, q.3)

  first_round : (u : ℕ) → ((u ≡ t) × (to 0 u ≡ 0)) ⊎ (to 0 u ≡ none)
  unfolding best
  first_round u = go (eqb u t) refl
    where
      go : (b : Bool) → eqb u t ≡ b → ((u ≡ t) × (to 0 u ≡ 0)) ⊎ (to 0 u ≡ none)
      go true e = inl (eqb-true u t e, if_yes (eqb u t) 0 none e)
      go false e = inr (if_no (eqb u t) 0 none e)

  pub best_self : (h : ℕ) → to h t ≡ 0
  unfolding best
  best_self zero = if_yes (eqb t t) 0 none (eq-eqb t t refl)
  best_self (suc h) = omega (arith, best_falls h t, best_self h)

  pub best_none : (h u : ℕ) → to h u ≤ none
  best_none zero u = go (first_round u)
    where
      go : ((u ≡ t) × (to 0 u ≡ 0)) ⊎ (to 0 u ≡ none) → to 0 u ≤ none
      go (inl e) = omega (arith, e.1)
      go (inr e) = omega arith
  best_none (suc h) u = omega (arith, best_falls h u, best_none h u)

  -- round h brings u nearer
  abbrev Nearer : ℕ → ℕ → Type 0
  Nearer zero u = to 0 u < none
  Nearer (suc h) u = to (suc h) u < to h u

  -- over one hop, from a node that the round before brought nearer
  nearer_before : (h u w : ℕ) → w < n → 1 ≤ c u w → to (suc h) u < to h u → to (suc h) u ≡ c u w + to h w → Nearer h w
  nearer_before zero u w lw g f e = omega (arith, best_none 0 u)
  nearer_before (suc h) u w lw g f e = omega (arith, best_over h u w lw g)

  nearer_rank : (h u : ℕ) → Nearer h u → h ≤ rank (to h) n u
  nearer_rank zero u f = omega arith
  nearer_rank (suc h) u f = go (nearer_rank h) (best_is h u)
    where
      go : ((w : ℕ) → Nearer h w → h ≤ rank (to h) n w)
          → (to (suc h) u ≡ to h u) ⊎ ((w : ℕ) × (w < n) × (1 ≤ c u w) × (to (suc h) u ≡ c u w + to h w)) → suc h ≤ rank (to (suc h)) n u
      go ih (inl e) = absurd (omega arith)
      go ih (inr q) =
          let w = q.0 in
          let less : to h w < to (suc h) u = omega (arith, q.2, q.3) in
          omega (
            arith,
            ih w (nearer_before h u w q.1 q.2 f q.3),
            count_lt (λ x. ltb (to h x) (to h w)) (λ x. ltb (to (suc h) x) (to (suc h) u)) n w
                (λ x lx e. lt-ltb (to (suc h) x) (to (suc h) u) (omega (arith, ltb-true (to h x) (to h w) e, best_falls h x, less)))
                q.1 (le-ltb (to h w) (to h w) (omega arith)) (lt-ltb (to (suc h) w) (to (suc h) u) (omega (arith, best_falls h w, less))),
          )

  -- a total that is not `none` is that of a way
  pub attained : (h u : ℕ) → u < n → to h u < none → Way c n t u (to h u)
  attained zero u lu f = go (first_round u)
    where
      go : ((u ≡ t) × (to 0 u ≡ 0)) ⊎ (to 0 u ≡ none) → Way c n t u (to 0 u)
      go (inl e) = rw (e.1, e.0) there
      go (inr e) = absurd (omega arith)
  attained (suc h) u lu f = go (attained h) (best_is h u)
    where
      go : ((w : ℕ) → w < n → to h w < none → Way c n t w (to h w))
          → (to (suc h) u ≡ to h u) ⊎ ((w : ℕ) × (w < n) × (1 ≤ c u w) × (to (suc h) u ≡ c u w + to h w)) → Way c n t u (to (suc h) u)
      go ih (inl e) = rw e (ih u lu (omega arith))
      go ih (inr q) = rw q.3 (over lu q.1 q.2 (ih q.0 q.1 (omega (arith, q.3))))

  -- h rounds, with one node more than that
  module _ (h : ℕ) (size : n ≡ suc h) where
    -- one round more changes nothing
    settled : (u : ℕ) → u < n → to h u ≤ to (suc h) u
    settled u lu = go (ltb (to (suc h) u) (to h u)) refl
      where
        go : (b : Bool) → ltb (to (suc h) u) (to h u) ≡ b → to h u ≤ to (suc h) u
        go true e =
            absurd (omega (arith, nearer_rank (suc h) u (ltb-true (to (suc h) u) (to h u) e), rank_bound (to (suc h)) n u lu))
        go false e = omega (arith, ltb-false (to (suc h) u) (to h u) e)

    -- no way has a lesser total
    pub under : (u d : ℕ) → Way c n t u d → to h u ≤ d
    under u d there = omega (arith, best_self h)
    under u d (over {w = w} {total = e} lu lw g r) = omega (arith, settled u lu, best_over h u w lw g, under w e r)

    -- where no hop weighs more than r, and n of them less than `none`
    module _ (r : ℕ) (light : (u w : ℕ) → c u w ≤ r) (less : suc h * r < none) where
      light_rounds : (k u : ℕ) → to k u < none → to k u ≤ k * r
      light_rounds zero u f = go (first_round u)
        where
          go : ((u ≡ t) × (to 0 u ≡ 0)) ⊎ (to 0 u ≡ none) → to 0 u ≤ 0 * r
          go (inl e) = omega (arith, e.1)
          go (inr e) = absurd (omega arith)
      light_rounds (suc k) u f = go (light_rounds k) (best_is k u)
        where
          go : ((w : ℕ) → to k w < none → to k w ≤ k * r)
              → (to (suc k) u ≡ to k u) ⊎ ((w : ℕ) × (w < n) × (1 ≤ c u w) × (to (suc k) u ≡ c u w + to k w)) → to (suc k) u ≤ suc k * r
          go ih (inl e) = omega (arith, ih u (omega arith))
          go ih (inr q) = omega (arith, q.3, ih q.0 (omega (arith, q.3)), light u q.0)

      -- where there is a way, the total is found
      pub found : (u d : ℕ) → Way c n t u d → to h u < none
      found u d there = omega (arith, best_self h)
      found u d (over {w = w} {total = e} lu lw g s) =
          omega (arith, settled u lu, best_over h u w lw g, light_rounds h w (found w e s), light u w)

      pub found_light : (u d : ℕ) → Way c n t u d → to h u ≤ h * r
      found_light u d s = light_rounds h u (found u d s)
