-- The distance that is computed by rounds is the least total weight over all paths, for every set that meets the rules; `far` where there is no path.
use Rattle.std.specs.Prelude.{if◌then◌else◌}
use mathlib.Core.Path.{◌≡◌, refl, ap, ◌∙◌}
use mathlib.Core.Bool.{Bool, true, false}
use Prim.Native.Nat.{ℕ, zero, suc, ◌+◌, ◌-◌, ◌*◌, ◌≤◌, ◌<◌}
use native.Mathlib.Nat.{mul-le-mul_right}
use native.Mathlib.Omega.{arith}
use lib.Dec.{eqb, ltb, leb}
use lib.ListN.{get_or}
use borrow.Author.Tests.{ltb-true, ltb-false}
use Rattle.rules.specs.Basics.{least}
use Rattle.rules.specs.Limits.{restricted_weight}
use Rattle.rules.specs.File.{Set}
use Rattle.rules.specs.Isolation.{hop_weight, usable}
use Rattle.rules.specs.Distance.{Path, here, over, LeastTotal, far, longer, totals, distances, distance}
use Rattle.rules.specs.Sets.{MeetsRules}
use Rattle.rules.proofs.Ground.Numbers.{least_ext}
use Rattle.rules.proofs.Ground.Rows.{get_d_up_to}
use Rattle.rules.proofs.Isolation.Links.{usable_hop, hop_usable, restricted_bound, hop_light}
use Rattle.rules.proofs.Distance.Rounds.{Way, best, best_none, attained, under, found, found_light}
use Rattle.rules.proofs.Distance.Rounds as rounds

-- two least totals are one
pub least_one : (S : Set) (i u t d e : ℕ) → LeastTotal S i u t d → LeastTotal S i u t e → d ≡ e
least_one S i u t d e p q = omega (arith, p.below e q.attained, q.below d p.attained)

module _ (S : Set) (i t : ℕ) where
  -- the rounds over lists, entry by entry
  total_best : (h u : ℕ) → u < S.net.n → get_or (totals S i t h) u far ≡ best (hop_weight S i) S.net.n far t h u
  unfolding totals longer best usable
  total_best zero u lu = get_d_up_to (λ x. if eqb x t then 0 else far) S.net.n u far lu
  total_best (suc h) u lu = entry ∙ rw (total_best h u lu) (weights (λ w lw. total_best h w lw))
    where
      d : ℕ → ℕ
      d w = get_or (totals S i t h) w far

      entry : get_or (totals S i t (suc h)) u far ≡ least (usable S i u) (λ w. hop_weight S i u w + d w) S.net.n (d u)
      entry = get_d_up_to (λ x. least (usable S i x) (λ w. hop_weight S i x w + d w) S.net.n (d x)) S.net.n u far lu

      weights : ((w : ℕ) → w < S.net.n → d w ≡ best (hop_weight S i) S.net.n far t h w)
          → least (usable S i u) (λ w. hop_weight S i u w + d w) S.net.n (best (hop_weight S i) S.net.n far t h u)
          ≡ least (λ w. leb 1 (hop_weight S i u w)) (λ w. hop_weight S i u w + best (hop_weight S i) S.net.n far t h w) S.net.n (best (hop_weight S i) S.net.n far t h u)
      weights ih =
          least_ext (usable S i u) (λ w. leb 1 (hop_weight S i u w)) (λ w. hop_weight S i u w + d w)
          (λ w. hop_weight S i u w + best (hop_weight S i) S.net.n far t h w) S.net.n (best (hop_weight S i) S.net.n far t h u)
          (λ w lw. refl) (λ w lw. ap (λ (x : ℕ). hop_weight S i u w + x) (ih w lw))

  pub path_way : (u d : ℕ) → Path S i t u d → Way (hop_weight S i) S.net.n t u d
  path_way u d here = rounds.there
  path_way u d (over {w = w} {total = e} lu lw g r) = rounds.over lu lw (usable_hop S i u w g) (path_way w e r)

  pub way_path : (u d : ℕ) → Way (hop_weight S i) S.net.n t u d → Path S i t u d
  way_path u d rounds.there = here
  way_path u d (rounds.over {w = w} {total = e} lu lw g r) = over lu lw (hop_usable S i u w g) (way_path w e r)

  distance_best : (u : ℕ) → u < S.net.n → distance S i u t ≡ best (hop_weight S i) S.net.n far t (S.net.n - 1) u
  unfolding distance distances
  distance_best u lu = total_best (S.net.n - 1) u lu

-- ---- a set that meets the rules

module _ (S : Set) (M : MeetsRules S) (i : ℕ) (hi : i ≤ S.net.k) where
  size : S.net.n ≡ suc (S.net.n - 1)
  size = omega (arith, M.limits.nodes.0)

  -- n hops weigh less than `far`
  hops_light : suc (S.net.n - 1) * restricted_weight S.net < far
  hops_light =
      let few : suc (S.net.n - 1) ≤ 32 = omega (arith, M.limits.nodes.0, M.limits.nodes.1) in
      omega (arith, mul-le-mul_right (restricted_weight S.net) few, restricted_bound S M)

  pub distance_far : (u t : ℕ) → u < S.net.n → distance S i u t ≤ far
  distance_far u t lu = rw (distance_best S i t u lu) (best_none (hop_weight S i) S.net.n far t (S.net.n - 1) u)

  -- the sum of a hop and a distance stays below 2 to the power 31, `far` among the distances
  pub distance_sum : (u t x y : ℕ) → u < S.net.n → hop_weight S i x y + distance S i u t < 2147483648
  distance_sum u t x y lu = omega (arith, hop_light S M i x y hi, restricted_bound S M, distance_far u t lu)

  -- a distance below `far` is the total of a path
  pub distance_path : (u t : ℕ) → u < S.net.n → distance S i u t < far → Path S i t u (distance S i u t)
  distance_path u t lu h =
      rw (distance_best S i t u lu) (way_path S i t u (best (hop_weight S i) S.net.n far t (S.net.n - 1) u)
      (attained (hop_weight S i) S.net.n far t (S.net.n - 1) u lu (rw (distance_best S i t u lu) at h)))

  module _ (u t d : ℕ) (lu : u < S.net.n) (p : Path S i t u d) where
    -- where there is a path, the distance is the least total
    pub distance_found : distance S i u t < far
    distance_found =
        rw (distance_best S i t u lu)
        (found (hop_weight S i) S.net.n far t (S.net.n - 1) size (restricted_weight S.net) (λ x y. hop_light S M i x y hi) hops_light u d (path_way S i t u d p))

    pub distance_light : distance S i u t ≤ (S.net.n - 1) * restricted_weight S.net
    distance_light =
        rw (distance_best S i t u lu)
        (found_light (hop_weight S i) S.net.n far t (S.net.n - 1) size (restricted_weight S.net) (λ x y. hop_light S M i x y hi) hops_light u d (path_way S i t u d p))

    pub distance_least : LeastTotal S i u t (distance S i u t)
    distance_least = record {
      attained = distance_path u t lu distance_found;
      below = λ total q. rw (distance_best S i t u lu) (under (hop_weight S i) S.net.n far t (S.net.n - 1) size u total (path_way S i t u total q));
    }

  -- what is the least total is the distance
  pub distance_is : (u t d : ℕ) → u < S.net.n → LeastTotal S i u t d → distance S i u t ≡ d
  distance_is u t d lu q = least_one S i u t (distance S i u t) d (distance_least u t d lu q.attained) q

  -- where there is no path, the distance is `far`
  pub distance_none : (u t : ℕ) → u < S.net.n → ((d : ℕ) → Path S i t u d → ⊥) → distance S i u t ≡ far
  distance_none u t lu h = go (ltb (distance S i u t) far) refl
    where
      go : (x : Bool) → ltb (distance S i u t) far ≡ x → distance S i u t ≡ far
      go true e = absurd (h (distance S i u t) (distance_path u t lu (ltb-true (distance S i u t) far e)))
      go false e = omega (arith, ltb-false (distance S i u t) far e, distance_far u t lu)
