-- 01, 'Next hops'.
use Rattle.std.specs.Prelude.{Bool, true, false, not, ◌&&◌, ◌≡◌, List, ◌++◌, ℕ, zero, suc, ◌+◌, ◌-◌, ◌≤◌, ◌<◌, eqb, get_or, if◌then◌else◌}
use Rattle.rules.specs.Basics.{lowest, least, up_to, flat}
use Rattle.rules.specs.File.{Set}
use Rattle.rules.specs.Isolation.{home, neighbours, hop_weight, usable, class, Class, link_between}

-- ---- "The distance from u to t in a topology is the least total weight over all paths of usable links."

-- a path of usable links from a node to t, with its total weight
pub data Path (S : Set) (i t : ℕ) : ℕ → ℕ → Type 0 where
  here : Path S i t t 0
  over : {u w total : ℕ} → u < S.net.n → w < S.net.n → usable S i u w ≡ true → Path S i t w total → Path S i t u (hop_weight S i u w + total)

-- d is the least total weight over all paths from u to t: some path has it, and none has less
pub record LeastTotal (S : Set) (i u t d : ℕ) : Type 0 where
  pub attained : Path S i t u d
  pub below : (total : ℕ) → Path S i t u total → d ≤ total

-- ---- the same as a number that can be computed

-- what stands for "no path": more than any path of up to 31 links can weigh
abbrev pub far : ℕ
far = 1073741824

-- from the least totals toward t over paths of at most h links, node by node, those over paths of at most h + 1
unfoldable pub longer : Set → ℕ → List ℕ → List ℕ
longer S i d = up_to (λ u. least (usable S i u) (λ w. hop_weight S i u w + get_or d w far) S.net.n (get_or d u far)) S.net.n

-- the least totals toward t over paths of at most h links, node by node: with none, t is at 0 and no other is reached
unfoldable pub totals : Set → ℕ → ℕ → ℕ → List ℕ
totals S i t zero = up_to (λ u. if eqb u t then 0 else far) S.net.n
totals S i t (suc h) = longer S i (totals S i t h)

-- a path of least total weight passes no node twice, so n - 1 links are enough
unfoldable pub distances : Set → ℕ → ℕ → List ℕ
distances S i t = totals S i t (S.net.n - 1)

-- the distance from u to t in topology i
unfoldable pub distance : Set → ℕ → ℕ → ℕ → ℕ
distance S i u t = get_or (distances S i t) u far

-- ---- "The next hop at u for t ≠ u is the lowest-numbered neighbour w whose link weight plus its distance to t equals u's distance. For t = u the entry is u."

-- w is a neighbour of u over a usable link whose weight plus w's distance equals u's; d: the distances to the destination
unfoldable pub on_least_path : Set → ℕ → ℕ → List ℕ → ℕ → Bool
on_least_path S i u d w = usable S i u w && eqb (hop_weight S i u w + get_or d w far) (get_or d u far)

-- the next hop at u for t in topology i
unfoldable pub next_hop : Set → ℕ → ℕ → ℕ → ℕ
next_hop S i u t = if eqb u t then u else lowest (on_least_path S i u (distances S i t)) S.net.n 255

-- ---- "The alternate at u for a neighbour v with another home: in u's home topology, among neighbours w ≠ v joined to u by a restricted link,
-- the one with the least distance to v, ties to the lower number. All other alternate entries are 255."

-- a restricted link
unfoldable pub is_restricted : Class → Bool
is_restricted Class.Isolated = false
is_restricted Class.Restricted = true
is_restricted Class.Normal = false

-- w may be the alternate at u for v
unfoldable pub candidate : Set → ℕ → ℕ → ℕ → Bool
candidate S u v w = neighbours S u w && (is_restricted (class S (home S u) (link_between S u w)) && not (eqb w v))

-- the lowest of the candidates that are nearest to v, by the distances d to v
unfoldable pub nearest : Set → ℕ → ℕ → List ℕ → ℕ
nearest S u v d =
    lowest (λ w. candidate S u v w && eqb (get_or d w far) (least (candidate S u v) (λ x. get_or d x far) S.net.n far)) S.net.n 255

-- the alternate at u for v
unfoldable pub alternate : Set → ℕ → ℕ → ℕ
alternate S u v =
    if neighbours S u v && not (eqb (home S u) (home S v)) then nearest S u v (distances S (home S u) v) else 255

-- ---- "Tables: (k + 1) × n × n bytes by topology, node, destination; then n × n alternate bytes by node, neighbour."
unfoldable pub table_bytes : Set → List ℕ
table_bytes S =
    flat (λ i. flat (λ u. up_to (next_hop S i u) S.net.n) S.net.n) (S.net.k + 1)
    ++ flat (λ u. up_to (alternate S u) S.net.n) S.net.n
