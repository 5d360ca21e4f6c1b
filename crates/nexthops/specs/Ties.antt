-- The neighbours that tie, as a word for each node and destination, and the next hops by them.
use Rattle.std.specs.Prelude.{ℕ, zero, suc, ◌+◌, ◌≤◌, ◌<◌, min, ◌≡◌, List, [], length, get_or, set, replicate, eqb, if◌then◌else◌}
use Rattle.rules.specs.Basics.{up_to, flat}
use Rattle.rules.specs.Distance.{far}
use Rattle.words.specs.Word.{either, only, lowest_in}
use Rattle.routes.specs.Passes.{Net}
use Rattle.routes.specs.Lanes.{column}

-- the bit, where v is o
unfoldable pub tie_of : ℕ → ℕ → ℕ → ℕ
tie_of v o bit = if eqb v o then bit else 0

-- ---- a row of words: node x, by its row p and the row q of a neighbour over a link of cost c

unfoldable pub mark_lane : ℕ → ℕ → List ℕ → List ℕ → ℕ → List ℕ → List ℕ
mark_lane c bit p q t w = set w t (either (get_or w t 0) (tie_of (c + get_or q t 0) (get_or p t 0) bit))

unfoldable pub marked : ℕ → ℕ → List ℕ → List ℕ → ℕ → List ℕ → List ℕ
marked c bit p q zero w = w
marked c bit p q (suc k) w = mark_lane c bit p q k (marked c bit p q k w)

-- ---- a column of words, w, by a column of distances, d

unfoldable pub mark : ℕ → ℕ → ℕ → List ℕ → List ℕ → List ℕ
mark x y c d w = set w x (either (get_or w x 0) (tie_of (c + get_or d y 0) (get_or d x 0) (only y)))

-- both ways
unfoldable pub mark_both : ℕ → ℕ → ℕ → List ℕ → List ℕ → List ℕ
mark_both x y c d w = mark y x c d (mark x y c d w)

-- link l
unfoldable pub mark_link : Net → ℕ → List ℕ → List ℕ → List ℕ
mark_link G l d w = mark_both (G.a l) (G.b l) (G.cost l) d w

-- the links below k
unfoldable pub marks : Net → ℕ → List ℕ → List ℕ → List ℕ
marks G zero d w = w
marks G (suc k) d w = mark_link G k d (marks G k d w)

-- each column of v is F of those of d and w
pub record Marked (d w v : List (List ℕ)) (F : List ℕ → List ℕ → List ℕ) : Type 0 where
  pub is : (t : ℕ) → t < 32 → column t v ≡ F (column t d) (column t w)
  pub long : length v ≡ length w

pub record MarkSpot (d w : List (List ℕ)) (x y c : ℕ) : Type 0 where
  pub x_in : x < length d
  pub w_in : x < length w
  pub y_in : y < length d
  pub c_low : c ≤ far
  pub y_few : y < 32

-- each column of w is the words by that of d
pub record Worded (G : Net) (d w : List (List ℕ)) (n : ℕ) : Type 0 where
  pub is : (t : ℕ) → t < 32 → column t w ≡ marks G G.links (column t d) (replicate n 0)
  pub long : length w ≡ n

-- ---- the next hops

unfoldable pub hop_of : ℕ → ℕ → ℕ → ℕ
hop_of w u t = if eqb u t then u else lowest_in w

unfoldable pub hop_at : List ℕ → ℕ → ℕ → ℕ
hop_at w u t = hop_of (get_or w t 0) u t

-- the row of node u, of n lanes
unfoldable pub hops_of : List (List ℕ) → ℕ → ℕ → List ℕ
hops_of w n u = up_to (hop_at (get_or w u []) u) n

-- ---- the same link by link, without words

-- y, where x is u and a link of cost c from x to y is on a least path by the distances d; else 32
unfoldable pub via : ℕ → ℕ → ℕ → ℕ → List ℕ → ℕ
via x y u c d = if eqb x u then (if eqb (c + get_or d y 0) (get_or d u 0) then y else 32) else 32

-- the far end of link l as seen from u, where the link is on a least path
unfoldable pub tie_end : Net → List ℕ → ℕ → ℕ → ℕ
tie_end G d u l = min (via (G.a l) (G.b l) u (G.cost l) d) (via (G.b l) (G.a l) u (G.cost l) d)

-- the lowest of the links below k
unfoldable pub lowest_end : Net → List ℕ → ℕ → ℕ → ℕ
lowest_end G d u zero = 32
lowest_end G d u (suc k) = min (lowest_end G d u k) (tie_end G d u k)

unfoldable pub tie_hop : Net → List (List ℕ) → ℕ → ℕ → ℕ
tie_hop G d u t = if eqb u t then u else lowest_end G (column t d) u G.links

-- the table of a topology whose links are G, by the distances d
unfoldable pub tie_table : Net → List (List ℕ) → ℕ → List ℕ
tie_table G d n = flat (λ u. up_to (tie_hop G d u) n) n
