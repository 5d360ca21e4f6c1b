-- Distances between all nodes, in place: first those over one link, then by passes. After the passes of the nodes below v an entry is the least
-- total over the paths whose inner nodes are below v.
use Rattle.std.specs.Prelude.{ℕ, zero, suc, ◌≤◌, ◌<◌, min, ◌≡◌, List, [], ltb, length, get_or, set, if◌then◌else◌}
use Rattle.rules.specs.Basics.{up_to}
use Rattle.rules.specs.Distance.{far}
use Rattle.routes.specs.Lanes.{lanes, unit_row, entry}

-- ---- links with their costs

-- links 0 .. links - 1; link l joins a l and b l at the cost cost l, `far` where it is not usable
pub record Net : Type 0 where
  pub links : ℕ
  pub a : ℕ → ℕ
  pub b : ℕ → ℕ
  pub cost : ℕ → ℕ

abbrev pub net_of : List ℕ → List ℕ → List ℕ → Net
net_of xs ys c = record { links = length xs; a = λ l. get_or xs l 0; b = λ l. get_or ys l 0; cost = λ l. get_or c l 0 }

-- the lists of links between n nodes
pub record Wired (a b c : List ℕ) (n : ℕ) : Type 0 where
  pub few : n ≤ 32
  pub b_long : length b ≡ length a
  pub c_long : length c ≡ length a
  pub a_in : (l : ℕ) → l < length a → get_or a l 0 < n
  pub b_in : (l : ℕ) → l < length a → get_or b l 0 < n
  pub c_low : (l : ℕ) → l < length a → get_or c l 0 ≤ far

-- ---- over one link

-- the entry of x for y lowered to c, where that is less
unfoldable pub direct : ℕ → ℕ → ℕ → List (List ℕ) → List (List ℕ)
direct x y c d = set d x (set (get_or d x []) y (min (entry d x y) c))

-- link l, both ways
unfoldable pub direct_link : Net → ℕ → List (List ℕ) → List (List ℕ)
direct_link G l d = direct (G.b l) (G.a l) (G.cost l) (direct (G.a l) (G.b l) (G.cost l) d)

-- the links below k
unfoldable pub direct_links : Net → ℕ → List (List ℕ) → List (List ℕ)
direct_links G zero d = d
direct_links G (suc k) d = direct_link G k (direct_links G k d)

-- d has an entry of x for y
pub record Spot (d : List (List ℕ)) (x y : ℕ) : Type 0 where
  pub x_in : x < length d
  pub y_in : y < 32

-- ---- through a node

-- row x lowered to c + row y
unfoldable pub lower_row : ℕ → ℕ → ℕ → List (List ℕ) → List (List ℕ)
lower_row x y c d = set d x (lanes c (get_or d y []) 32 (get_or d x []))

-- the row of u lowered to what it is through v, where v is reached
unfoldable pub through : ℕ → ℕ → List (List ℕ) → List (List ℕ)
through v u d = if ltb (entry d u v) far then lower_row u v (entry d u v) d else d

-- the rows below k through v
unfoldable pub pass : ℕ → ℕ → List (List ℕ) → List (List ℕ)
pass v zero d = d
pass v (suc k) d = through v k (pass v k d)

-- all n rows through each node below k in turn
unfoldable pub passes : ℕ → ℕ → List (List ℕ) → List (List ℕ)
passes n zero d = d
passes n (suc k) d = pass k n (passes n k d)

-- what the n passes leave of the n nodes' distances over one link
unfoldable pub settled : Net → ℕ → List (List ℕ)
settled G n = passes n n (direct_links G G.links (up_to unit_row n))
