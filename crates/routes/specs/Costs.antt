-- The cost of each link in a topology, as one row: the weight of a usable link, and `far` for one that is never used.
use Rattle.std.specs.Prelude.{ℕ, zero, suc, ◌*◌, ◌≤◌, ◌<◌, ◌≡◌, List, eqb, length, get_or, take, drop}
use Rattle.rules.specs.Limits.{restricted_weight}
use Rattle.rules.specs.File.{Set}
use Rattle.rules.specs.Isolation.{Class, class_by, class, row_in_force}
use Rattle.rules.specs.Distance.{far, distances}
use Rattle.routes.specs.Lanes.{column}

unfoldable pub cost_by : Class → ℕ → ℕ → ℕ
cost_by Class.Isolated r w = far
cost_by Class.Restricted r w = r
cost_by Class.Normal r w = w

unfoldable pub cost : Set → ℕ → ℕ → ℕ
cost S i l = cost_by (class S i l) (restricted_weight S.net) (get_or (row_in_force S i) l 0)

-- ---- the same from lists

-- the row of m weights that is in force for topology i
unfoldable pub row_of : List ℕ → List ℕ → ℕ → ℕ → List ℕ
row_of weights rows m zero = take m weights
row_of weights rows m (suc j) = take m (drop (j * m) rows)

-- both lists are long enough for that row
pub record HoldsRow (weights rows : List ℕ) (m i : ℕ) : Type 0 where
  pub links : m ≤ length weights
  pub backup : i * m ≤ length rows
  pub few : (m ≤ 128) × (i ≤ 32)

-- a link whose ends have the homes p and q
unfoldable pub cost_of : ℕ → ℕ → ℕ → ℕ → ℕ → ℕ
cost_of p q i w r = cost_by (class_by (eqb p i) (eqb q i)) r w

unfoldable pub cost_at : List ℕ → List ℕ → List ℕ → List ℕ → ℕ → ℕ → ℕ → ℕ
cost_at a b homes row i r l = cost_of (get_or homes (get_or a l 0) 0) (get_or homes (get_or b l 0) 0) i (get_or row l 0) r

-- lists of m links between n nodes
pub record Links (a b homes row : List ℕ) (m : ℕ) : Type 0 where
  pub a_long : m ≤ length a
  pub b_long : m ≤ length b
  pub row_long : m ≤ length row
  pub a_in : (l : ℕ) → l < m → get_or a l 0 < length homes
  pub b_in : (l : ℕ) → l < m → get_or b l 0 < length homes

-- the matrix of a topology's distances: column t those toward t
pub record Distances (S : Set) (i : ℕ) (d : List (List ℕ)) : Type 0 where
  pub is : (t : ℕ) → t < S.net.n → column t d ≡ distances S i t
  pub long : length d ≡ S.net.n
