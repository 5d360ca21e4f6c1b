-- A matrix is a list of rows, one for each node, each of 32 lanes, one for each destination. Column t of it is the list of the distances toward t.
use Rattle.std.specs.Prelude.{ℕ, zero, suc, ◌+◌, ◌≤◌, ◌<◌, min, List, [], map, get_or, set, replicate}
use Rattle.rules.specs.Distance.{far}

-- ---- a row

-- lane t of p lowered to c + lane t of q, where that is less
unfoldable pub lane : ℕ → List ℕ → ℕ → List ℕ → List ℕ
lane c q t p = set p t (min (get_or p t 0) (c + get_or q t 0))

-- the lanes below k
unfoldable pub lanes : ℕ → List ℕ → ℕ → List ℕ → List ℕ
lanes c q zero p = p
lanes c q (suc k) p = lane c q k (lanes c q k p)

-- a row whose lanes are at most far
pub record LowRow (p : List ℕ) : Type 0 where
  pub low : (t : ℕ) → t < 32 → get_or p t 0 ≤ far

-- row u of the beginning: u is at 0 from itself, and no other is reached
unfoldable pub unit_row : ℕ → List ℕ
unit_row u = set (replicate 32 far) u 0

-- ---- a matrix

unfoldable pub column : ℕ → List (List ℕ) → List ℕ
column t d = map (λ (r : List ℕ). get_or r t 0) d

-- lane t of row u
unfoldable pub entry : List (List ℕ) → ℕ → ℕ → ℕ
entry d u t = get_or (get_or d u []) t 0

pub record LowRows (d : List (List ℕ)) : Type 0 where
  pub low : (u : ℕ) → LowRow (get_or d u [])
