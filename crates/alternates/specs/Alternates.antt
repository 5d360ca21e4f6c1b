-- Alternates as the code finds them: flags of the neighbours with another home, the least distance of those, and the word of the nearest.
use Rattle.std.specs.Prelude.{ℕ, zero, suc, ◌≤◌, ◌<◌, ◌≡◌, Bool, false, not, ◌&&◌, ◌||◌, List, [], length, get_or, set, replicate, eqb, if◌then◌else◌}
use Rattle.rules.specs.Basics.{least}
use Rattle.rules.specs.Distance.{far}
use Rattle.routes.specs.Lanes.{column}
use Rattle.words.specs.Word.{either, lowest_in, only}

-- ---- the neighbours of u with another home

-- y is flagged where x is u
unfoldable pub noted : ℕ → ℕ → ℕ → List Bool → List Bool
noted u x y near = set near y (get_or near y false || eqb x u)

-- a link between x and y, whose homes are p and q
unfoldable pub noted_link : ℕ → ℕ → ℕ → ℕ → ℕ → List Bool → List Bool
noted_link u x y p q near = if eqb p q then near else noted u y x (noted u x y near)

-- the links below k
unfoldable pub outlets_by : List ℕ → List ℕ → List ℕ → ℕ → ℕ → List Bool
outlets_by a b homes u zero = replicate 32 false
outlets_by a b homes u (suc k) =
    noted_link u (get_or a k 0) (get_or b k 0) (get_or homes (get_or a k 0) 0) (get_or homes (get_or b k 0) 0) (outlets_by a b homes u k)

-- ---- the nearest of them to v, by the distances d

unfoldable pub eligible : List Bool → ℕ → ℕ → Bool
eligible near v w = get_or near w false && not (eqb w v)

-- the least distance of the nodes below k
unfoldable pub least_of : List Bool → List (List ℕ) → ℕ → ℕ → ℕ
least_of near d v k = least (eligible near v) (λ w. get_or (column v d) w 0) k far

unfoldable pub near_bit : Bool → ℕ → ℕ → ℕ → ℕ
near_bit ok key best w = if ok && eqb key best then only w else 0

-- the word of those below k at that distance
unfoldable pub near_word : List Bool → List (List ℕ) → ℕ → ℕ → ℕ → ℕ
near_word near d v best zero = 0
near_word near d v best (suc k) = either (near_word near d v best k) (near_bit (eligible near v k) (get_or (column v d) k 0) best k)

-- by the flags; n nodes
unfoldable pub alternate_by : List Bool → List (List ℕ) → ℕ → ℕ → ℕ
alternate_by near d n v = if get_or near v false then lowest_in (near_word near d v (least_of near d v n) n) else 255

unfoldable pub alternate_of : List ℕ → List ℕ → List ℕ → List (List ℕ) → ℕ → ℕ → ℕ
alternate_of a b homes d u v = alternate_by (outlets_by a b homes u (length a)) d (length d) v

-- ---- what the functions ask and give

-- links whose ends are nodes, each with a home
pub record Homed (a b homes : List ℕ) (n : ℕ) : Type 0 where
  pub few : n ≤ 32
  pub b_long : length b ≡ length a
  pub homes_long : length homes ≡ n
  pub a_in : (l : ℕ) → l < length a → get_or a l 0 < n
  pub b_in : (l : ℕ) → l < length a → get_or b l 0 < n

-- the alternates of a node by the flags of its neighbours
pub record RowBy (near : List Bool) (d : List (List ℕ)) (r : List ℕ) (n : ℕ) : Type 0 where
  pub is : (v : ℕ) → v < n → get_or r v 0 ≡ alternate_by near d (length d) v

-- the alternates of node u
pub record RowOf (a b homes : List ℕ) (d : List (List ℕ)) (u : ℕ) (r : List ℕ) : Type 0 where
  pub is : (v : ℕ) → v < length d → get_or r v 0 ≡ alternate_of a b homes d u v

-- the rows of the nodes below k whose home is i are their alternates in e; all else is as in alts
pub record RowsTo (a b homes : List ℕ) (i : ℕ) (d : List (List ℕ)) (k : ℕ) (alts e : List (List ℕ)) : Type 0 where
  pub long : length e ≡ length alts
  pub done : (u : ℕ) → u < k → get_or homes u 0 ≡ i → RowOf a b homes d u (get_or e u [])
  pub kept : (u : ℕ) → (get_or homes u 0 ≡ i → ⊥) → get_or e u [] ≡ get_or alts u []
