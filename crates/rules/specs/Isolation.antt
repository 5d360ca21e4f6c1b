-- 01, 'Rules for a backup topology i'.
use Rattle.std.specs.Prelude.{Bool, true, false, not, ◌&&◌, ◌||◌, List, ℕ, zero, suc, ◌+◌, ◌-◌, ◌^◌, eqb, ltb, leb, get_or, take, drop, if◌then◌else◌}
use Rattle.rules.specs.Basics.{need, all, any, count, lowest, up_to}
use Rattle.rules.specs.Limits.{restricted_weight, row_weights}
use Rattle.rules.specs.File.{Set, row_start}

-- ---- links

-- link l joins u and w
unfoldable pub joins : Set → ℕ → ℕ → ℕ → Bool
joins S l u w =
    (eqb (get_or S.a l 0) u && eqb (get_or S.b l 0) w) || (eqb (get_or S.a l 0) w && eqb (get_or S.b l 0) u)

-- the number of the link that joins u and w ("at most one link per pair"), or m where there is none
unfoldable pub link_between : Set → ℕ → ℕ → ℕ
link_between S u w = lowest (λ l. joins S l u w) S.net.m S.net.m

-- u and w are neighbours
unfoldable pub neighbours : Set → ℕ → ℕ → Bool
neighbours S u w = ltb (link_between S u w) S.net.m

-- ---- isolated nodes and the backbone

-- node v's home; 0 where it has none
unfoldable pub home : Set → ℕ → ℕ
home S v = get_or S.homes v 0

-- "A node is isolated in i exactly if its home is i." Topology 0 is no backup topology: none is isolated in it
unfoldable pub isolated : Set → ℕ → ℕ → Bool
isolated S i v = leb 1 i && eqb (home S v) i

-- "The others are the backbone of i."
unfoldable pub backbone : Set → ℕ → ℕ → Bool
backbone S i v = ltb v S.net.n && not (isolated S i v)

-- the numbers below n that pass, as one word: number v is worth 2 to the power v
unfoldable pub word : (ℕ → Bool) → ℕ → ℕ
word p zero = 0
word p (suc n) = (if p n then 2 ^ n else 0) + word p n

-- "Each topology's isolated nodes form one 32-bit word."
unfoldable pub isolated_word : Set → ℕ → ℕ
isolated_word S i = word (isolated S i) S.net.n

-- ---- the classes of links

-- what a link is in a backup topology
pub data Class : Type 0 where
  Isolated Restricted Normal : Class

-- "A link with both ends isolated in i is isolated: never used. With one end isolated it is restricted [..]. Otherwise it is normal."
unfoldable pub class_by : Bool → Bool → Class
class_by true true = Isolated
class_by true false = Restricted
class_by false true = Restricted
class_by false false = Normal

-- the class of link l in topology i
unfoldable pub class : Set → ℕ → ℕ → Class
class S i l = class_by (isolated S i (get_or S.a l 0)) (isolated S i (get_or S.b l 0))

-- "Row i holds 0 for each link that isn't normal in i, and 1 to wmax for each that is."
unfoldable pub weight_fits : Class → ℕ → ℕ → Bool
weight_fits Isolated wmax w = eqb w 0
weight_fits Restricted wmax w = eqb w 0
weight_fits Normal wmax w = leb 1 w && leb w wmax

-- ---- weights

-- "Topology 0 uses the link records' weights. The row in force for a topology is a part of one of the two lists: the links' weights or the backup weights."
unfoldable pub row_in_force : Set → ℕ → List ℕ
row_in_force S i =
    if eqb i 0 then take (row_weights S.net) S.weights else take (row_weights S.net) (drop (row_start S.net (i - 1)) S.rows)

-- the weight, by the link's class, of a link whose weight in the row in force is w; 0: never used
unfoldable pub weight_by : Set → Class → ℕ → ℕ
weight_by S Isolated w = 0
weight_by S Restricted w = restricted_weight S.net
weight_by S Normal w = w

-- the weight in topology i of link l for a packet that leaves node u over it ("the same both ways")
unfoldable pub weight_from : Set → ℕ → ℕ → ℕ → ℕ
weight_from S i u l = weight_by S (class S i l) (get_or (row_in_force S i) l 0)

-- the weight of the hop from u to w in topology i; 0 where no usable link joins them
unfoldable pub hop_weight : Set → ℕ → ℕ → ℕ → ℕ
hop_weight S i u w = if neighbours S u w then weight_from S i u (link_between S u w) else 0

-- a usable link joins u and w in topology i
unfoldable pub usable : Set → ℕ → ℕ → ℕ → Bool
usable S i u w = leb 1 (hop_weight S i u w)

-- ---- "The backbone is non-empty and connected by normal links."

-- u and w are joined by a link that is normal in i: both are in the backbone
unfoldable pub normal_hop : Set → ℕ → ℕ → ℕ → Bool
normal_hop S i u w = neighbours S u w && (backbone S i u && backbone S i w)

-- the nodes of d, and those that one normal link joins to them; d says of each node whether it is in
unfoldable pub spread : Set → ℕ → List Bool → List Bool
spread S i d = up_to (λ v. get_or d v false || any (λ u. get_or d u false && normal_hop S i u v) S.net.n) S.net.n

-- the nodes that at most h normal links join to the lowest node of the backbone
unfoldable pub reached : Set → ℕ → ℕ → List Bool
reached S i zero = up_to (λ v. eqb v (lowest (backbone S i) S.net.n S.net.n)) S.net.n
reached S i (suc h) = spread S i (reached S i h)

-- some node is in the backbone, and each of its nodes is reached
unfoldable pub connected : Set → ℕ → Bool
connected S i =
    any (backbone S i) S.net.n && all (λ v. not (backbone S i v) || get_or (reached S i S.net.n) v false) S.net.n

-- ---- "Each isolated node has at least two restricted links: take its neighbours in the backbone, the ones counted in that word are 2 or more."
unfoldable pub restricted_links : Set → ℕ → ℕ → ℕ
restricted_links S i v = count (λ w. neighbours S v w && backbone S i w) S.net.n

-- each isolated node has two restricted links or more
unfoldable pub two_links : Set → ℕ → Bool
two_links S i = all (λ v. not (isolated S i v) || leb 2 (restricted_links S i v)) S.net.n

-- the refusal of topology i, "7 before 8": 7 for its backbone, 8 for its isolated nodes, 0 where both rules hold
unfoldable pub topology_number : Set → ℕ → ℕ
topology_number S i = need (connected S i) 7 (need (two_links S i) 8 0)
