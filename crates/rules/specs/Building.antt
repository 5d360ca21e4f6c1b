-- 01, 'The builder'.
use Rattle.std.specs.Prelude.{Bool, List, ℕ, zero, suc, max, eqb, leb, get_or, set, replicate}
use Rattle.rules.specs.Basics.{need, all, lowest, up_to, flat}
use Rattle.rules.specs.File.{Set}
use Rattle.rules.specs.Isolation.{class, Class, connected, topology_number}

-- a graph with these homes; a node whose home is 0 has none yet, and is in the backbone of every topology
unfoldable pub with_homes : Set → List ℕ → Set
with_homes G homes = record { net = G.net; a = G.a; b = G.b; weights = G.weights; homes = homes; rows = G.rows }

-- no node has a home yet
unfoldable pub homeless : Set → List ℕ
homeless G = replicate G.net.n 0

-- "with it added, that topology's backbone and two-link rules hold"
unfoldable pub admits : Set → List ℕ → ℕ → ℕ → Bool
admits G homes i v = eqb (topology_number (with_homes G (set homes v i)) i) 0

-- "the first topology, counted from 1, that admits it"; cap + 1 where none up to the cap does
unfoldable pub first_topology : Set → ℕ → List ℕ → ℕ → ℕ
first_topology G cap homes v = suc (lowest (λ j. admits G homes (suc j) v) cap cap)

-- "Nodes go in number order": the homes once the first v nodes have theirs
unfoldable pub homes_after : Set → ℕ → ℕ → List ℕ
homes_after G cap zero = homeless G
homes_after G cap (suc v) = set (homes_after G cap v) v (first_topology G cap (homes_after G cap v) v)

-- the homes that first fit gives, once every node has had its turn
unfoldable pub first_fit : Set → ℕ → List ℕ
first_fit G cap = homes_after G cap G.net.n

-- every node found a topology up to the cap
unfoldable pub fits : Set → ℕ → Bool
fits G cap = all (λ v. leb (get_or (first_fit G cap) v 0) cap) G.net.n

-- the highest of the homes of the first v nodes
unfoldable pub highest : List ℕ → ℕ → ℕ
highest homes zero = 0
highest homes (suc v) = max (highest homes v) (get_or homes v 0)

-- "rows equal to topology 0's weights on normal links", 0 elsewhere
unfoldable pub on_normal : Class → ℕ → ℕ
on_normal Class.Isolated w = 0
on_normal Class.Restricted w = 0
on_normal Class.Normal w = w

-- the set with these homes and with rows filled so; "k = the highest topology used"
unfoldable pub filled : Set → List ℕ → Set
filled G homes =
    let k : ℕ = highest homes G.net.n in
    record {
      net = record { n = G.net.n; m = G.net.m; k = k; wmax = G.net.wmax };
      a = G.a;
      b = G.b;
      weights = G.weights;
      homes = homes;
      rows = flat (λ j. up_to (λ l. on_normal (class (with_homes G homes) (suc j) l) (get_or G.weights l 0)) G.net.m) k;
    }

-- the set that the builder gives
unfoldable pub built : Set → ℕ → Set
built G cap = filled G (first_fit G cap)

-- removing node v leaves the others connected: with v alone isolated, the backbone is connected
unfoldable pub spared : Set → ℕ → Bool
spared G v = connected (with_homes G (set (homeless G) v 1)) 1

-- 9: "removing some one node disconnects the others"; then 10: "first fit needs more than the cap"
unfoldable pub build_number : Set → ℕ → ℕ
build_number G cap = need (all (spared G) G.net.n) 9 (need (fits G cap) 10 0)
