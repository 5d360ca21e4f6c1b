-- Demand 3, of the builder. "Our builder, allowed n topologies, succeeds exactly when removing any one router leaves the others connected." Then what the graph of
-- every accepted set is.
use Rattle.std.specs.Prelude.{◌≡◌, ◌↔◌, Bool, true, not, ◌&&◌, List, ℕ, ◌≤◌, ◌<◌, eqb, ltb, length, set, if◌then◌else◌, Ok}
use Rattle.rules.specs.declared.Network.{Network}
use Rattle.rules.specs.Basics.{up_to}
use Rattle.rules.specs.Limits.{file_length}
use Rattle.rules.specs.File.{Set, encode}
use Rattle.rules.specs.Isolation.{neighbours, home, isolated, Normal, class, row_in_force}
use Rattle.rules.specs.Building.{with_homes, first_fit, fits, highest, built, build_number}
use Rattle.rules.specs.Entries.Entry.{Promise}
use Rattle.rules.specs.Entries.Build.{BuildInput, build_entry}
use Rattle.rules.specs.Sets.{at, MeetsRules, FileOf, Walk, Sound, AcceptedSet}
use Rattle.rules.specs.Answers.{LengthAnswer}
use Rattle.rules.specs.Demands.Form.{IsLength, Front}

-- u and w are joined by a link, and neither is v
unfoldable pub avoiding : Set → ℕ → ℕ → ℕ → Bool
avoiding G v u w = neighbours G u w && (not (eqb u v) && not (eqb w v))

-- removing v leaves the others connected
abbrev pub OthersJoined : Set → ℕ → Type 0
OthersJoined G v = (u w : ℕ) → u < G.net.n → w < G.net.n → (u ≡ v → ⊥) → (w ≡ v → ⊥) → Walk (avoiding G v) u w

-- removing any one node leaves the others connected
abbrev pub Removable : Set → Type 0
Removable G = (v : ℕ) → v < G.net.n → OthersJoined G v

-- first fit, allowed n topologies, places every node exactly when any one node can be removed
abbrev pub BuiltExactly : Type 0
BuiltExactly = (G : Set) → MeetsRules G → (fits G G.net.n ≡ true) ↔ Removable G

-- every set that first fit gives is accepted
abbrev pub BuiltAccepted : Type 0
BuiltAccepted = (G : Set) (cap : ℕ) → MeetsRules G → cap ≤ 32 → fits G cap ≡ true → AcceptedSet (built G cap)

-- how many topologies first fit takes where it is allowed n
unfoldable pub topologies_needed : Set → ℕ
topologies_needed G = highest (first_fit G G.net.n) G.net.n

-- 9 exactly where removing some one node disconnects the others; 10 exactly where none does and first fit needs more than the cap
abbrev pub RefusedExactly : Type 0
RefusedExactly =
    (G : Set) (cap : ℕ) → MeetsRules G
    → ((build_number G cap ≡ 9) ↔ (Removable G → ⊥)) × ((build_number G cap ≡ 10) ↔ (Removable G × (cap < topologies_needed G)))

-- the counts of a graph's set with k topologies
unfoldable pub with_topologies : Network → ℕ → Network
with_topologies h k = record { n = h.n; m = h.m; k = k; wmax = h.wmax }

-- build accepts exactly when the bytes are a graph's, the cap is 1 to 32, any one node can be removed, first fit needs no more than the cap, and the
-- file of the set has room
pub record BuildMeets (G : Set) (i : BuildInput) (lent : List ℕ) : Type 0 where
  pub file : FileOf G i.file
  pub graph : G.net.k ≡ 0
  pub cap : (1 ≤ i.cap) × (i.cap ≤ 32)
  pub removable : Removable G
  pub few : topologies_needed G ≤ i.cap
  pub room : file_length (with_topologies G.net (topologies_needed G)) ≤ length lent

-- the homes of the nodes below v; the others have none yet
unfoldable pub homes_below : Set → ℕ → List ℕ
homes_below S v = up_to (λ u. if ltb u v then home S u else 0) S.net.n

-- the rules of topology i hold for the graph with the homes of the nodes below v, and with v added to i
abbrev pub Admits : Set → Set → ℕ → ℕ → Type 0
Admits G S v i = Sound (with_homes G (set (homes_below S v) v i)) i

-- S is what 01's builder makes of graph G: its nodes, links and weights; "Nodes go in number order; each goes to the first topology, counted from 1, that
-- admits it"; "k = the highest topology used and rows equal to topology 0's weights on normal links"
pub record BuiltBy (G S : Set) : Type 0 where
  pub net : S.net ≡ with_topologies G.net S.net.k
  pub links : (S.a ≡ G.a) × (S.b ≡ G.b) × (S.weights ≡ G.weights)
  pub admitted : (v : ℕ) → v < G.net.n → Admits G S v (home S v)
  pub first : (v i : ℕ) → v < G.net.n → 1 ≤ i → i < home S v → Admits G S v i → ⊥
  pub highest : (v : ℕ) × (v < G.net.n) × (home S v ≡ S.net.k)
  pub rows : (i l : ℕ) → 1 ≤ i → i ≤ S.net.k → l < S.net.m → class S i l ≡ Normal → at (row_in_force S i) l ≡ at G.weights l

-- and then it answers the length of the file that it leaves at the front of the room: that of an accepted set, the one that first fit makes of this graph
pub record BuildGives (G : Set) (i : BuildInput) (before : List ℕ) (r : LengthAnswer) (after : List ℕ) : Type 0 where
  pub set : Set
  pub accepted : AcceptedSet set
  pub built : BuiltBy G set
  pub topologies : set.net.k ≡ topologies_needed G
  pub answer : r ≡ Ok (file_length set.net)
  pub file : Front (encode set) before after

-- demand 3 of what the entry `build` returns, given n as its cap and room for the set: a length exactly when any one node can be removed
abbrev pub BuildAnswers : Type 0
BuildAnswers =
    (G : Set) (i : BuildInput) (room after : List ℕ) (r : LengthAnswer) → FileOf G i.file → G.net.k ≡ 0 → i.cap ≡ G.net.n
    → file_length (with_topologies G.net (topologies_needed G)) ≤ length room → Promise build_entry i room r after → IsLength r ↔ Removable G

-- an accepted set's graph is connected, stays so without any one node, and has at least as many links as nodes
pub record AcceptedGraph (S : Set) : Type 0 where
  pub connected : (u w : ℕ) → u < S.net.n → w < S.net.n → Walk (neighbours S) u w
  pub removable : Removable S
  pub links : S.net.n ≤ S.net.m

-- every accepted set's graph is so
abbrev pub AcceptedGraphs : Type 0
AcceptedGraphs = (S : Set) → AcceptedSet S → AcceptedGraph S

-- S' has the nodes and the links of S, and what topology j of S' isolates topology i of S isolates too
pub record Fewer (S : Set) (i : ℕ) (S' : Set) (j : ℕ) : Type 0 where
  pub nodes : S'.net.n ≡ S.net.n
  pub links : (u w : ℕ) → neighbours S' u w ≡ neighbours S u w
  pub fewer : (v : ℕ) → v < S.net.n → isolated S' j v ≡ true → isolated S i v ≡ true

-- what isolates fewer nodes keeps the rules
abbrev pub FewerIsolated : Type 0
FewerIsolated = (S S' : Set) (i j : ℕ) → Fewer S i S' j → Sound S i → Sound S' j
