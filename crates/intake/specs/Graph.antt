-- Each node's neighbours, and each topology's isolated nodes, as words gathered from a file's bytes; and the topologies in turn, by such words.
use Rattle.std.specs.Prelude.{List, ℕ, zero, suc, ◌-◌, ◌≤◌, ◌<◌, length, get_or, replicate}
use Rattle.rules.specs.declared.Network.{Network}
use Rattle.rules.specs.Verdict.{Verdict}
use Rattle.rules.specs.Limits.{link_place, home_records}
use Rattle.rules.specs.File.{end_a, end_b, home_topology}
use Rattle.rules.specs.Judgement.{refuse, in_turn}
use Rattle.topologyrules.specs.Entered.{entered}
use Rattle.topologyrules.specs.Topology.{number_by}

-- the words once the first links are entered at both their ends
unfoldable pub linked : (ℕ → ℕ) → (ℕ → ℕ) → List ℕ → ℕ → List ℕ
linked A B nb zero = nb
linked A B nb (suc l) = entered (entered (linked A B nb l) (A l) (B l)) (B l) (A l)

-- every node's neighbour word, by the first m links
unfoldable pub neighbour_words : List ℕ → ℕ → List ℕ
neighbour_words s m = linked (end_a s) (end_b s) (replicate 32 0) m

-- every topology's isolated nodes, by the first homes: each node is entered in the word of its home, topology 1's first
unfoldable pub isolated_words : List ℕ → Network → ℕ → List ℕ
isolated_words s h zero = replicate 32 0
isolated_words s h (suc v) = entered (isolated_words s h v) (home_topology s h v - 1) v

-- the isolated nodes of topology i, by these words; none in topology 0
unfoldable pub isolated_in : List ℕ → ℕ → ℕ
isolated_in isos zero = 0
isolated_in isos (suc j) = get_or isos j 0

-- 7 and 8 by words, topology by topology
unfoldable pub turns_by : List ℕ → ℕ → List ℕ → ℕ → Verdict
turns_by nb n isos k = in_turn (λ j. refuse (number_by nb n (isolated_in isos (suc j))) (suc j)) k

-- the first m links stand in the file, and their ends are nodes below 32
pub record Ends (s : List ℕ) (m : ℕ) : Type 0 where
  pub long : link_place m ≤ length s
  pub a_low : (l : ℕ) → l < m → end_a s l < 32
  pub b_low : (l : ℕ) → l < m → end_b s l < 32

-- there are no more than 32 homes, and each is 1 to 32
pub record Homes (s : List ℕ) (h : Network) : Type 0 where
  pub few : home_records h ≤ 32
  pub one : (v : ℕ) → v < home_records h → 1 ≤ home_topology s h v
  pub high : (v : ℕ) → v < home_records h → home_topology s h v ≤ 32
