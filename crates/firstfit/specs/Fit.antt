-- First fit over words: each node's neighbours in `nb`, each topology's isolated nodes as a word.
use Rattle.std.specs.Prelude.{◌≡◌, Bool, List, ℕ, zero, suc, ◌≤◌, ◌<◌, eqb, length, get_or, set, replicate}
use Rattle.rules.specs.Basics.{all, lowest}
use Rattle.rules.specs.Isolation.{word}
use Rattle.words.specs.Word.{adding, only}
use Rattle.topologyrules.specs.Topology.{backbone_word, connected_by, number_by}

-- removing node v leaves the others connected
unfoldable pub spared_by : List ℕ → ℕ → ℕ → Bool
spared_by nb n v = connected_by nb (backbone_word n (only v))

-- so does removing any of the first k nodes
unfoldable pub all_spared : List ℕ → ℕ → ℕ → Bool
all_spared nb n k = all (spared_by nb n) k

-- the isolated word of topology i
unfoldable pub isolated_by : List ℕ → ℕ → ℕ → ℕ
isolated_by homes n i = word (λ u. eqb (get_or homes u 0) i) n

-- with v added to these isolated nodes, a topology's two rules hold
unfoldable pub word_admits : List ℕ → ℕ → ℕ → ℕ → Bool
word_admits nb n iso v = eqb (number_by nb n (adding iso v)) 0

unfoldable pub admits_by : List ℕ → ℕ → List ℕ → ℕ → ℕ → Bool
admits_by nb n homes i v = word_admits nb n (isolated_by homes n i) v

-- the first topology, counted from 1, that admits v; cap + 1 where none up to the cap does
unfoldable pub first_by : List ℕ → ℕ → ℕ → List ℕ → ℕ → ℕ
first_by nb n cap homes v = suc (lowest (λ j. admits_by nb n homes (suc j) v) cap cap)

-- the homes once the first v nodes have theirs
unfoldable pub homes_by : List ℕ → ℕ → ℕ → ℕ → List ℕ
homes_by nb n cap zero = replicate n 0
homes_by nb n cap (suc v) = set (homes_by nb n cap v) v (first_by nb n cap (homes_by nb n cap v) v)

-- the first r nodes have their homes, and where r is not all of them the next one finds none
pub record Placed (nb : List ℕ) (n cap : ℕ) (homes : List ℕ) (r : ℕ) : Type 0 where
  pub within : r ≤ n
  pub long : length homes ≡ n
  pub homes_are : homes ≡ homes_by nb n cap r
  pub each : (v : ℕ) → v < r → first_by nb n cap (homes_by nb n cap v) v ≤ cap
  pub passed : r < n → cap < first_by nb n cap (homes_by nb n cap r) r
