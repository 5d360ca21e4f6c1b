-- The tables of an accepted set, topology by topology.
use Rattle.std.specs.Prelude.{ℕ, suc, ◌+◌, ◌*◌, ◌<◌, ◌≡◌, List, [], ◌++◌, length, get_or, drop}
use Rattle.rules.specs.Basics.{up_to, flat}
use Rattle.rules.specs.File.{Set}
use Rattle.rules.specs.Isolation.{home}
use Rattle.rules.specs.Distance.{next_hop, alternate}
use Rattle.routes.specs.Lanes.{LowRows}
use Rattle.routes.specs.Costs.{cost, Distances}

-- the next hops of topology i
unfoldable pub hop_table : Set → ℕ → List ℕ
hop_table S i = flat (λ u. up_to (next_hop S i u) S.net.n) S.net.n

unfoldable pub alternate_table : Set → List ℕ
alternate_table S = flat (λ u. up_to (alternate S u) S.net.n) S.net.n

unfoldable pub entry : List ℕ → ℕ → ℕ
entry r v = get_or r v 0

-- row u of a matrix, n entries of it
unfoldable pub entries_of : List (List ℕ) → ℕ → ℕ → List ℕ
entries_of alts n u = up_to (entry (get_or alts u [])) n

-- the costs c and the distances d of topology i
pub record Ready (S : Set) (i : ℕ) (c : List ℕ) (d : List (List ℕ)) : Type 0 where
  pub costs : c ≡ up_to (cost S i) S.net.m
  pub distances : Distances S i d
  pub low : LowRows d

-- the alternates of the nodes whose home is below i stand in their rows
pub record AlternatesBelow (S : Set) (i : ℕ) (alts : List (List ℕ)) : Type 0 where
  pub long : length alts ≡ S.net.n
  pub is : (u : ℕ) → u < S.net.n → home S u < i → (v : ℕ) → v < S.net.n → get_or (get_or alts u []) v 0 ≡ alternate S u v

-- what one topology adds: its next hops, and the alternates of the nodes whose home it is
pub record Added (S : Set) (i : ℕ) (out : List ℕ) (alts : List (List ℕ)) : Type 0 where
  pub hops : out ≡ hop_table S i
  pub alternates : AlternatesBelow S (suc i) alts

-- what all topologies add
pub record AllAdded (S : Set) (out : List ℕ) (alts : List (List ℕ)) : Type 0 where
  pub hops : out ≡ flat (hop_table S) (S.net.k + 1)
  pub alternates : AlternatesBelow S (S.net.k + 1) alts

-- after i topologies: their tables stand at the front of out, and what follows is as it came
pub record Stage (S : Set) (out₀ out : List ℕ) (alts : List (List ℕ)) (i : ℕ) : Type 0 where
  pub is : out ≡ flat (hop_table S) i ++ drop (i * (S.net.n * S.net.n)) out₀
  pub alternates : AlternatesBelow S i alts
