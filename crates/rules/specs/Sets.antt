-- What an accepted set is: 01, 'Numbers that bound it', 'The file' and 'Rules for a backup topology i' as propositions, rule by rule; and the files of such sets.
use Rattle.std.specs.Prelude.{◌≡◌, ◌⊎◌, Bool, true, ◌&&◌, List, ℕ, suc, ◌*◌, ◌≤◌, ◌<◌, length, get_or}
use Rattle.rules.specs.declared.Network.{Network}
use Rattle.rules.specs.Limits.{home_records, row_weights}
use Rattle.rules.specs.File.{Set, encode}
use Rattle.rules.specs.Isolation.{neighbours, home, isolated, backbone, class, Normal, row_in_force, normal_hop}

-- ---- the rules of 01's 'The file'

-- the entries of a list are bytes
abbrev pub Bytes : List ℕ → Type 0
Bytes s = (i : ℕ) → i < length s → get_or s i 0 < 256

-- "n from 3 to 32, m from 3 to 128 links, k from 0 to 32 backup topologies with k at most n. wmax is 1 to 65,535."
pub record WithinLimits (h : Network) : Type 0 where
  pub nodes : (3 ≤ h.n) × (h.n ≤ 32)
  pub links : (3 ≤ h.m) × (h.m ≤ 128)
  pub topologies : (h.k ≤ 32) × (h.k ≤ h.n)
  pub weights : (1 ≤ h.wmax) × (h.wmax ≤ 65535)

-- link l's entry of a list of a set
abbrev pub at : List ℕ → ℕ → ℕ
at list l = get_or list l 0

-- the rules of 01's 'The file', one by one
pub record MeetsRules (S : Set) : Type 0 where
  pub limits : WithinLimits S.net
  -- the lists are as long as the counts say
  pub links_long : (length S.a ≡ S.net.m) × (length S.b ≡ S.net.m) × (length S.weights ≡ S.net.m)
  pub homes_long : length S.homes ≡ home_records S.net
  pub rows_long : length S.rows ≡ S.net.k * row_weights S.net
  -- "Links have a < b < n"
  pub ends : (l : ℕ) → l < S.net.m → (at S.a l < at S.b l) × (at S.b l < S.net.n)
  -- "and rise strictly by a, then b"
  pub order : (l : ℕ) → suc l < S.net.m
      → (at S.a l < at S.a (suc l)) ⊎ ((at S.a l ≡ at S.a (suc l)) × (at S.b l < at S.b (suc l)))
  -- a link's weight is 1 to wmax
  pub weights : (l : ℕ) → l < S.net.m → (1 ≤ at S.weights l) × (at S.weights l ≤ S.net.wmax)
  -- "each home is 1 to k"
  pub homes : (v : ℕ) → v < home_records S.net → (1 ≤ home S v) × (home S v ≤ S.net.k)
  -- "Row i holds [..] 1 to wmax for each [link] that is [normal in i]"
  pub normal : (i l : ℕ) → 1 ≤ i → i ≤ S.net.k → l < S.net.m → class S i l ≡ Normal
      → (1 ≤ at (row_in_force S i) l) × (at (row_in_force S i) l ≤ S.net.wmax)
  -- "and 0 for each link that isn't normal in i"
  pub other : (i l : ℕ) → 1 ≤ i → i ≤ S.net.k → l < S.net.m → (class S i l ≡ Normal → ⊥) → at (row_in_force S i) l ≡ 0

-- these bytes are the file of S, by the rules of 01's 'The file'
pub record FileOf (S : Set) (s : List ℕ) : Type 0 where
  pub rules : MeetsRules S
  pub bytes : encode S ≡ s

-- ---- the rules of a backup topology

-- from u to w by hops that pass the test
pub data Walk (E : ℕ → ℕ → Bool) : ℕ → ℕ → Type 0 where
  stay : {u : ℕ} → Walk E u u
  go : {u w z : ℕ} → Walk E u w → E w z ≡ true → Walk E u z

-- two different numbers pass the test
pub record Two (p : ℕ → Bool) : Type 0 where
  pub one : ℕ
  pub other : ℕ
  pub apart : one ≡ other → ⊥
  pub one_passes : p one ≡ true
  pub other_passes : p other ≡ true

-- the rules of a backup topology: "The backbone is non-empty and connected by normal links. Each isolated node has at least two restricted links"
pub record Sound (S : Set) (i : ℕ) : Type 0 where
  pub some : (v : ℕ) × (backbone S i v ≡ true)
  pub joined : (u w : ℕ) → backbone S i u ≡ true → backbone S i w ≡ true → Walk (normal_hop S i) u w
  pub two : (v : ℕ) → v < S.net.n → isolated S i v ≡ true → Two (λ w. neighbours S v w && backbone S i w)

-- ---- a graph alone or a set, by all published rules

-- the published rules, those of the file and those of the backup topologies; a graph alone has no topology to check (02, h)
pub record Published (S : Set) : Type 0 where
  pub rules : MeetsRules S
  pub sound : (i : ℕ) → 1 ≤ i → i ≤ S.net.k → Sound S i

-- these bytes are the file of S, by all published rules
pub record PublishedFile (S : Set) (s : List ℕ) : Type 0 where
  pub published : Published S
  pub bytes : encode S ≡ s

-- ---- an accepted set

-- the same of a set: there is a backup topology
pub record AcceptedSet (S : Set) : Type 0 where
  pub rules : MeetsRules S
  pub topologies : 1 ≤ S.net.k
  pub sound : (i : ℕ) → 1 ≤ i → i ≤ S.net.k → Sound S i

-- these bytes are the file of an accepted set S
pub record AcceptedFile (S : Set) (s : List ℕ) : Type 0 where
  pub accepted : AcceptedSet S
  pub bytes : encode S ≡ s
