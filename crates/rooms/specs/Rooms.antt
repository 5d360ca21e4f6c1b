-- Room that is lent on: so many bytes, all 0.
use Rattle.std.specs.Prelude.{◌≡◌, List, ℕ, length, replicate}

unfoldable pub zeros : ℕ → List ℕ
zeros n = replicate n 0

pub record Room (n : ℕ) (r : List ℕ) : Type 0 where
  pub long : n ≡ length r
  pub empty : r ≡ zeros n

-- room for the tables of a small set
abbrev pub few_tables : ℕ
few_tables = 4096
