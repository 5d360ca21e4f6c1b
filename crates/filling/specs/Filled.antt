-- The bytes of a set that is filled: links as in the graph's file, homes as they are given, rows by class.
use Rattle.std.specs.Prelude.{List, ◌++◌, ℕ, suc, ◌≤◌, ◌<◌, eqb, length, get_or}
use Rattle.rules.specs.declared.Network.{Network}
use Rattle.rules.specs.Basics.{flat}
use Rattle.rules.specs.Limits.{home_records, link_place}
use Rattle.rules.specs.File.{bytes2, header_bytes, end_a, end_b, link_weight}
use Rattle.rules.specs.Isolation.{class_by}
use Rattle.rules.specs.Building.{on_normal}
use Rattle.layout.specs.Records.{link_record, home_of, row_head}

-- the first m links stand in the file, and both ends of each are below n
pub record LinksIn (s : List ℕ) (m n : ℕ) : Type 0 where
  pub long : link_place m ≤ length s
  pub a_below : (l : ℕ) → l < m → end_a s l < n
  pub b_below : (l : ℕ) → l < m → end_b s l < n

-- link l's record, as in the graph's file
unfoldable pub link_copy : List ℕ → ℕ → List ℕ
link_copy s l = link_record (end_a s l) (end_b s l) (link_weight s l)

-- link l's weight in the row of topology i: topology 0's where the link is normal, and 0 elsewhere
unfoldable pub weight_in : List ℕ → List ℕ → ℕ → ℕ → ℕ
weight_in s homes i l = on_normal (class_by (eqb (get_or homes (end_a s l) 0) i) (eqb (get_or homes (end_b s l) 0) i)) (link_weight s l)

unfoldable pub filled_bytes : List ℕ → List ℕ → ℕ → ℕ → List ℕ
filled_bytes s homes i l = bytes2 (weight_in s homes i l)

-- the row of topology j + 1, with m weights
unfoldable pub filled_row : List ℕ → List ℕ → ℕ → ℕ → List ℕ
filled_row s homes m j = row_head (suc j) ++ flat (filled_bytes s homes (suc j)) m

-- the whole file: header, links, homes, rows
unfoldable pub filled_file : List ℕ → List ℕ → Network → List ℕ
filled_file s homes h =
    header_bytes h
    ++ (flat (link_copy s) h.m ++ (flat (home_of homes) (home_records h) ++ flat (filled_row s homes h.m) h.k))
