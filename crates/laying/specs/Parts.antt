-- The records of a file by the lists of their fields.
use Rattle.std.specs.Prelude.{List, ◌++◌, ℕ, suc, ◌+◌, get_or}
use Rattle.rules.specs.declared.Network.{Network}
use Rattle.rules.specs.Basics.{flat}
use Rattle.rules.specs.Limits.{row_weights}
use Rattle.rules.specs.File.{bytes2, row_start}
use Rattle.rules.specs.Entries.Lists.{Lists}
use Rattle.layout.specs.Records.{link_record, row_head}

-- link l's record
unfoldable pub link_of : Lists → ℕ → List ℕ
link_of d l = link_record (get_or d.a l 0) (get_or d.b l 0) (get_or d.weights l 0)

-- weight x of a row whose weights stand in `rows` from entry `first` on
unfoldable pub weight_of : List ℕ → ℕ → ℕ → List ℕ
weight_of rows first x = bytes2 (get_or rows (first + x) 0)

-- the row of topology j + 1
unfoldable pub row_of : Network → List ℕ → ℕ → List ℕ
row_of h rows j = row_head (suc j) ++ flat (weight_of rows (row_start h j)) (row_weights h)
