-- What the lists hold, over the header's counts. The published entry says the same of a set.
use Rattle.std.specs.Prelude.{List, ℕ}
use Rattle.rules.specs.declared.Network.{Network}
use Rattle.rules.specs.Basics.{up_to, flat, laid}
use Rattle.rules.specs.Limits.{row_weights, home_records}
use Rattle.rules.specs.File.{end_a, end_b, link_weight, home_topology, row_weight}
use Rattle.rules.specs.Entries.Lists.{Lists, lists}

-- the row of topology j + 1
unfoldable pub row_of : List ℕ → Network → ℕ → List ℕ
row_of s h j = up_to (row_weight s h j) (row_weights h)

-- the file's fields at the front of each list
unfoldable pub lists_of : List ℕ → Network → Lists → Lists
lists_of s h d =
    lists (laid (up_to (end_a s) h.m) d.a) (laid (up_to (end_b s) h.m) d.b) (laid (up_to (link_weight s) h.m) d.weights)
    (laid (up_to (home_topology s h) (home_records h)) d.homes)
    (laid (flat (row_of s h) h.k) d.rows)
