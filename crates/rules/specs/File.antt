-- 01, 'The file'.
use Rattle.std.specs.Prelude.{List, [], ◌∷◌, ◌++◌, ℕ, suc, ◌+◌, ◌*◌, ◌/◌, ◌%◌, get_or}
use Rattle.rules.specs.declared.Network.{Network}
use Rattle.rules.specs.Basics.{up_to, flat}
use Rattle.rules.specs.Limits.{home_records, link_place, home_place, row_place, row_head_length, weight_length, row_weights}

-- A network and its backup topologies, or a graph alone, as the file has them. Entry l of `a` and `b` are link l's ends and of `weights` its
-- weight in topology 0; entry v of `homes` is node v's home; `rows` holds the backup rows one after the other, topology 1's first.
pub record Set : Type 0 where
  pub net : Network
  pub a : List ℕ
  pub b : List ℕ
  pub weights : List ℕ
  pub homes : List ℕ
  pub rows : List ℕ

-- ---- the bytes of a set: "Big-endian numbers, a two-byte mark before each record, this order, nothing between or after"

-- a number as two bytes, the higher first
unfoldable pub bytes2 : ℕ → List ℕ
bytes2 x = x / 256 ∷ x % 256 ∷ []

-- network: mark 4E 57, then n (1 byte), m (2), k (1), wmax (2)
unfoldable pub header_bytes : Network → List ℕ
header_bytes h = 0x4E ∷ 0x57 ∷ h.n ∷ (bytes2 h.m ++ (h.k ∷ bytes2 h.wmax))

-- link: mark 4C 4B, then a (1), b (1), weight (2)
unfoldable pub link_bytes : Set → ℕ → List ℕ
link_bytes S l = 0x4C ∷ 0x4B ∷ get_or S.a l 0 ∷ get_or S.b l 0 ∷ bytes2 (get_or S.weights l 0)

-- home: mark 48 4D, then node (1), topology (1)
unfoldable pub home_bytes : Set → ℕ → List ℕ
home_bytes S v = 0x48 ∷ 0x4D ∷ v ∷ get_or S.homes v 0 ∷ []

-- where row j + 1's weights stand in `rows`
unfoldable pub row_start : Network → ℕ → ℕ
row_start h j = j * row_weights h

-- backup row: mark 42 57, then topology (1), m weights (2 each). Rows go by topology from 1
unfoldable pub row_bytes : Set → ℕ → List ℕ
row_bytes S j = 0x42 ∷ 0x57 ∷ suc j ∷ flat (λ x. bytes2 (get_or S.rows (row_start S.net j + x) 0)) (row_weights S.net)

-- the whole file: the network, the links, the homes, the rows
unfoldable pub encode : Set → List ℕ
encode S =
    header_bytes S.net
    ++ (flat (link_bytes S) S.net.m ++ (flat (home_bytes S) (home_records S.net) ++ flat (row_bytes S) S.net.k))

-- ---- the fields in a file's bytes, by the record's place; 0 past the end

-- two bytes as one number, the first the higher
unfoldable pub two : List ℕ → ℕ → ℕ
two s at = 256 * get_or s at 0 + get_or s (at + 1) 0

-- the counts of the header
unfoldable pub header_of : List ℕ → Network
header_of s = record { n = get_or s 2 0; m = two s 3; k = get_or s 5 0; wmax = two s 6 }

-- link l's end a
unfoldable pub end_a : List ℕ → ℕ → ℕ
end_a s l = get_or s (link_place l + 2) 0

-- link l's end b
unfoldable pub end_b : List ℕ → ℕ → ℕ
end_b s l = get_or s (link_place l + 3) 0

-- link l's weight
unfoldable pub link_weight : List ℕ → ℕ → ℕ
link_weight s l = two s (link_place l + 4)

-- the node that home record v names
unfoldable pub home_node : List ℕ → Network → ℕ → ℕ
home_node s h v = get_or s (home_place h v + 2) 0

-- the topology that home record v names: node v's home
unfoldable pub home_topology : List ℕ → Network → ℕ → ℕ
home_topology s h v = get_or s (home_place h v + 3) 0

-- the topology that row record j names
unfoldable pub row_topology : List ℕ → Network → ℕ → ℕ
row_topology s h j = get_or s (row_place h j + 2) 0

-- weight x of row record j
unfoldable pub row_weight : List ℕ → Network → ℕ → ℕ → ℕ
row_weight s h j x = two s (row_place h j + row_head_length + weight_length * x)

-- the set that a file's bytes hold
unfoldable pub set_of : List ℕ → Set
set_of s =
    let h : Network = header_of s in
    record {
      net = h;
      a = up_to (end_a s) h.m;
      b = up_to (end_b s) h.m;
      weights = up_to (link_weight s) h.m;
      homes = up_to (home_topology s h) (home_records h);
      rows = flat (λ j. up_to (row_weight s h j) (row_weights h)) h.k;
    }
