-- What stands where in the bytes of a set.
use mathlib.Core.Path.{◌≡◌, refl, sym, ap, ◌∙◌}
use mathlib.Core.List.{List, [], ◌∷◌, ◌++◌}
use Prim.Native.Nat.{ℕ, suc, ◌+◌, ◌*◌, ◌/◌, ◌%◌, ◌<◌}
use native.Mathlib.Omega.{arith}
use lib.ListN.{length, get_or, length-append, get_or-append}
use lib.Seq.{get_or-append-add}
use Rattle.rules.specs.declared.Network.{Network}
use Rattle.rules.specs.Basics.{flat}
use Rattle.rules.specs.Limits.{home_records, row_weights, row_length, link_place, home_place, row_place, file_length}
use Rattle.rules.specs.File.{Set, bytes2, header_bytes, link_bytes, home_bytes, row_start, row_bytes, encode, two, header_of, end_a, end_b, link_weight, home_node, home_topology, row_topology, row_weight}
use Rattle.rules.proofs.Ground.Rows.{length_flat, get_d_flat}

-- the two bytes of a mark stand at this place
pub record Marked (s : List ℕ) (at x y : ℕ) : Type 0 where
  pub first : get_or s at 0 ≡ x
  pub second : get_or s (at + 1) 0 ≡ y

-- two headers with the same counts are one
pub same_header : (h h' : Network) → h.n ≡ h'.n → h.m ≡ h'.m → h.k ≡ h'.k → h.wmax ≡ h'.wmax → h ≡ h'
same_header h h' n m k w = λ i. record { n = n i; m = m i; k = k i; wmax = w i }

module _ (S : Set) where
  abbrev links : List ℕ
  links = flat (link_bytes S) S.net.m

  abbrev homes : List ℕ
  homes = flat (home_bytes S) (home_records S.net)

  abbrev rows : List ℕ
  rows = flat (row_bytes S) S.net.k

  abbrev weight : ℕ → ℕ → List ℕ
  weight j x = bytes2 (get_or S.rows (row_start S.net j + x) 0)

  -- ---- lengths

  pub link_long : (l : ℕ) → l < S.net.m → length (link_bytes S l) ≡ 6
  unfolding link_bytes bytes2
  link_long l h = refl

  pub home_long : (v : ℕ) → v < home_records S.net → length (home_bytes S v) ≡ 4
  unfolding home_bytes
  home_long v h = refl

  weight_long : (j x : ℕ) → x < row_weights S.net → length (weight j x) ≡ 2
  unfolding bytes2
  weight_long j x h = refl

  pub row_long : (j : ℕ) → j < S.net.k → length (row_bytes S j) ≡ row_length S.net
  unfolding row_bytes row_length
  row_long j h = omega (arith, length_flat (weight j) 2 (row_weights S.net) (weight_long j))

  pub header_long : length (header_bytes S.net) ≡ 8
  unfolding header_bytes bytes2
  header_long = refl

  pub links_long : length links ≡ S.net.m * 6
  links_long = length_flat (link_bytes S) 6 S.net.m link_long

  pub homes_long : length homes ≡ home_records S.net * 4
  homes_long = length_flat (home_bytes S) 4 (home_records S.net) home_long

  rows_long : length rows ≡ S.net.k * row_length S.net
  rows_long = length_flat (row_bytes S) (row_length S.net) S.net.k row_long

  pub encode_long : length (encode S) ≡ file_length S.net
  unfolding encode file_length row_place home_place link_place
  encode_long =
      omega (arith, header_long, links_long, homes_long, rows_long, length-append (header_bytes S.net) (links ++ (homes ++ rows)), length-append links (homes ++ rows), length-append homes rows)

  -- ---- byte j of each record

  pub moved : (p q v : ℕ) → p ≡ q → get_or (encode S) q 0 ≡ v → get_or (encode S) p 0 ≡ v
  moved p q v e d = ap (λ (x : ℕ). get_or (encode S) x 0) e ∙ d

  pub at_header : (j : ℕ) → j < 8 → get_or (encode S) j 0 ≡ get_or (header_bytes S.net) j 0
  unfolding encode
  at_header j h = get_or-append (header_bytes S.net) (links ++ (homes ++ rows)) 0 j (omega (arith, header_long))

  after_header : (p : ℕ) → get_or (encode S) (8 + p) 0 ≡ get_or (links ++ (homes ++ rows)) p 0
  unfolding encode header_bytes bytes2
  after_header p = get_or-append-add (header_bytes S.net) (links ++ (homes ++ rows)) p 0

  after_links : (p : ℕ) → get_or (encode S) (8 + (S.net.m * 6 + p)) 0 ≡ get_or (homes ++ rows) p 0
  after_links p =
      after_header (S.net.m * 6 + p)
      ∙ ap (λ (x : ℕ). get_or (links ++ (homes ++ rows)) (x + p) 0) (sym links_long)
      ∙ get_or-append-add links (homes ++ rows) p 0

  pub at_link : (l j : ℕ) → l < S.net.m → j < 6 → get_or (encode S) (link_place l + j) 0 ≡ get_or (link_bytes S l) j 0
  unfolding link_place
  at_link l j h g =
      moved (8 + 6 * l + j) (8 + (l * 6 + j)) _ (omega arith)
      (after_header (l * 6 + j)
      ∙ get_or-append links (homes ++ rows) 0 (l * 6 + j) (omega (arith, links_long))
      ∙ get_d_flat (link_bytes S) 6 S.net.m l j 0 link_long h g)

  pub at_home : (v j : ℕ) → v < home_records S.net → j < 4 → get_or (encode S) (home_place S.net v + j) 0 ≡ get_or (home_bytes S v) j 0
  unfolding link_place home_place
  at_home v j h g =
      moved (8 + 6 * S.net.m + 4 * v + j) (8 + (S.net.m * 6 + (v * 4 + j))) _ (omega arith)
      (after_links (v * 4 + j)
      ∙ get_or-append homes rows 0 (v * 4 + j) (omega (arith, homes_long))
      ∙ get_d_flat (home_bytes S) 4 (home_records S.net) v j 0 home_long h g)

  pub at_row : (j x : ℕ) → j < S.net.k → x < row_length S.net → get_or (encode S) (row_place S.net j + x) 0 ≡ get_or (row_bytes S j) x 0
  unfolding link_place home_place row_place
  at_row j x h g =
      let r : ℕ = j * row_length S.net in
      moved (8 + 6 * S.net.m + 4 * home_records S.net + r + x) (8 + (S.net.m * 6 + (home_records S.net * 4 + (r + x)))) _ (omega arith)
      (after_links (home_records S.net * 4 + (r + x))
      ∙ ap (λ (y : ℕ). get_or (homes ++ rows) (y + (r + x)) 0) (sym homes_long)
      ∙ get_or-append-add homes rows (r + x) 0
      ∙ get_d_flat (row_bytes S) (row_length S.net) S.net.k j x 0 row_long h g)

  pub at_weight : (j x t : ℕ) → j < S.net.k → x < row_weights S.net → t < 2 → get_or (encode S) (row_place S.net j + (3 + (x * 2 + t))) 0 ≡ get_or (weight j x) t 0
  unfolding row_bytes row_length
  at_weight j x t h g i =
      at_row j (3 + (x * 2 + t)) h (omega arith)
      ∙ get_or-append-add (0x42 ∷ 0x57 ∷ suc j ∷ []) (flat (weight j) (row_weights S.net)) (x * 2 + t) 0
      ∙ get_d_flat (weight j) 2 (row_weights S.net) x t 0 (weight_long j) g i

  -- ---- the fields

  two_at : (p x : ℕ) → get_or (encode S) p 0 ≡ x / 256 → get_or (encode S) (p + 1) 0 ≡ x % 256 → two (encode S) p ≡ x
  unfolding two
  two_at p x a b = omega (arith, a, b)

  pub header_back : header_of (encode S) ≡ S.net
  unfolding header_of header_bytes bytes2
  header_back =
      same_header (header_of (encode S)) S.net (at_header 2 (omega arith))
      (two_at 3 S.net.m (at_header 3 (omega arith)) (at_header 4 (omega arith)))
      (at_header 5 (omega arith))
      (two_at 6 S.net.wmax (at_header 6 (omega arith)) (at_header 7 (omega arith)))

  pub header_marked : Marked (encode S) 0 0x4E 0x57
  unfolding header_bytes
  header_marked = record { first = at_header 0 (omega arith); second = at_header 1 (omega arith) }

  module _ (l : ℕ) (h : l < S.net.m) where
    pub link_marked : Marked (encode S) (link_place l) 0x4C 0x4B
    unfolding link_bytes
    link_marked = record { first = moved _ (link_place l + 0) _ (omega arith) (at_link l 0 h (omega arith)); second = at_link l 1 h (omega arith) }

    pub end_a_back : end_a (encode S) l ≡ get_or S.a l 0
    unfolding end_a link_bytes
    end_a_back = at_link l 2 h (omega arith)

    pub end_b_back : end_b (encode S) l ≡ get_or S.b l 0
    unfolding end_b link_bytes
    end_b_back = at_link l 3 h (omega arith)

    pub link_weight_back : link_weight (encode S) l ≡ get_or S.weights l 0
    unfolding link_weight link_bytes bytes2
    link_weight_back =
        two_at (link_place l + 4) (get_or S.weights l 0) (at_link l 4 h (omega arith))
        (moved (link_place l + 4 + 1) (link_place l + 5) _ (omega arith) (at_link l 5 h (omega arith)))

  module _ (v : ℕ) (h : v < home_records S.net) where
    pub home_marked : Marked (encode S) (home_place S.net v) 0x48 0x4D
    unfolding home_bytes
    home_marked =
        record { first = moved _ (home_place S.net v + 0) _ (omega arith) (at_home v 0 h (omega arith)); second = at_home v 1 h (omega arith) }

    pub home_node_back : home_node (encode S) S.net v ≡ v
    unfolding home_node home_bytes
    home_node_back = at_home v 2 h (omega arith)

    pub home_topology_back : home_topology (encode S) S.net v ≡ get_or S.homes v 0
    unfolding home_topology home_bytes
    home_topology_back = at_home v 3 h (omega arith)

  module _ (j : ℕ) (h : j < S.net.k) where
    pub row_marked : Marked (encode S) (row_place S.net j) 0x42 0x57
    unfolding row_bytes row_length
    row_marked =
        record { first = moved _ (row_place S.net j + 0) _ (omega arith) (at_row j 0 h (omega arith)); second = at_row j 1 h (omega arith) }

    pub row_topology_back : row_topology (encode S) S.net j ≡ suc j
    unfolding row_topology row_bytes row_length
    row_topology_back = at_row j 2 h (omega arith)

    pub row_weight_back : (x : ℕ) → x < row_weights S.net → row_weight (encode S) S.net j x ≡ get_or S.rows (row_start S.net j + x) 0
    unfolding row_weight bytes2
    row_weight_back x g =
        let p : ℕ = row_place S.net j in
        two_at (p + 3 + 2 * x) (get_or S.rows (row_start S.net j + x) 0)
        (moved _ (p + (3 + (x * 2 + 0))) _ (omega arith) (at_weight j x 0 h g (omega arith)))
        (moved _ (p + (3 + (x * 2 + 1))) _ (omega arith) (at_weight j x 1 h g (omega arith)))
