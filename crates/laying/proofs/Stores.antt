-- The parts of a file, laid in turn, are the file.
use mathlib.Core.Path.{◌≡◌, refl, ap, ◌∙◌}
use mathlib.Core.List.{List, [], ◌∷◌, ◌++◌, append_assoc}
use Prim.Native.Nat.{ℕ, ◌+◌, ◌*◌, ◌<◌}
use native.Mathlib.Nat.{zero-mul}
use native.Mathlib.Numerals.{add-one}
use native.Mathlib.Omega.{arith}
use lib.ListN.{length, get_or, length-append}
use Rattle.rules.specs.declared.Network.{Network}
use Rattle.rules.specs.Basics.{flat}
use Rattle.rules.specs.Limits.{row_weights, row_length, home_records, link_place, home_place, row_place}
use Rattle.rules.specs.File.{Set, bytes2, header_bytes, link_bytes, home_bytes, row_start, row_bytes, encode}
use Rattle.rules.specs.Entries.Lists.{Lists}
use Rattle.rules.specs.Entries.Write.{set_with}
use Rattle.rules.proofs.Ground.Rows.{length_flat}
use Rattle.rules.proofs.File.Encoded.{header_long, links_long}
use Rattle.slices.specs.Stores.{put}
use Rattle.slices.proofs.Stores.{put_then, Storing, storing_none, storing_done, storing_more}
use Rattle.layout.specs.Records.{link_record, home_record, home_of, row_head}
use Rattle.layout.proofs.Places.{product_fits, row_near}
use Rattle.laying.specs.Parts.{link_of, weight_of, row_of}

-- ---- records

pub link_laid : (d e : List ℕ) (given : Lists) (l at x y w : ℕ) → at ≡ link_place l → x ≡ get_or given.a l 0 → y ≡ get_or given.b l 0 → w ≡ get_or given.weights l 0
    → e ≡ put d at (link_record x y w) → e ≡ put d (link_place l) (link_of given l)
unfolding link_of
link_laid d e given l at x y w p ex ey ew q = q ∙ rw (p, ex, ey, ew)

pub row_laid : (h : Network) (rows d e e' : List ℕ) (j at first count : ℕ) → at ≡ row_place h j → first ≡ row_start h j → count ≡ row_weights h
    → e ≡ put d at (row_head (j + 1)) → e' ≡ put e (at + 3) (flat (weight_of rows first) count) → e' ≡ put d (row_place h j) (row_of h rows j)
unfolding row_of row_head
row_laid h rows d e e' j at first count p q r s t =
    put_then d e e' at (at + 3) (0x42 ∷ 0x57 ∷ (j + 1) ∷ []) (flat (weight_of rows first) count) s t refl ∙ rw (p, q, r, add-one)

-- ---- records in turn

pub links_more : (given : Lists) (d e e' : List ℕ) (l m : ℕ) → Storing d e (link_place 0) (link_of given) l m → l < m
    → e' ≡ put e (link_place l) (link_of given l) → Storing d e' (link_place 0) (link_of given) (l + 1) m
unfolding link_place link_of link_record bytes2
links_more given d e e' l m s g q = storing_more d e e' 8 (link_of given) l m (8 + 6 * l) 6 _ s g (λ i _. refl) (omega arith) refl q

pub weights_more : (rows d e e' : List ℕ) (base first x n w : ℕ) → Storing d e base (weight_of rows first) x n → x < n
    → w ≡ get_or rows (first + x) 0 → e' ≡ put e (base + 2 * x) (bytes2 w) → Storing d e' base (weight_of rows first) (x + 1) n
unfolding bytes2 weight_of
weights_more rows d e e' base first x n w s g ew q =
    storing_more d e e' base (weight_of rows first) x n (base + 2 * x) 2 (bytes2 w) s g (λ i _. refl) (omega arith) (ap bytes2 ew) q

row_long : (h : Network) (rows : List ℕ) (j : ℕ) → length (row_of h rows j) ≡ row_length h
unfolding row_of row_head weight_of bytes2 row_length
row_long h rows j = let e = length_flat (weight_of rows (row_start h j)) 2 (row_weights h) (λ x l. refl) in omega arith

pub rows_more : (h : Network) (rows d e e' : List ℕ) (j : ℕ) → Storing d e (row_place h 0) (row_of h rows) j h.k → j < h.k
    → e' ≡ put e (row_place h j) (row_of h rows j) → Storing d e' (row_place h 0) (row_of h rows) (j + 1) h.k
unfolding row_place
rows_more h rows d e e' j s g q =
    storing_more d e e' _ (row_of h rows) j h.k _ (row_length h) _ s g (λ i r. row_long h rows i) (rw zero-mul (omega arith)) refl q

-- ---- the parts of a file

pub graph_laid : (h : Network) (d e e' L : List ℕ) → e ≡ put d 0 (header_bytes h) → e' ≡ put e (link_place 0) L → e' ≡ put d 0 (header_bytes h ++ L)
unfolding link_place header_bytes bytes2
graph_laid h d e e' L p q = put_then d e e' 0 8 (header_bytes h) L p q refl

pub backup_laid : (h : Network) (homes d e e' R : List ℕ) (n : ℕ) → n ≡ home_records h → e ≡ put d (home_place h 0) (flat (home_of homes) n)
    → e' ≡ put e (row_place h 0) R → e' ≡ put d (home_place h 0) (flat (home_of homes) (home_records h) ++ R)
unfolding row_place home_place home_of home_record
backup_laid h homes d e e' R n c p q =
    let long = length_flat (home_of homes) 4 (home_records h) (λ i _. refl) in
    put_then d e e' _ _ (flat (home_of homes) (home_records h)) R (p ∙ ap (λ (x : ℕ). put d (home_place h 0) (flat (home_of homes) x)) c) q
    (rw zero-mul (omega arith))

pub set_laid : (h : Network) (given : Lists) (d e e' : List ℕ) → e ≡ put d 0 (header_bytes h ++ flat (link_of given) h.m)
    → e' ≡ put e (home_place h 0) (flat (home_of given.homes) (home_records h) ++ flat (row_of h given.rows) h.k)
    → e' ≡ put d 0 (encode (set_with h given))
unfolding home_place link_place set_with encode link_bytes link_of link_record home_bytes home_of home_record row_bytes row_of row_head weight_of
set_laid h given d e e' p q =
    let S : Set = set_with h given in
    let L : List ℕ = flat (link_bytes S) h.m in
    let R : List ℕ = flat (home_bytes S) (home_records h) ++ flat (row_bytes S) h.k in
    put_then d e e' 0 _ (header_bytes h ++ L) R p q (omega (arith, header_long S, links_long S, length-append (header_bytes h) L))
    ∙ ap (put d 0) (append_assoc (header_bytes h) L R)

-- ---- where a row's weights stand

pub start_fits : (j w : ℕ) → j < 256 → w < 65536 → j * w < 18446744073709551616
start_fits j w h g = product_fits j w h (omega arith)

pub start_near : (j w : ℕ) → j < 256 → w < 65536 → j * w < 1073741824
start_near j w h g = omega (arith, row_near 0 j w (omega arith) h (omega arith))

pub row_start_is : (h : Network) (j w : ℕ) → w ≡ row_weights h → j * w ≡ row_start h j
unfolding row_start
row_start_is h j w e = rw e

pub ruleset lays = (start_fits, start_near, row_start_is, link_laid, row_laid, storing_done, links_more, weights_more, rows_more, graph_laid, backup_laid, set_laid)
