-- Products of small numbers, and the sizes that follow from a header's counts.
use mathlib.Core.Path.{◌≡◌, refl, ap, ◌∙◌}
use Prim.Native.Nat.{ℕ, ◌+◌, ◌-◌, ◌*◌, ◌≤◌, ◌<◌}
use native.Mathlib.Nat.{mul-le-mul}
use native.Mathlib.Omega.{arith}
use Rattle.rules.specs.declared.Network.{Network}
use Rattle.rules.specs.Limits.{restricted_weight, row_length, row_weights, home_records, link_place, home_place, row_place, file_length, tables_length, most_hops, trail_room, report_header, report_line, report_last, report_room}
use Rattle.rules.specs.Forwarding.{entry_place}

-- ---- products

pub small_product : (x y : ℕ) → x < 1048576 → y < 1048576 → x * y < 1099511627776
small_product x y p q =
    let h : x * y ≤ 1048575 * 1048575 = mul-le-mul {n₂ = 1048575} {m₂ = 1048575} (omega arith) (omega arith) in
    omega arith

pub product_fits : (x y : ℕ) → x < 1048576 → y < 1048576 → x * y < 18446744073709551616
product_fits x y p q = omega (arith, small_product x y p q)

pub byte_square : (n : ℕ) → n < 256 → n * n < 65536
byte_square n p =
    let h : n * n ≤ 255 * 255 = mul-le-mul {n₂ = 255} {m₂ = 255} (omega arith) (omega arith) in
    omega arith

pub square_low : (n r : ℕ) → r ≡ n * n → n < 256 → r < 65536
square_low n r e p = rw e (byte_square n p)

pub weight_fits : (m wmax : ℕ) → m ≤ 128 → wmax < 65536 → 2 * m * wmax < 4294967296
weight_fits m wmax p q =
    let h : 2 * m * wmax ≤ 256 * 65535 = mul-le-mul {n₂ = 256} {m₂ = 65535} (omega arith) (omega arith) in
    omega arith

pub pairs_few : (n r : ℕ) → r ≡ n * (n - 1) → n ≤ 32 → r < 1048576
pairs_few n r e p =
    let h : n * (n - 1) ≤ 32 * 31 = mul-le-mul {n₂ = 32} {m₂ = 31} p (omega arith) in
    omega arith

-- ---- sizes

pub restricted_is : (h : Network) → 2 * h.m * h.wmax ≡ restricted_weight h
unfolding restricted_weight
restricted_is h = refl

pub file_long : (h : Network) (links homes rows records row : ℕ) → links ≡ 6 * h.m → homes ≡ 4 * records → records ≡ home_records h → rows ≡ h.k * row → row ≡ row_length h
    → 8 + links + homes + rows ≡ file_length h
unfolding file_length row_place home_place link_place
file_long h links homes rows records row a b c d e = rw (a, b, c, d, e)

pub row_long : (h : Network) (weights : ℕ) → weights ≡ row_weights h → 3 + 2 * weights ≡ row_length h
unfolding row_length
row_long h weights e = rw e

pub entries_are : (h : Network) (weights r : ℕ) → r ≡ h.k * weights → weights ≡ row_weights h → r ≡ h.k * row_weights h
entries_are h weights r e d = e ∙ ap (λ (x : ℕ). h.k * x) d

pub tables_long : (h : Network) (a b : ℕ) → a ≡ h.n * h.n → b ≡ (h.k + 1) * a → b + a ≡ tables_length h
unfolding tables_length
tables_long h a b e d = rw (d, e)

pub entry_at : (h : Network) (i u t size table row : ℕ) → size ≡ h.n * h.n → table ≡ i * size → row ≡ u * h.n → table + (row + t) ≡ entry_place h i u t
unfolding entry_place
entry_at h i u t size table row e a b = rw (a, b, e)

pub trail_none : (h : Network) → 2 * h.n < 2 → 0 ≡ trail_room h
unfolding trail_room
trail_none h l = omega arith

pub trail_some : (h : Network) → 2 ≤ 2 * h.n → 2 * h.n - 2 ≡ trail_room h
unfolding trail_room
trail_some h l = refl

pub room_long : (h : Network) (lines pairs : ℕ) → lines ≡ pairs * report_line → pairs ≡ h.n * (h.n - 1) → report_header + lines + report_last ≡ report_room h
unfolding report_room
room_long h lines pairs e d = rw (e, d)

pub hops_most : (h : Network) → 2 * h.n - 3 ≡ most_hops h
unfolding most_hops
hops_most h = refl

pub ruleset sizes = (small_product, product_fits, byte_square, square_low, weight_fits, restricted_is, file_long, row_long, entries_are, tables_long, entry_at, trail_none, trail_some, pairs_few, room_long, hops_most)
