-- Where records start: the products in a row's place are bounded; links stand before the file's end.
use mathlib.Core.Path.{◌≡◌}
use mathlib.Core.List.{List}
use Prim.Native.Nat.{ℕ, ◌+◌, ◌*◌, ◌≤◌, ◌<◌}
use native.Mathlib.Nat.{mul-le-mul}
use native.Mathlib.Omega.{arith}
use lib.ListN.{length}
use Rattle.rules.specs.declared.Network.{Network}
use Rattle.rules.specs.Limits.{row_length, home_records, link_place, home_place, row_place, file_length}

product : (j long : ℕ) → j < 256 → long < 262144 → j * long ≤ 255 * 262143
product j long h g = mul-le-mul {n₂ = 255} {m₂ = 262143} (omega arith) (omega arith)

-- the product fits a usize
pub product_fits : (j long : ℕ) → j < 256 → long < 262144 → j * long < 18446744073709551616
product_fits j long h g = omega (arith, product j long h g)

pub sum_fits : (at j long : ℕ) → at < 268435456 → j < 256 → long < 262144 → at + j * long < 18446744073709551616
sum_fits at j long g h l = omega (arith, product j long h l)

pub row_near : (at j long : ℕ) → at < 268435456 → j < 256 → long < 262144 → at + j * long < 536870912
row_near at j long g h l = omega (arith, product j long h l)

pub row_place_is : (h : Network) (j homes at long : ℕ) → at ≡ home_place h homes → homes ≡ home_records h → long ≡ row_length h → at + j * long ≡ row_place h j
unfolding row_place
row_place_is h j homes at long p q r = rw (p, q, r)

-- the links end before the file does
pub links_end : (h : Network) → link_place h.m ≤ file_length h
unfolding file_length row_place home_place link_place
links_end h = omega arith

-- a link before the last of those that stand in the file does
pub link_inside : (s : List ℕ) (l x m : ℕ) → link_place m ≤ length s → x < m → l ≡ x → link_place (l + 1) ≤ length s
unfolding link_place
link_inside s l x m h g e = omega arith

pub ruleset places = (product_fits, sum_fits, row_near, row_place_is)
