-- A set of nodes as one word: node v is in it where its binary digit v is 1. Each operation of the code by name.
use Rattle.std.specs.Prelude.{Bool, true, false, ℕ, zero, suc, ◌-◌, ◌/◌, ◌%◌, ◌^◌, eqb}
use Rattle.std.specs.Int.Bits.{bit_and, bit_or}
use Rattle.std.specs.Int.Count.{count_trailing_zeros}

-- v is in w
unfoldable pub has : ℕ → ℕ → Bool
has w zero = eqb (w % 2) 1
has w (suc v) = has (w / 2) v

unfoldable pub both : ℕ → ℕ → ℕ
both a b = bit_and a b

unfoldable pub either : ℕ → ℕ → ℕ
either a b = bit_or a b

unfoldable pub minus : ℕ → ℕ → ℕ
minus a b = bit_and a (2 ^ 32 - 1 - b)

unfoldable pub only : ℕ → ℕ
only v = 2 ^ v

unfoldable pub adding : ℕ → ℕ → ℕ
adding w v = bit_or w (2 ^ v)

unfoldable pub removing : ℕ → ℕ → ℕ
removing w v = bit_and w (2 ^ 32 - 1 - 2 ^ v)

-- the nodes 0 to n - 1
unfoldable pub firsts : ℕ → ℕ
firsts n = 2 ^ n - 1

-- the lowest member, or 32 where there is none
unfoldable pub lowest_in : ℕ → ℕ
lowest_in w = count_trailing_zeros 32 w

-- v comes in where the test held
unfoldable pub put : Bool → ℕ → ℕ → ℕ
put true w v = adding w v
put false w v = w
