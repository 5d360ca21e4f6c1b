-- What the digits of a text mean: a decimal number from 0 to 255, or none.
use Rattle.std.specs.Prelude.{◌&&◌, List, [], ◌∷◌, ℕ, ◌+◌, ◌*◌, ◌-◌, eqb, leb, length, if◌then◌else◌, Option, Some, None}
use Rattle.std.specs.Option.{option_and_then}

-- the number that one more digit makes: 48 to 57 are the digits' bytes
unfoldable pub more : ℕ → ℕ → Option ℕ
more value digit = if leb 48 digit && (leb digit 57 && leb (10 * value + (digit - 48)) 255) then Some (10 * value + (digit - 48)) else None

-- the number that a value makes with the digits that follow
unfoldable pub value_of : ℕ → List ℕ → Option ℕ
value_of value [] = Some value
value_of value (digit ∷ s) = option_and_then (λ next. value_of next s) (more value digit)

-- the whole text's number; the empty text has none
unfoldable pub number_in : List ℕ → Option ℕ
number_in s = if eqb (length s) 0 then None else value_of 0 s
