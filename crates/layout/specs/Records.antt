-- The bytes of a record, by the values of its fields.
use Rattle.std.specs.Prelude.{List, [], ◌∷◌, ℕ, get_or}
use Rattle.rules.specs.File.{bytes2}

-- link: mark, a, b, weight
unfoldable pub link_record : ℕ → ℕ → ℕ → List ℕ
link_record a b w = 0x4C ∷ 0x4B ∷ a ∷ b ∷ bytes2 w

-- home: mark, node, topology
unfoldable pub home_record : ℕ → ℕ → List ℕ
home_record v topology = 0x48 ∷ 0x4D ∷ v ∷ topology ∷ []

-- node v's home record, by the list of homes
unfoldable pub home_of : List ℕ → ℕ → List ℕ
home_of homes v = home_record v (get_or homes v 0)

-- the start of a row: mark, topology
unfoldable pub row_head : ℕ → List ℕ
row_head topology = 0x42 ∷ 0x57 ∷ topology ∷ []
