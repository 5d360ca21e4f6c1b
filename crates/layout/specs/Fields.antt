-- What a record's fields hold.
use Rattle.std.specs.Prelude.{◌≡◌, List, ℕ, ◌+◌, get_or}
use Rattle.rules.specs.Limits.{link_place}
use Rattle.rules.specs.File.{end_a, end_b, link_weight}
use Rattle.layout.specs.declared.LinkFields.{LinkFields}

-- these are the fields of link l's record
pub record LinkAt (s : List ℕ) (l : ℕ) (r : LinkFields) : Type 0 where
  pub first : r.x ≡ get_or s (link_place l) 0
  pub second : r.y ≡ get_or s (link_place l + 1) 0
  pub a_is : r.a ≡ end_a s l
  pub b_is : r.b ≡ end_b s l
  pub weight : r.weight ≡ link_weight s l
