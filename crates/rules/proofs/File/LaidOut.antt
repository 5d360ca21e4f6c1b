-- The file of a set, field by field, as 01's table has it.
use mathlib.Core.Path.{◌≡◌}
use Prim.Native.Nat.{ℕ, suc, ◌+◌, ◌*◌, ◌<◌}
use native.Mathlib.Omega.{arith}
use lib.ListN.{get_or}
use Rattle.rules.specs.Limits.{row_weights, row_length, link_place, home_place, row_place}
use Rattle.rules.specs.File.{Set, bytes2, header_bytes, link_bytes, home_bytes, row_bytes, encode}
use Rattle.rules.specs.Isolation.{row_in_force}
use Rattle.rules.specs.Sets.{at}
use Rattle.rules.specs.Demands.Two.{weight_place, FilesLaidOut}
use Rattle.rules.proofs.File.Encoded.{encode_long, moved, at_header, at_link, at_home, at_row, at_weight}
use Rattle.rules.proofs.Isolation.HomesAndRows.{row_entry}

module _ (S : Set) where
  -- byte 0 of a record stands at the record's place
  first : (p x : ℕ) → get_or (encode S) (p + 0) 0 ≡ x → get_or (encode S) p 0 ≡ x
  first p x e = moved S p (p + 0) x (omega arith) e

  row_weights_laid : (j : ℕ) → j < S.net.k → (x : ℕ) → x < row_weights S.net
      → 256 * at (encode S) (weight_place S.net j x) + at (encode S) (weight_place S.net j x + 1) ≡ at (row_in_force S (suc j)) x
  unfolding bytes2 row_weights
  row_weights_laid j h x g =
      let p : ℕ = row_place S.net j in
      let high = moved S (p + 3 + 2 * x) (p + (3 + (x * 2 + 0))) _ (omega arith) (at_weight S j x 0 h g (omega arith)) in
      let low = moved S (p + 3 + 2 * x + 1) (p + (3 + (x * 2 + 1))) _ (omega arith) (at_weight S j x 1 h g (omega arith)) in
      omega (arith, high, low, row_entry S j x g)

pub files_laid_out : FilesLaidOut
unfolding header_bytes link_bytes home_bytes row_bytes row_length bytes2
files_laid_out S =
    record {
      network = (
        at_header S 0 (omega arith),
        at_header S 1 (omega arith),
        at_header S 2 (omega arith),
        omega (arith, at_header S 3 (omega arith), at_header S 4 (omega arith)),
        at_header S 5 (omega arith),
        omega (arith, at_header S 6 (omega arith), at_header S 7 (omega arith)),
      );
      link = λ l h. (
        first S (link_place l) _ (at_link S l 0 h (omega arith)),
        at_link S l 1 h (omega arith),
        at_link S l 2 h (omega arith),
        at_link S l 3 h (omega arith),
        omega (arith, at_link S l 4 h (omega arith), at_link S l 5 h (omega arith)),
      );
      home = λ v h. (
        first S (home_place S.net v) _ (at_home S v 0 h (omega arith)),
        at_home S v 1 h (omega arith),
        at_home S v 2 h (omega arith),
        at_home S v 3 h (omega arith),
      );
      row = λ j h. (
        first S (row_place S.net j) _ (at_row S j 0 h (omega arith)),
        at_row S j 1 h (omega arith),
        at_row S j 2 h (omega arith),
        row_weights_laid S j h,
      );
      long = encode_long S;
    }
