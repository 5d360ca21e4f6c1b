-- What a store leaves.
use Rattle.std.specs.Prelude.{List, ℕ}
use Rattle.std.proofs.lemmas.List.Edits.{sets}

-- d with these bytes from its place `at` on, as far as it reaches
unfoldable pub put : List ℕ → ℕ → List ℕ → List ℕ
put d at bytes = sets d at bytes
