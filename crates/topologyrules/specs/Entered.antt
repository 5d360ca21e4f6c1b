-- A node that comes into one of the words.
use Rattle.std.specs.Prelude.{List, ℕ, get_or, set}
use Rattle.words.specs.Word.{adding}

-- y comes into x's word
unfoldable pub entered : List ℕ → ℕ → ℕ → List ℕ
entered nb x y = set nb x (adding (get_or nb x 0) y)
