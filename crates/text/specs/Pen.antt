-- What a pen wrote.
use Rattle.std.specs.Prelude.{◌≡◌, List, ℕ}
use Rattle.text.specs.declared.Pen.{Pen}
use Rattle.text.specs.Text.{Wrote}

-- the bytes stand from the pen's place on, as far as the text reaches, and the pen is after them, on the text that it was on
pub record Writes (old : Pen) (bytes : List ℕ) (most : ℕ) (new : Pen) : Type 0 where
  pub held : new.text.ghost_name ≡ old.text.ghost_name
  pub wrote : Wrote old.text.now old.at bytes most new.at new.text.now
