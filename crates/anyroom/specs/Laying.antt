-- A text that was made in room of its own, laid into the room that is lent.
use Rattle.std.specs.Prelude.{◌≡◌, List, [], ◌∷◌, ℕ, length}
use Rattle.rules.specs.Basics.{laid}
use Rattle.rules.specs.Judgement.{need_room}
use Rattle.rules.specs.Answers.{LengthAnswer, tell, length_tells}
use Rattle.rules.specs.Entries.Entry.{on_accept}

-- bytes at the front of lent room, and how many they are; 14 and the room as it came where that is too short
pub record Copied (bytes before : List ℕ) (r : LengthAnswer) (after : List ℕ) : Type 0 where
  pub answer : length_tells r ≡ tell (need_room (length bytes) before) (length bytes ∷ [])
  pub lent : after ≡ on_accept (need_room (length bytes) before) (laid bytes before) before
