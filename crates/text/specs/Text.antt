-- Bytes written into a text from a place on.
use Rattle.std.specs.Prelude.{◌≡◌, List, ◌++◌, ℕ, ◌+◌, ◌≤◌, length}
use Rattle.rules.specs.Report.{decimal, space}
use Rattle.slices.specs.Stores.{put}

-- the bytes stand in the text, as far as it reaches, and r is the place after them. They are at most so many, so that no place wraps
pub record Wrote (old : List ℕ) (at : ℕ) (bytes : List ℕ) (most r : ℕ) (new : List ℕ) : Type 0 where
  pub is : new ≡ put old at bytes
  pub on : r ≡ at + length bytes
  pub few : r ≤ at + most
  pub long : length new ≡ length old

-- a number and the space after it
unfoldable pub field : ℕ → List ℕ
field x = decimal x ++ space

-- ---- how many bytes are allowed for, at most

-- a number of 64 bits in decimal
abbrev pub number_room : ℕ
number_room = 20

-- a number and the minus sign before it
abbrev pub signed_room : ℕ
signed_room = 1 + number_room

-- a number and the space after it
abbrev pub field_room : ℕ
field_room = number_room + 1

-- a label
abbrev pub label_room : ℕ
label_room = 16

-- a label and the number after it
abbrev pub labelled_room : ℕ
labelled_room = label_room + number_room
