-- The tables that an answer of the entry `tables` goes with, and the text that the program prints.
use Rattle.std.specs.Prelude.{◌≡◌, List, ℕ, ◌+◌, ◌*◌, ◌≤◌, length, Ok, Err}
use Rattle.rules.specs.Basics.{laid}
use Rattle.rules.specs.declared.Refusal.{Refusal}
use Rattle.rules.specs.Verdict.{Accepted, number_of}
use Rattle.rules.specs.Limits.{tables_length}
use Rattle.rules.specs.File.{header_of, set_of}
use Rattle.rules.specs.Judgement.{take_set}
use Rattle.rules.specs.Report.{refusal_line, printed}
use Rattle.rules.specs.Entries.Entry.{Promise}
use Rattle.rules.specs.Entries.Tables.{tables_entry}
use Rattle.rules.specs.Answers.{LengthAnswer}
use Rattle.text.specs.Text.{Wrote, labelled_room}

-- what the entry `tables` answered of file s, and the tables it left in room that is enough for them
pub record Made (s : List ℕ) (answer : LengthAnswer) (tables : List ℕ) : Type 0 where
  pub before : List ℕ
  pub enough : take_set s ≡ Accepted → tables_length (header_of s) ≤ length before
  pub kept : Promise tables_entry s before answer tables

-- the line of a refusal: two labels with their numbers, and the newline
abbrev pub refusal_room : ℕ
refusal_room = 2 * labelled_room + 1

-- what is said of an answer: the text that the report left, or else the refusal's line
pub data Says (answer : LengthAnswer) (old : List ℕ) (r : ℕ) (new : List ℕ) : Type 0 where
  it : answer ≡ Ok r → new ≡ old → Says answer old r new
  line : (refusal : Refusal) → answer ≡ Err refusal → Wrote old 0 (refusal_line (number_of refusal.rule) refusal.place) refusal_room r new → Says answer old r new

-- what the program prints of file s stands at the front of the text, r bytes
pub record Printed (s old : List ℕ) (r : ℕ) (new : List ℕ) : Type 0 where
  pub is : new ≡ laid (printed (set_of s) (take_set s)) old
  pub long : r ≡ length (printed (set_of s) (take_set s))
  pub fits : r ≤ length new
