-- The entry `tables`: from a file into a lent buffer. Refusals 1 to 6, 7 and 8 by topology, 13, 14.
use Rattle.std.specs.Prelude.{List, [], ◌∷◌, ℕ}
use Rattle.rules.specs.Basics.{laid}
use Rattle.rules.specs.Limits.{tables_length}
use Rattle.rules.specs.File.{header_of, set_of}
use Rattle.rules.specs.Distance.{table_bytes}
use Rattle.rules.specs.Judgement.{and_then, take_set, need_room}
use Rattle.rules.specs.Answers.{LengthAnswer, length_tells}
use Rattle.rules.specs.Entries.Entry.{Entry}

-- the entry `tables`
unfoldable pub tables_entry : Entry (List ℕ) (List ℕ) LengthAnswer
tables_entry =
    record {
      verdict = λ s d. and_then (take_set s) (need_room (tables_length (header_of s)) d);
      tells = length_tells;
      gives = λ s d. tables_length (header_of s) ∷ [];
      leaves = λ s d. laid (table_bytes (set_of s)) d;
    }
