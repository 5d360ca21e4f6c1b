-- The entry `report`: from a file into lent room for its text. Refusals 1 to 6, 7 and 8 by topology, 13, 14: room for the longest report is always enough (`ReportFits`).
use Rattle.std.specs.Prelude.{List, [], ◌∷◌, ℕ, length}
use Rattle.rules.specs.Basics.{laid}
use Rattle.rules.specs.File.{set_of}
use Rattle.rules.specs.Judgement.{and_then, take_set, need_room}
use Rattle.rules.specs.Report.{report_text}
use Rattle.rules.specs.Answers.{LengthAnswer, length_tells}
use Rattle.rules.specs.Entries.Entry.{Entry}

-- the entry `report`
unfoldable pub report_entry : Entry (List ℕ) (List ℕ) LengthAnswer
report_entry =
    record {
      verdict = λ s d. and_then (take_set s) (need_room (length (report_text (set_of s))) d);
      tells = length_tells;
      gives = λ s d. length (report_text (set_of s)) ∷ [];
      leaves = λ s d. laid (report_text (set_of s)) d;
    }
