-- The entry `read`: takes in a file, of a set or of a graph alone, into five lent lists. Refusals 1 to 6, 7 and 8 by topology, 14.
use Rattle.std.specs.Prelude.{List, ℕ}
use Rattle.rules.specs.Basics.{laid}
use Rattle.rules.specs.File.{Set, header_of, set_of}
use Rattle.rules.specs.Judgement.{and_then, take_in}
use Rattle.rules.specs.Answers.{ReadAnswer, header_values, read_tells}
use Rattle.rules.specs.Entries.Entry.{Entry}
use Rattle.rules.specs.Entries.Lists.{Lists, lists, need_lists}

-- the set's lists at the front of the lent ones; entries past the counts stay
unfoldable pub lists_with : Set → Lists → Lists
lists_with S d = lists (laid S.a d.a) (laid S.b d.b) (laid S.weights d.weights) (laid S.homes d.homes) (laid S.rows d.rows)

-- the entry `read`
unfoldable pub read_entry : Entry (List ℕ) Lists ReadAnswer
read_entry =
    record {
      verdict = λ s d. and_then (take_in s) (need_lists 14 (header_of s) d);
      tells = read_tells;
      gives = λ s d. header_values (header_of s);
      leaves = λ s d. lists_with (set_of s) d;
    }
