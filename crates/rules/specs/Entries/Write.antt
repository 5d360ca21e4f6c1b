-- The entry `write`: from a header and five lists into a lent file. Refusals 3, 1 for a short list, 4 to 6, 7 and 8 by topology, 14: "The writer gives the
-- number and place the reader would give for what it would write; [..] a list shorter than the counts need is 1"; "the writer gives 7 and 8 too" (02, h).
use Rattle.std.specs.Prelude.{List, [], ◌∷◌, ℕ}
use Rattle.rules.specs.declared.Network.{Network}
use Rattle.rules.specs.Basics.{laid}
use Rattle.rules.specs.Limits.{need_counts, file_length}
use Rattle.rules.specs.File.{Set, encode}
use Rattle.rules.specs.Judgement.{refuse, and_then, take_in, need_room}
use Rattle.rules.specs.Answers.{LengthAnswer, length_tells}
use Rattle.rules.specs.Entries.Entry.{Entry}
use Rattle.rules.specs.Entries.Lists.{Lists, need_lists}

-- what writing is given
pub record WriteInput : Type 0 where
  pub net : Network
  pub lists : Lists

-- the set of a header and five lists
unfoldable pub set_with : Network → Lists → Set
set_with h d = record { net = h; a = d.a; b = d.b; weights = d.weights; homes = d.homes; rows = d.rows }

-- the entry `write`
unfoldable pub write_entry : Entry WriteInput (List ℕ) LengthAnswer
write_entry =
    record {
      verdict = λ i file.
          and_then (refuse (need_counts i.net 0) 0)
          (and_then (need_lists 1 i.net i.lists)
          (and_then (take_in (encode (set_with i.net i.lists)))
          (need_room (file_length i.net) file)));
      tells = length_tells;
      gives = λ i file. file_length i.net ∷ [];
      leaves = λ i file. laid (encode (set_with i.net i.lists)) file;
    }
