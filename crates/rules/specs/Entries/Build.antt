-- The entry `build`: from a graph's file and a cap into a lent file. Refusals 1 to 6, 7 and 8 by topology, 13, 11, 9, 10, 14.
use Rattle.std.specs.Prelude.{List, [], ◌∷◌, ℕ}
use Rattle.rules.specs.Basics.{laid}
use Rattle.rules.specs.Limits.{file_length}
use Rattle.rules.specs.File.{Set, encode, header_of, set_of}
use Rattle.rules.specs.Building.{built}
use Rattle.rules.specs.Judgement.{and_then, take_in, need_graph, need_cap, need_fit, need_room}
use Rattle.rules.specs.Answers.{LengthAnswer, length_tells}
use Rattle.rules.specs.Entries.Entry.{Entry}

-- what building is given
pub record BuildInput : Type 0 where
  pub file : List ℕ
  pub cap : ℕ

-- the set that is built
unfoldable pub built_from : BuildInput → Set
built_from i = built (set_of i.file) i.cap

-- the entry `build`
unfoldable pub build_entry : Entry BuildInput (List ℕ) LengthAnswer
build_entry =
    record {
      verdict = λ i file.
          and_then (take_in i.file)
          (and_then (need_graph (header_of i.file))
          (and_then (need_cap i.cap)
          (and_then (need_fit (set_of i.file) i.cap)
          (need_room (file_length (built_from i).net) file))));
      tells = length_tells;
      gives = λ i file. file_length (built_from i).net ∷ [];
      leaves = λ i file. laid (encode (built_from i)) file;
    }
