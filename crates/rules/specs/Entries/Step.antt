-- The entry `step`: of a packet, by a file and the tables that are lent, as they are. Refusals 1 to 6, 13, 11, 12, 14, 15.
use Rattle.std.specs.Prelude.{List, ℕ}
use Rattle.rules.specs.declared.Packet.{Packet}
use Rattle.rules.specs.declared.Failure.{Failure}
use Rattle.rules.specs.Limits.{tables_length}
use Rattle.rules.specs.File.{header_of, set_of}
use Rattle.rules.specs.Forwarding.{fault_of, up, lent_tables, step, lookup_number}
use Rattle.rules.specs.Judgement.{refuse, and_then, judge, need_set, need_packet, need_source, need_room}
use Rattle.rules.specs.Answers.{StepAnswer, step_values, step_tells}
use Rattle.rules.specs.Entries.Entry.{Entry, NothingLent}

-- what a step is given
pub record StepInput : Type 0 where
  pub file : List ℕ
  pub tables : List ℕ
  pub packet : Packet
  pub failure : Failure

-- 15 where an entry that the step looks up is no neighbour, else 0
unfoldable pub lookups_of : StepInput → ℕ
lookups_of i =
    lookup_number (set_of i.file) (lent_tables (header_of i.file) i.tables) (up (set_of i.file) (fault_of i.failure)) i.packet

-- what the step makes of the packet, in numbers
unfoldable pub step_of : StepInput → List ℕ
step_of i =
    step_values (step (set_of i.file) (lent_tables (header_of i.file) i.tables) (up (set_of i.file) (fault_of i.failure)) i.packet)

-- the entry `step`
unfoldable pub step_entry : Entry StepInput NothingLent StepAnswer
step_entry =
    record {
      verdict = λ i d.
          and_then (judge i.file)
          (and_then (need_set (header_of i.file))
          (and_then (need_packet (header_of i.file) i.packet i.failure)
          (and_then (need_source i.packet.place i.failure)
          (and_then (need_room (tables_length (header_of i.file)) i.tables)
          (refuse (lookups_of i) 0)))));
      tells = step_tells;
      gives = λ i d. step_of i;
      leaves = λ i d. d;
    }
