-- The entry `run`: from a source to a destination under a failure, with lent tables and a lent trail. Refusals 1 to 6, 7 and 8 by topology, 13, 11, 12, 14.
use Rattle.std.specs.Prelude.{List, [], ◌∷◌, ℕ}
use Rattle.rules.specs.declared.Failure.{Failure}
use Rattle.rules.specs.Basics.{laid}
use Rattle.rules.specs.Limits.{tables_length, trail_room}
use Rattle.rules.specs.File.{header_of, set_of}
use Rattle.rules.specs.Distance.{table_bytes}
use Rattle.rules.specs.Forwarding.{fault_of, packet, Run, hops, trail, letter, run_under}
use Rattle.rules.specs.Judgement.{and_then, take_set, need_packet, need_source, need_room}
use Rattle.rules.specs.Answers.{RunAnswer, outcome_value, run_tells}
use Rattle.rules.specs.Entries.Entry.{Entry}

-- what a run is given
pub record RunInput : Type 0 where
  pub file : List ℕ
  pub source : ℕ
  pub destination : ℕ
  pub failure : Failure

-- what a run is lent
pub record RunLent : Type 0 where
  pub tables : List ℕ
  pub trail : List ℕ

-- the run
unfoldable pub run_of : RunInput → Run
run_of i = run_under (set_of i.file) (fault_of i.failure) i.source i.destination

-- how it ended, its hops, its last topology, and the letter of its change
unfoldable pub run_values : Run → List ℕ
run_values r = outcome_value r.outcome ∷ hops r ∷ r.topology ∷ letter r.kind ∷ []

-- the entry `run`
unfoldable pub run_entry : Entry RunInput RunLent RunAnswer
run_entry =
    record {
      verdict = λ i d.
          and_then (take_set i.file)
          (and_then (need_packet (header_of i.file) (packet i.source i.destination 0) i.failure)
          (and_then (need_source i.source i.failure)
          (and_then (need_room (tables_length (header_of i.file)) d.tables)
          (need_room (trail_room (header_of i.file)) d.trail))));
      tells = run_tells;
      gives = λ i d. run_values (run_of i);
      leaves = λ i d.
          record { tables = laid (table_bytes (set_of i.file)) d.tables; trail = laid (trail i.source (run_of i)) d.trail };
    }
