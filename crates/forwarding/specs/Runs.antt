-- The entry `run`: its input, what it is lent, its verdict, and what an accepted call answers and leaves.
use Rattle.std.specs.Prelude.{◌≡◌, List, ℕ, ◌≤◌, ◌<◌, leb, length}
use Rattle.rules.specs.declared.Packet.{Packet}
use Rattle.rules.specs.declared.Failure.{Failure}
use Rattle.rules.specs.declared.Journey.{Journey}
use Rattle.rules.specs.Verdict.{Verdict, Accepted}
use Rattle.rules.specs.Basics.{need, laid}
use Rattle.rules.specs.Limits.{tables_length, trail_room}
use Rattle.rules.specs.File.{header_of, set_of}
use Rattle.rules.specs.Distance.{table_bytes}
use Rattle.rules.specs.Forwarding.{fault_of, packet, trail, run_under}
use Rattle.rules.specs.Judgement.{refuse, and_then, take_set, need_packet, need_source}
use Rattle.rules.specs.Entries.Run.{RunInput, RunLent}
use Rattle.travel.specs.Trip.{journey_of}

abbrev pub run_input : List ℕ → ℕ → ℕ → Failure → RunInput
run_input s u t f = record { file = s; source = u; destination = t; failure = f }

abbrev pub run_lent : List ℕ → List ℕ → RunLent
run_lent tables trail = record { tables = tables; trail = trail }

-- by the lengths of the rooms: 1 to 6, 7 and 8 by topology, 13, 11, 12, 14
unfoldable pub run_verdict : RunInput → ℕ → ℕ → Verdict
run_verdict i tables trail =
    and_then (take_set i.file)
    (and_then (need_packet (header_of i.file) (packet i.source i.destination 0) i.failure)
    (and_then (need_source i.source i.failure)
    (and_then (refuse (need (leb (tables_length (header_of i.file)) tables) 14 0) 0)
    (refuse (need (leb (trail_room (header_of i.file)) trail) 14 0) 0))))

-- an accepted set, a packet within it at the start of its run, and room for tables and trail
pub record Ready (s : List ℕ) (start : Packet) (tables nodes : List ℕ) : Type 0 where
  pub set : take_set s ≡ Accepted
  pub node : start.place < (header_of s).n
  pub end : start.destination < (header_of s).n
  pub first : start.topology ≡ 0
  pub long : tables_length (header_of s) ≤ length tables
  pub room : trail_room (header_of s) ≤ length nodes

-- the answer, the tables and the trail are those of the run
pub record Ran (s : List ℕ) (start : Packet) (f : Failure) (before : RunLent) (r : Journey) (after : RunLent) : Type 0 where
  pub answer : r ≡ journey_of (run_under (set_of s) (fault_of f) start.place start.destination)
  pub tables : after.tables ≡ laid (table_bytes (set_of s)) before.tables
  pub trail : after.trail ≡ laid (trail start.place (run_under (set_of s) (fault_of f) start.place start.destination)) before.trail
