-- Demand 3, of the entry `run`: what it accepts, what it then answers and leaves, and that it is delivered.
use Rattle.std.specs.Prelude.{◌≡◌, false, List, ℕ, suc, ◌≤◌, ◌<◌, length, take, Ok}
use Rattle.rules.specs.declared.Outcome.TheVariants as ended
use Rattle.rules.specs.Limits.{tables_length, most_hops, trail_room}
use Rattle.rules.specs.File.{Set}
use Rattle.rules.specs.Forwarding.{fault_of, failed, up, lent_tables, packet, Run, hops, trail, run, run_under}
use Rattle.rules.specs.Entries.Entry.{Promise}
use Rattle.rules.specs.Entries.Tables.{tables_entry}
use Rattle.rules.specs.Entries.Run.{RunInput, RunLent, run_entry}
use Rattle.rules.specs.Sets.{AcceptedFile}
use Rattle.rules.specs.Demands.Form.{Front}
use Rattle.rules.specs.Demands.Delivery.{DeliveredBy}
use Rattle.rules.specs.Answers.{LengthAnswer, RunAnswer}
use Rattle.rules.specs.Demands.Step.{InRange, Standing}

-- run accepts exactly when the bytes are an accepted set's, source and destination are nodes, the failure is in its range and not the source, and tables
-- and trail have room
pub record RunMeets (S : Set) (i : RunInput) (d : RunLent) : Type 0 where
  pub file : AcceptedFile S i.file
  pub source : i.source < S.net.n
  pub destination : i.destination < S.net.n
  pub failure : InRange S.net i.failure
  pub standing : Standing i.source i.failure
  pub tables : tables_length S.net ≤ length d.tables
  pub trail : trail_room S.net ≤ length d.trail

-- and then it answers how the run of the forwarding rule ended, its hops, its topology and kind, leaves its nodes in the trail, and leaves in the
-- tables' room what the entry `tables` leaves there; steps by those bytes are the run
pub record RunGives (S : Set) (i : RunInput) (before : RunLent) (r : RunAnswer) (after : RunLent) : Type 0 where
  pub made : Run
  pub rule : made ≡ run_under S (fault_of i.failure) i.source i.destination
  pub answer : r ≡ Ok (record { outcome = made.outcome; hops = hops made; topology = made.topology; kind = made.kind })
  pub trail : Front (trail i.source made) before.trail after.trail
  pub tables : (answer : LengthAnswer) (left : List ℕ) → Promise tables_entry i.file before.tables answer left → after.tables ≡ left
  pub steps : made ≡ run S (lent_tables S.net after.tables) (up S (fault_of i.failure)) (most_hops S.net) (packet i.source i.destination 0)

-- demand 3 of what the entry `run` returns: for a destination that is not the failed node, its answer and its trail are those of the run of the rule,
-- which is delivered in at most 2n - 3 hops, with at most one change of topology, and crosses nothing failed
pub record AnswersDelivered (S : Set) (i : RunInput) (r : RunAnswer) (after : RunLent) : Type 0 where
  pub made : Run
  pub rule : made ≡ run_under S (fault_of i.failure) i.source i.destination
  pub delivered : DeliveredBy S (fault_of i.failure) i.source i.destination made
  pub answer : r ≡ Ok (record { outcome = ended.Delivered; hops = hops made; topology = made.topology; kind = made.kind })
  pub written : take (suc (hops made)) after.trail ≡ trail i.source made

-- so is every call that the entry accepts
abbrev pub DeliveredByRun : Type 0
DeliveredByRun =
    (S : Set) (i : RunInput) (before after : RunLent) (r : RunAnswer) → Promise run_entry i before r after → RunMeets S i before
    → failed (fault_of i.failure) i.destination ≡ false → AnswersDelivered S i r after
