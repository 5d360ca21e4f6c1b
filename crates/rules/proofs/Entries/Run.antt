-- Demand 3 of what the entry `run` returns: what it accepts, what it then answers and leaves, and that it is delivered where the destination is up.
use Rattle.std.specs.Prelude.{Ok}
use mathlib.Core.Path.{◌≡◌, refl, sym, ap, subst, ◌∙◌}
use mathlib.Core.List.{List}
use Prim.Native.Nat.{ℕ, suc}
use native.Mathlib.Omega.{arith}
use lib.ListN.{take}
use borrow.Author.Tests.{eqb-true}
use Rattle.rules.specs.declared.Failure.{Failure}
use Rattle.rules.specs.declared.Failure.TheVariants.{Nothing, Link, Node}
use Rattle.rules.specs.Verdict.{Accepted, Refused}
use Rattle.rules.specs.declared.Outcome.{Outcome}
use Rattle.rules.specs.Basics.{laid}
use Rattle.rules.specs.Limits.{tables_length, most_hops, trail_room}
use Rattle.rules.specs.File.{Set, header_of, set_of}
use Rattle.rules.specs.Isolation.{home}
use Rattle.rules.specs.Distance.{table_bytes}
use Rattle.rules.specs.Judgement.{take_in}
use Rattle.rules.specs.Forwarding.{fault_of, up, lent_tables, packet, Run, hops, trail, run, run_under}
use Rattle.rules.specs.Entries.Entry.{Promise}
use Rattle.rules.specs.Entries.Tables.{tables_entry}
use Rattle.rules.specs.Entries.Run.{RunInput, RunLent, run_of, run_entry}
use Rattle.rules.specs.Sets.{Bytes}
use Rattle.rules.specs.Demands.Form.{AcceptsExactly, ThenGives, IsEnded, Front}
use Rattle.rules.specs.Demands.Delivery.{Tolerated}
use Rattle.rules.specs.Demands.Run.{RunMeets, RunGives, DeliveredByRun}
use Rattle.rules.proofs.Ground.Choices.{then_ok, then_no, then_first, then_second}
use Rattle.rules.proofs.Ground.Rows.{laid_front}
use Rattle.rules.proofs.File.TakenIn.{set_stops}
use Rattle.rules.proofs.File.AcceptedFile.{file_taken, its_set, accepted_file}
use Rattle.rules.proofs.Forwarding.Runs.{starts}
use Rattle.rules.proofs.Forwarding.Delivery.{delivery}
use Rattle.rules.proofs.Forwarding.LentTables.{lent_agree, run_same}
use Rattle.rules.proofs.Entries.Answering.{told, left, accepts, front_laid, run_values_of, journey_of, run_is}
use Rattle.rules.proofs.Entries.Tables.{tables_meets}
use Rattle.rules.specs.Answers.{LengthAnswer, RunAnswer}
use Rattle.rules.proofs.Refusals.Needs.{room_ok, room_long, packet_needed, packet_given, source_needed, source_given, standing_up}

-- one failed node is nodes of one home
tolerated : (S : Set) (f : Failure) → Tolerated S (fault_of f)
unfolding fault_of
tolerated S Nothing = tt
tolerated S (Link l) = tt
tolerated S (Node x) = (home S x, λ v l e. ap (home S) (sym (eqb-true x v e)))

-- ---- what it accepts

-- what taking in refuses is told first
pub run_stops : (i : RunInput) (d : RunLent) (number place : ℕ) → take_in i.file ≡ Refused number place → run_entry.verdict i d ≡ Refused number place
unfolding run_entry
run_stops i d number place e = then_no _ _ number place (set_stops i.file number place e)

own_set : (S : Set) (i : RunInput) (d : RunLent) → RunMeets S i d → set_of i.file ≡ S
own_set S i d M = its_set S i.file M.file

held_meets : (i : RunInput) (d : RunLent) → RunMeets (set_of i.file) i d → run_entry.verdict i d ≡ Accepted
unfolding run_entry set_of
held_meets i d M =
    then_ok _ _ (file_taken (set_of i.file) i.file M.file)
    ∙ then_ok _ _ (packet_given (header_of i.file) (packet i.source i.destination 0) i.failure
    (record { place = M.source; destination = M.destination; topology = omega arith; failure = M.failure }))
    ∙ then_ok _ _ (source_given i.source i.failure M.standing)
    ∙ then_ok _ _ (room_ok (tables_length (header_of i.file)) d.tables M.tables)
    ∙ room_ok (trail_room (header_of i.file)) d.trail M.trail

run_meets : (S : Set) (i : RunInput) (d : RunLent) → RunMeets S i d → run_entry.verdict i d ≡ Accepted
run_meets S i d M = held_meets i d (subst (λ (T : Set). RunMeets T i d) (sym (own_set S i d M)) M)

pub run_accepts : AcceptsExactly run_entry IsEnded (λ i. Bytes i.file) RunMeets
unfolding run_entry set_of
run_accepts = accepts run_entry IsEnded (λ i. Bytes i.file) RunMeets run_values_of (λ i d r e. (journey_of (run_of i), run_is r (run_of i) e)) run_asked run_meets
  where
    run_asked : (i : RunInput) (d : RunLent) → Bytes i.file → run_entry.verdict i d ≡ Accepted → (S : Set) × RunMeets S i d
    run_asked i d small e =
        let packet = then_second _ _ e in
        let source = then_second _ _ packet in
        let room = then_second _ _ source in
        let known = packet_needed (header_of i.file) _ i.failure (then_first _ _ packet) in (
          set_of i.file,
          record {
            file = accepted_file i.file small (then_first _ _ e);
            source = known.place;
            destination = known.destination;
            failure = known.failure;
            standing = source_needed i.source i.failure (then_first _ _ source);
            tables = room_long (tables_length (header_of i.file)) d.tables (then_first _ _ room);
            trail = room_long (trail_room (header_of i.file)) d.trail (then_second _ _ room);
          },
        )

-- ---- what it then answers and leaves

module _ (S : Set) (i : RunInput) (before after : RunLent) (r : RunAnswer) (P : Promise run_entry i before r after) (M : RunMeets S i before) where
  abbrev made : Run
  made = run_under S (fault_of i.failure) i.source i.destination

  rule : run_of i ≡ made
  unfolding run_of
  rule = ap (λ (T : Set). run_under T (fault_of i.failure) i.source i.destination) (own_set S i before M)

  its_trail : after.trail ≡ laid (trail i.source made) before.trail
  unfolding run_entry
  its_trail =
      ap (λ (d : RunLent). d.trail) (left run_entry i before after r P (run_meets S i before M))
      ∙ ap (λ (x : Run). laid (trail i.source x) before.trail) rule

  its_answer : r ≡ Ok (journey_of made)
  unfolding run_entry
  its_answer = run_is r (run_of i) (told run_entry i before after r P (run_meets S i before M)) ∙ ap (λ (x : Run). Ok (journey_of x)) rule

pub run_gives : ThenGives run_entry RunMeets RunGives
unfolding run_entry tables_entry run_under
run_gives S i before after r P M =
    record {
      made = made S i before after r P M;
      rule = refl;
      answer = its_answer S i before after r P M;
      trail = subst (λ (t : List ℕ). Front (trail i.source (made S i before after r P M)) before.trail t) (sym (its_trail S i before after r P M)) (front_laid _ before.trail);
      tables = same_tables;
      steps = by_steps;
    }
  where
    its_tables : after.tables ≡ laid (table_bytes S) before.tables
    its_tables =
        ap (λ (d : RunLent). d.tables) (left run_entry i before after r P (run_meets S i before M))
        ∙ ap (λ (T : Set). laid (table_bytes T) before.tables) (own_set S i before M)

    -- what the entry `tables` leaves in the same room
    same_tables : (answer : LengthAnswer) (lent : List ℕ) → Promise tables_entry i.file before.tables answer lent → after.tables ≡ lent
    same_tables answer lent Q =
        its_tables
        ∙ ap (λ (T : Set). laid (table_bytes T) before.tables) (sym (own_set S i before M))
        ∙ sym (left tables_entry i.file before.tables lent answer Q (tables_meets S i.file before.tables (record { file = M.file; room = M.tables })))

    by_steps : made S i before after r P M ≡ run S (lent_tables S.net after.tables) (up S (fault_of i.failure)) (most_hops S.net) (packet i.source i.destination 0)
    by_steps =
        let A = M.file.accepted in
        sym (ap (λ (t : List ℕ). run S (lent_tables S.net t) (up S (fault_of i.failure)) (most_hops S.net) (packet i.source i.destination 0)) its_tables
        ∙ run_same S A (up S (fault_of i.failure)) (lent_tables S.net (laid (table_bytes S) before.tables)) (lent_agree S before.tables) (most_hops S.net) (packet i.source i.destination 0)
        (starts S A (up S (fault_of i.failure)) i.source i.destination M.source M.destination))

pub delivered_by_run : DeliveredByRun
unfolding hops trail
delivered_by_run S i before after r P M alive =
    let d = delivery S M.file.accepted (fault_of i.failure) (tolerated S i.failure) i.source i.destination M.source M.destination (standing_up i.source i.failure M.standing) alive in
    record {
      made = run_under S (fault_of i.failure) i.source i.destination;
      rule = refl;
      delivered = d;
      answer = its_answer S i before after r P M
          ∙ ap (λ (o : Outcome). Ok (record { outcome = o; hops = hops (made S i before after r P M); topology = (made S i before after r P M).topology; kind = (made S i before after r P M).kind })) d.outcome;
      written = ap (λ (t : List ℕ). take (suc (hops (made S i before after r P M))) t) (its_trail S i before after r P M) ∙ laid_front (trail i.source (made S i before after r P M)) before.trail;
    }
