-- Of the entry `step`: what it accepts, and what it then answers.
use Rattle.std.specs.Prelude.{if◌then◌else◌}
use mathlib.Core.Path.{◌≡◌, refl, sym, subst}
use mathlib.Core.Bool.{Bool, true, false, not, ◌||◌, true≢false, false≢true}
use Prim.Native.Nat.{ℕ}
use native.Mathlib.Omega.{arith}
use lib.Dec.{eqb}
use borrow.Author.Tests.{eqb-true, eqb-false, eq-eqb, ne_eqb}
use Rattle.rules.specs.declared.Packet.{Packet}
use Rattle.rules.specs.Verdict.{Accepted}
use Rattle.rules.specs.Basics.{need}
use Rattle.rules.specs.Limits.{tables_length}
use Rattle.rules.specs.File.{Set, header_of, set_of}
use Rattle.rules.specs.Isolation.{neighbours, home}
use Rattle.rules.specs.Forwarding.{fault_of, up, Tables, lent_tables, step, alternate_number, change_number, toward_number, lookup_number}
use Rattle.rules.specs.Entries.Entry.{NothingLent}
use Rattle.rules.specs.Entries.Step.{StepInput, lookups_of, step_of, step_entry}
use Rattle.rules.specs.Sets.{Bytes}
use Rattle.rules.specs.Demands.Form.{AcceptsExactly, ThenGives, IsTaken}
use Rattle.rules.specs.Demands.Step.{LooksUp, StepMeets, StepGives}
use Rattle.rules.proofs.Ground.Choices.{refuse_ok, refuse_zero, then_both, then_first, then_second}
use Rattle.rules.proofs.File.FileOf.{file_judged, file_set, judged_file}
use Rattle.rules.proofs.Entries.Answering.{told, accepts, step_values_of, step_is}
use Rattle.rules.proofs.Refusals.Needs.{room_ok, room_long, set_needed, set_given, packet_needed, packet_given, source_needed, source_given}

-- ---- 15: the tests in their order

-- at the destination; the next hop is a neighbour; it is up; topology 0; the other next hop is a neighbour; it is the same; the alternate is a neighbour
abbrev tests : Bool → Bool → Bool → Bool → Bool → Bool → Bool → ℕ
tests here a on zero b back c = if here then 0 else need a 15 (if on || not zero then 0 else need b 15 (if back then need c 15 0 else 0))

record Tested (here a on zero b back c : Bool) : Type 0 where
  next : here ≡ false → a ≡ true
  changed : here ≡ false → on ≡ false → zero ≡ true → b ≡ true
  around : here ≡ false → on ≡ false → zero ≡ true → back ≡ true → c ≡ true

tested : (here a on zero b back c : Bool) → tests here a on zero b back c ≡ 0 → Tested here a on zero b back c
unfolding need
tested true a on zero b back c e = record { next = λ h. absurd (true≢false h); changed = λ h p q. absurd (true≢false h); around = λ h p q s. absurd (true≢false h) }
tested false false on zero b back c e = absurd (omega arith)
tested false true true zero b back c e = record { next = λ h. refl; changed = λ h p q. absurd (true≢false p); around = λ h p q s. absurd (true≢false p) }
tested false true false false b back c e = record { next = λ h. refl; changed = λ h p q. absurd (false≢true q); around = λ h p q s. absurd (false≢true q) }
tested false true false true false back c e = absurd (omega arith)
tested false true false true true false c e = record { next = λ h. refl; changed = λ h p q. refl; around = λ h p q s. absurd (false≢true s) }
tested false true false true true true false e = absurd (omega arith)
tested false true false true true true true e = record { next = λ h. refl; changed = λ h p q. refl; around = λ h p q s. refl }

passed : (here a on zero b back c : Bool) → Tested here a on zero b back c → tests here a on zero b back c ≡ 0
unfolding need
passed true a on zero b back c t = refl
passed false false on zero b back c t = absurd (false≢true (t.next refl))
passed false true true zero b back c t = refl
passed false true false false b back c t = refl
passed false true false true false back c t = absurd (false≢true (t.changed refl refl refl))
passed false true false true true false c t = refl
passed false true false true true true false t = absurd (false≢true (t.around refl refl refl refl))
passed false true false true true true true t = refl

module _ (S : Set) (tables : Tables) (on : ℕ → ℕ → Bool) (p : Packet) where
  abbrev v : ℕ
  v = tables.next p.topology p.place p.destination

  abbrev w : ℕ
  w = tables.next (home S v) p.place p.destination

  looks_up : lookup_number S tables on p ≡ 0 → LooksUp S tables on p
  unfolding lookup_number toward_number change_number alternate_number
  looks_up e =
      let t = tested (eqb p.place p.destination) (neighbours S p.place v) (on p.place v) (eqb p.topology 0) (neighbours S p.place w) (eqb w v) (neighbours S p.place (tables.alternate p.place v)) e in
      record {
        next = λ ne. t.next (ne_eqb p.place p.destination ne);
        changed = λ ne down zero. t.changed (ne_eqb p.place p.destination ne) down (eq-eqb p.topology 0 zero);
        around = λ ne down zero back. t.around (ne_eqb p.place p.destination ne) down (eq-eqb p.topology 0 zero) (eq-eqb w v back);
      }

  pub looked_up : LooksUp S tables on p → lookup_number S tables on p ≡ 0
  unfolding lookup_number toward_number change_number alternate_number
  looked_up l =
      passed (eqb p.place p.destination) (neighbours S p.place v) (on p.place v) (eqb p.topology 0) (neighbours S p.place w) (eqb w v) (neighbours S p.place (tables.alternate p.place v))
      (record {
        next = λ h. l.next (eqb-false p.place p.destination h);
        changed = λ h down zero. l.changed (eqb-false p.place p.destination h) down (eqb-true p.topology 0 zero);
        around = λ h down zero back. l.around (eqb-false p.place p.destination h) down (eqb-true p.topology 0 zero) (eqb-true w v back);
      })

-- ---- the statements

-- the set that is asked for is the one that the file holds
own_set : (S : Set) (i : StepInput) (d : NothingLent) → StepMeets S i d → set_of i.file ≡ S
own_set S i d M = file_set S i.file M.file

held_meets : (i : StepInput) (d : NothingLent) → StepMeets (set_of i.file) i d → step_entry.verdict i d ≡ Accepted
unfolding step_entry lookups_of set_of
held_meets i d M =
    let file = file_judged (set_of i.file) i.file M.file in
    let set = set_given (header_of i.file) M.topologies in
    let known =
    packet_given (header_of i.file) i.packet i.failure (record { place = M.place; destination = M.destination; topology = M.topology; failure = M.failure })
    in
    let source = source_given i.packet.place i.failure M.standing in
    let room = room_ok (tables_length (header_of i.file)) i.tables M.tables in
    let looks =
    sym (refuse_ok (lookup_number (set_of i.file) (lent_tables (header_of i.file) i.tables) (up (set_of i.file) (fault_of i.failure)) i.packet) 0
    (looked_up (set_of i.file) (lent_tables (header_of i.file) i.tables) (up (set_of i.file) (fault_of i.failure)) i.packet M.looks_up))
    in
    search then_both

step_meets : (S : Set) (i : StepInput) (d : NothingLent) → StepMeets S i d → step_entry.verdict i d ≡ Accepted
step_meets S i d M = held_meets i d (subst (λ (T : Set). StepMeets T i d) (sym (own_set S i d M)) M)

pub step_accepts : AcceptsExactly step_entry IsTaken (λ i. Bytes i.file) StepMeets
unfolding step_entry step_of lookups_of set_of
step_accepts =
    accepts step_entry IsTaken (λ i. Bytes i.file) StepMeets step_values_of
    (λ i d r e. (step (set_of i.file) (lent_tables (header_of i.file) i.tables) (up (set_of i.file) (fault_of i.failure)) i.packet, step_is r _ e)) step_asked step_meets
  where
    step_asked : (i : StepInput) (d : NothingLent) → Bytes i.file → step_entry.verdict i d ≡ Accepted → (S : Set) × StepMeets S i d
    step_asked i d small e =
        let set = then_second _ _ e in
        let packet = then_second _ _ set in
        let source = then_second _ _ packet in
        let room = then_second _ _ source in
        let known = packet_needed (header_of i.file) i.packet i.failure (then_first _ _ packet) in (
          set_of i.file,
          record {
            file = judged_file i.file small (then_first _ _ e);
            topologies = set_needed (header_of i.file) (then_first _ _ set);
            place = known.place;
            destination = known.destination;
            topology = known.topology;
            failure = known.failure;
            standing = source_needed i.packet.place i.failure (then_first _ _ source);
            tables = room_long (tables_length (header_of i.file)) i.tables (then_first _ _ room);
            looks_up = looks_up (set_of i.file) (lent_tables (header_of i.file) i.tables) (up (set_of i.file) (fault_of i.failure)) i.packet (refuse_zero _ 0 (then_second _ _ room));
          },
        )

pub step_gives : ThenGives step_entry StepMeets StepGives
unfolding step_entry step_of set_of
step_gives S i before after r P M =
    subst (λ (T : Set). StepGives T i before r after) (own_set S i before M)
    (record { answer = step_is r _ (told step_entry i before after r P (step_meets S i before M)) })
