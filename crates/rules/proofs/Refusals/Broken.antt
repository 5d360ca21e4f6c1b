-- 02's request h: an entry that is given, or would write, the file of a set that breaks 7 or 8 refuses it, by the first topology that does. The step never tells
-- 7 or 8.
use mathlib.Core.Path.{◌≡◌, refl, sym, ap, subst, ◌∙◌}
use mathlib.Core.List.{List}
use Prim.Native.Nat.{ℕ, zero, suc, ◌≤◌}
use native.Mathlib.Omega.{arith}
use Rattle.rules.specs.Verdict.{Verdict, Accepted, Refused}
use Rattle.rules.specs.File.{Set, encode, set_of}
use Rattle.rules.specs.Isolation.{connected, two_links, topology_number}
use Rattle.rules.specs.Judgement.{refuse, judge, topologies, take_in}
use Rattle.rules.specs.Answers.{accepted, tell}
use Rattle.rules.specs.Entries.Entry.{Entry}
use Rattle.rules.specs.Entries.Read.{read_entry}
use Rattle.rules.specs.Entries.Write.{WriteInput, set_with, write_entry}
use Rattle.rules.specs.Entries.Build.{build_entry}
use Rattle.rules.specs.Entries.Tables.{tables_entry}
use Rattle.rules.specs.Entries.Step.{StepInput, step_entry}
use Rattle.rules.specs.Entries.Run.{run_entry}
use Rattle.rules.specs.Entries.Report.{report_entry}
use Rattle.rules.specs.Sets.{WithinLimits, FileOf, Sound}
use Rattle.rules.specs.Demands.Form.{IsRead, IsLength, IsEnded}
use Rattle.rules.specs.Demands.Two.{cut_to}
use Rattle.rules.specs.Demands.TakingIn.{FirstBroken, RefusesBroken, WouldWrite, BrokenRefused}
use Rattle.rules.specs.Refusals.{RecordFault, link_mark, home_mark, row_mark, link_ends, link_weight_wrong, row_weight_wrong, home_wrong, row_topology_wrong, FileFault, under, other_length, header_mark, counts, in_record, BackboneJoined, TopologyFault, backbone_apart, too_few, StepFault}
use Rattle.rules.proofs.Ground.Choices.{false_of, refuse_no, refuse_ok, then_ok, then_first, then_second, turn_all, turn_stop}
use Rattle.rules.proofs.File.FileOf.{file_judged, file_set}
use Rattle.rules.proofs.File.TakenIn.{taken_published, set_taken}
use Rattle.rules.proofs.Isolation.Connected.{connected_joined, joined_connected}
use Rattle.rules.proofs.Isolation.Sound.{two_linked, sound_number}
use Rattle.rules.proofs.Entries.Answering.{was_accepted, read_values, length_values, run_values_of}
use Rattle.rules.proofs.Entries.Read.{read_stops}
use Rattle.rules.proofs.Entries.Write.{write_stops, encode_cut}
use Rattle.rules.proofs.Entries.Build.{build_stops}
use Rattle.rules.proofs.Entries.Tables.{tables_stops}
use Rattle.rules.proofs.Entries.Run.{run_stops}
use Rattle.rules.proofs.Entries.Report.{report_stops}
use Rattle.rules.proofs.Refusals.SevenBeforeEight.{seven_first, eight_next}
use Rattle.rules.proofs.Refusals.Refusing.{says_so, step_refuses}

-- ---- the first broken topology

module _ (S : Set) where
  fault_number : (number i : ℕ) → TopologyFault S number i → (number ≡ 8 → BackboneJoined S i) → topology_number S i ≡ number
  fault_number number place (backbone_apart i one high f) joined =
      seven_first S i (false_of (connected S i) (λ e. let J = connected_joined S i e in f (record { some = J.some; joined = J.joined })))
  fault_number number place (too_few i v one high l e f) joined =
      let J = joined refl in
      eight_next S i (joined_connected S i (record { some = J.some; joined = J.joined })) (false_of (two_links S i) (λ t. f (two_linked S i t v l e)))

  fault_some : (number i : ℕ) → TopologyFault S number i → number ≡ 0 → ⊥
  fault_some number place (backbone_apart i one high f) z = omega arith
  fault_some number place (too_few i v one high l e f) z = omega arith

  fault_inside : (number i : ℕ) → TopologyFault S number i → (1 ≤ i) × (i ≤ S.net.k)
  fault_inside number place (backbone_apart i one high f) = (one, high)
  fault_inside number place (too_few i v one high l e f) = (one, high)

  -- the topologies in turn stop at it
  first_refused : (number i : ℕ) → FirstBroken S number i → topologies S ≡ Refused number i
  unfolding topologies
  first_refused number zero B = absurd (omega (arith, (fault_inside number zero B.fault).0))
  first_refused number (suc j) B =
      let f : ℕ → Verdict = λ x. refuse (topology_number S (suc x)) (suc x) in
      turn_stop f j S.net.k number (suc j) (omega (arith, (fault_inside number (suc j) B.fault).1))
      (turn_all f j (λ x l. sym (refuse_ok (topology_number S (suc x)) (suc x) (sound_number S (suc x) (B.earlier (suc x) (omega arith) (omega arith))))))
      (ap (λ (y : ℕ). refuse y (suc j)) (fault_number number (suc j) B.fault B.seven_first) ∙ sym (refuse_no number (suc j) (fault_some number (suc j) B.fault)))

  intake_refused : (s : List ℕ) (number i : ℕ) → FileOf S s → FirstBroken S number i → take_in s ≡ Refused number i
  unfolding take_in
  intake_refused s number i F B =
      then_ok (judge s) (topologies (set_of s)) (file_judged S s F) ∙ ap topologies (file_set S s F) ∙ first_refused number i B

-- ---- an entry whose verdict begins with taking in a file

module _ {Input Lent Answer : Type 0} (E : Entry Input Lent Answer) (Yes : Answer → Type 0) (Given : Set → Input → Type 0) (file : Input → List ℕ)
    (values : (r : Answer) → Yes r → (told : List ℕ) × (E.tells r ≡ accepted told))
    (taken : (i : Input) (before : Lent) → E.verdict i before ≡ Accepted → take_in (file i) ≡ Accepted)
    (stops : (S : Set) (i : Input) (before : Lent) (number place : ℕ) → Given S i → take_in (file i) ≡ Refused number place → E.verdict i before ≡ Refused number place)
    (its_file : (S : Set) (i : Input) → Given S i → FileOf S (file i)) where
  refuses_broken : RefusesBroken E Yes Given
  unfolding tell
  refuses_broken =
      record {
        never = λ S topology one high broken i before after r G P y.
            let v = values r y in
            let e = taken i before (was_accepted E i before after r P v.0 v.1) in
            let same = file_set S (file i) (its_file S i G) in
            broken (subst (λ (T : Set). Sound T topology) same ((taken_published (file i) e).sound topology one (subst (λ (T : Set). topology ≤ T.net.k) (sym same) high)));
        tells_first = λ S number topology B i before after r G P.
            P.answer ∙ rw (stops S i before number topology G (intake_refused S (file i) number topology (its_file S i G) B));
      }

-- ---- the writer

write_file : (S : Set) (i : WriteInput) → WouldWrite S i → FileOf S (encode (set_with i.net i.lists))
write_file S i W = record { rules = W.rules; bytes = ap encode W.set ∙ sym (encode_cut i.net i.lists W.lists) }

write_refused : (S : Set) (i : WriteInput) (before : List ℕ) (number place : ℕ) → WouldWrite S i → take_in (encode (set_with i.net i.lists)) ≡ Refused number place
    → write_entry.verdict i before ≡ Refused number place
unfolding cut_to
write_refused S i before number place W e =
    write_stops i before number place (subst WithinLimits (ap (λ (T : Set). T.net) W.set) W.rules.limits) W.lists e

-- ---- the step

record_low : (s : List ℕ) (number place : ℕ) → RecordFault s number place → number ≤ 6
record_low s number place (link_mark l b f) = omega arith
record_low s number place (home_mark v b f) = omega arith
record_low s number place (row_mark j b f) = omega arith
record_low s number place (link_ends l b f) = omega arith
record_low s number place (link_weight_wrong l b f) = omega arith
record_low s number place (row_weight_wrong j b f) = omega arith
record_low s number place (home_wrong v b f) = omega arith
record_low s number place (row_topology_wrong j b f) = omega arith

file_low : (s : List ℕ) (number place : ℕ) → FileFault s number place → number ≤ 6
file_low s number place (under f) = omega arith
file_low s number place (other_length f) = omega arith
file_low s number place (header_mark f) = omega arith
file_low s number place (counts f) = omega arith
file_low s number place (in_record w f) = record_low s number place f

step_other : (i : StepInput) (number place : ℕ) → StepFault i number place → (number ≡ 7 → ⊥) × (number ≡ 8 → ⊥)
step_other i number place (StepFault.file f) = let low = file_low i.file number place f in (λ e. omega arith, λ e. omega arith)
step_other i number place (StepFault.graph f) = (λ e. omega arith, λ e. omega arith)
step_other i number place (StepFault.range f) = (λ e. omega arith, λ e. omega arith)
step_other i number place (StepFault.stopped f) = (λ e. omega arith, λ e. omega arith)
step_other i number place (StepFault.room f) = (λ e. omega arith, λ e. omega arith)
step_other i number place (StepFault.lookup f) = (λ e. omega arith, λ e. omega arith)

-- ---- every entry

pub broken_refused : BrokenRefused
unfolding read_entry write_entry build_entry tables_entry run_entry report_entry
broken_refused =
    record {
      read = refuses_broken read_entry IsRead FileOf (λ s. s) read_values (λ s d e. then_first _ _ e) (λ S s d number place G. read_stops s d number place) (λ S s G. G);
      write = refuses_broken write_entry IsLength WouldWrite (λ i. encode (set_with i.net i.lists)) length_values
          (λ i d e. then_first _ _ (then_second _ _ (then_second _ _ e))) write_refused write_file;
      build = refuses_broken build_entry IsLength (λ S i. FileOf S i.file) (λ i. i.file) length_values
          (λ i d e. then_first _ _ e) (λ S i d number place G. build_stops i d number place) (λ S i G. G);
      tables = refuses_broken tables_entry IsLength FileOf (λ s. s) length_values
          (λ s d e. set_taken s (then_first _ _ e)) (λ S s d number place G. tables_stops s d number place) (λ S s G. G);
      run = refuses_broken run_entry IsEnded (λ S i. FileOf S i.file) (λ i. i.file) run_values_of
          (λ i d e. set_taken i.file (then_first _ _ e)) (λ S i d number place G. run_stops i d number place) (λ S i G. G);
      report = refuses_broken report_entry IsLength FileOf (λ s. s) length_values
          (λ s d e. set_taken s (then_first _ _ e)) (λ S s d number place G. report_stops s d number place) (λ S s G. G);
      step = λ i before after r number place P e. step_other i number place (says_so step_entry (λ i d. StepFault i) step_refuses i before after r number place P e);
    }
