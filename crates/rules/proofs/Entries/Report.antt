-- Of the entry `report`: what it accepts, and what it then answers and leaves.
use Rattle.std.specs.Prelude.{Ok}
use mathlib.Core.Path.{◌≡◌, sym, ap, subst, ◌∙◌}
use mathlib.Core.List.{List}
use Prim.Native.Nat.{ℕ}
use lib.ListN.{length}
use Rattle.rules.specs.Verdict.{Accepted, Refused}
use Rattle.rules.specs.Basics.{laid}
use Rattle.rules.specs.Limits.{longest}
use Rattle.rules.specs.File.{Set, set_of}
use Rattle.rules.specs.Judgement.{take_in, need_room}
use Rattle.rules.specs.Report.{report_text}
use Rattle.rules.specs.Entries.Report.{report_entry}
use Rattle.rules.specs.Sets.{Bytes}
use Rattle.rules.specs.Demands.Form.{AcceptsExactly, ThenGives, IsLength, Front}
use Rattle.rules.specs.Demands.Detections.{ReportMeets, ReportGives, ReportFits}
use Rattle.rules.proofs.Ground.Choices.{then_no, then_both, then_first, then_second}
use Rattle.rules.proofs.File.TakenIn.{set_stops}
use Rattle.rules.proofs.File.AcceptedFile.{file_taken, its_set, accepted_file}
use Rattle.rules.proofs.Report.TextLength.{report_longest}
use Rattle.rules.proofs.Entries.Answering.{told, left, accepts, front_laid, length_values, length_is}
use Rattle.rules.proofs.Refusals.Needs.{room_ok, room_long}

-- what taking in refuses is told first
pub report_stops : (s lent : List ℕ) (number place : ℕ) → take_in s ≡ Refused number place → report_entry.verdict s lent ≡ Refused number place
unfolding report_entry
report_stops s lent number place e = then_no _ _ number place (set_stops s number place e)

report_meets : (S : Set) (s lent : List ℕ) → ReportMeets S s lent → report_entry.verdict s lent ≡ Accepted
unfolding report_entry
report_meets S s lent M =
    let taken = file_taken S s M.file in
    let room = ap (λ (T : Set). need_room (length (report_text T)) lent) (its_set S s M.file) ∙ room_ok (length (report_text S)) lent M.room in
    search then_both

pub report_accepts : AcceptsExactly report_entry IsLength Bytes ReportMeets
unfolding report_entry
report_accepts =
    accepts report_entry IsLength Bytes ReportMeets length_values (λ s d r e. (length (report_text (set_of s)), length_is r (length (report_text (set_of s))) e)) report_asked report_meets
  where
    report_asked : (s lent : List ℕ) → Bytes s → report_entry.verdict s lent ≡ Accepted → (S : Set) × ReportMeets S s lent
    report_asked s lent small e = (
      set_of s,
      record { file = accepted_file s small (then_first _ _ e); room = room_long (length (report_text (set_of s))) lent (then_second _ _ e) },
    )

pub report_gives : ThenGives report_entry ReportMeets ReportGives
unfolding report_entry
report_gives S s before after r P M =
    let e = report_meets S s before M in
    let T = its_set S s M.file in
    let lent : after ≡ laid (report_text S) before = left report_entry s before after r P e ∙ ap (λ (x : Set). laid (report_text x) before) T in
    record {
      answer = length_is r (length (report_text (set_of s))) (told report_entry s before after r P e) ∙ ap (λ (x : Set). Ok (length (report_text x))) T;
      text = subst (λ (x : List ℕ). Front (report_text S) before x) (sym lent) (front_laid (report_text S) before);
    }

pub report_fits : ReportFits
unfolding longest
report_fits S A = report_longest S A
