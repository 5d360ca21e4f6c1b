-- An entry's promise, as a word.
use mathlib.Core.Path.{◌≡◌, ap, subst, ◌∙◌}
use mathlib.Core.List.{List}
use Prim.Native.Nat.{ℕ}
use Rattle.rules.specs.declared.Network.{Network}
use Rattle.rules.specs.declared.Packet.{Packet}
use Rattle.rules.specs.declared.Failure.{Failure}
use Rattle.rules.specs.Answers.{ReadAnswer, LengthAnswer, StepAnswer, RunAnswer, read_tells, length_tells, step_tells, run_tells}
use Rattle.rules.specs.Entries.Entry.{Entry, Promise}
use Rattle.rules.specs.Entries.Lists.{Lists}
use Rattle.rules.specs.Entries.Read.{read_entry}
use Rattle.rules.specs.Entries.Write.{WriteInput, write_entry}
use Rattle.rules.specs.Entries.Build.{BuildInput, build_entry}
use Rattle.rules.specs.Entries.Tables.{tables_entry}
use Rattle.rules.specs.Entries.Step.{StepInput, step_entry}
use Rattle.rules.specs.Entries.Run.{RunInput, RunLent, run_entry}
use Rattle.rules.specs.Entries.Report.{report_entry}
use Rattle.answerwords.specs.Words.{word_of, by_length, by_read, by_step, by_run, Answers}

answers : {Input Lent Answer : Type 0} (E : Entry Input Lent Answer) (ranges : List ℕ) (i : Input) (before : Lent) (r : Answer) (after : Lent) (w : ℕ) → Promise E i before r after → w ≡ word_of ranges (E.tells r) → Answers E ranges i before w after
answers E ranges i before r after w P e = record { answer = e ∙ ap (word_of ranges) P.answer; lent = P.lent }

pub build_word : (i : BuildInput) (before after : List ℕ) (r : LengthAnswer) (w : ℕ) → Promise build_entry i before r after → w ≡ word_of by_length (length_tells r) → Answers build_entry by_length i before w after
unfolding build_entry
build_word i before after r w P e = answers build_entry by_length i before r after w P e

pub tables_word : (s before after : List ℕ) (r : LengthAnswer) (w : ℕ) → Promise tables_entry s before r after → w ≡ word_of by_length (length_tells r) → Answers tables_entry by_length s before w after
unfolding tables_entry
tables_word s before after r w P e = answers tables_entry by_length s before r after w P e

pub report_word : (s before after : List ℕ) (r : LengthAnswer) (w : ℕ) → Promise report_entry s before r after → w ≡ word_of by_length (length_tells r) → Answers report_entry by_length s before w after
unfolding report_entry
report_word s before after r w P e = answers report_entry by_length s before r after w P e

pub write_word : (i : WriteInput) (before after : List ℕ) (r : LengthAnswer) (w : ℕ) → Promise write_entry i before r after → w ≡ word_of by_length (length_tells r) → Answers write_entry by_length i before w after
unfolding write_entry
write_word i before after r w P e = answers write_entry by_length i before r after w P e

pub written_word : (h g : Network) (d : Lists) (before after : List ℕ) (r : LengthAnswer) (w : ℕ) → h ≡ g → Promise write_entry (record { net = h; lists = d }) before r after → w ≡ word_of by_length (length_tells r) → Answers write_entry by_length (record { net = g; lists = d }) before w after
written_word h g d before after r w n P e = subst (λ (k : Network). Answers write_entry by_length (record { net = k; lists = d }) before w after) n (write_word (record { net = h; lists = d }) before after r w P e)

pub read_word : (s : List ℕ) (before after : Lists) (r : ReadAnswer) (w : ℕ) → Promise read_entry s before r after → w ≡ word_of by_read (read_tells r) → Answers read_entry by_read s before w after
unfolding read_entry
read_word s before after r w P e = answers read_entry by_read s before r after w P e

step_word : (i : StepInput) (r : StepAnswer) (w : ℕ) → Promise step_entry i tt r tt → w ≡ word_of by_step (step_tells r) → Answers step_entry by_step i tt w tt
unfolding step_entry
step_word i r w P e = answers step_entry by_step i tt r tt w P e

pub stepped_word : (s tables : List ℕ) (p : Packet) (f g : Failure) (r : StepAnswer) (w : ℕ) → f ≡ g → Promise step_entry (record { file = s; tables = tables; packet = p; failure = f }) tt r tt → w ≡ word_of by_step (step_tells r) → Answers step_entry by_step (record { file = s; tables = tables; packet = p; failure = g }) tt w tt
stepped_word s tables p f g r w d P e = subst (λ (x : Failure). Answers step_entry by_step (record { file = s; tables = tables; packet = p; failure = x }) tt w tt) d (step_word (record { file = s; tables = tables; packet = p; failure = f }) r w P e)

run_word : (i : RunInput) (before after : RunLent) (r : RunAnswer) (w : ℕ) → Promise run_entry i before r after → w ≡ word_of by_run (run_tells r) → Answers run_entry by_run i before w after
unfolding run_entry
run_word i before after r w P e = answers run_entry by_run i before r after w P e

pub ran_word : (s : List ℕ) (u t : ℕ) (f g : Failure) (before after : RunLent) (r : RunAnswer) (w : ℕ) → f ≡ g → Promise run_entry (record { file = s; source = u; destination = t; failure = f }) before r after → w ≡ word_of by_run (run_tells r)
    → Answers run_entry by_run (record { file = s; source = u; destination = t; failure = g }) before w after
ran_word s u t f g before after r w d P e = subst (λ (x : Failure). Answers run_entry by_run (record { file = s; source = u; destination = t; failure = x }) before w after) d (run_word (record { file = s; source = u; destination = t; failure = f }) before after r w P e)

pub ruleset entries = (build_word, tables_word, report_word, written_word, read_word, stepped_word, ran_word)
