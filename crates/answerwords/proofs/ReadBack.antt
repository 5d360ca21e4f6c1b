-- What C reads from a word is what the entry tells: bit 63 is clear exactly where it accepts, and number, place and every value come back.
use mathlib.Core.Path.{◌≡◌, refl, sym, ap, ap₂, subst, ◌∙◌}
use mathlib.Core.Logic.{◌↔◌}
use mathlib.Core.Bool.{true, false, true≢false}
use mathlib.Core.List.{List, [], ◌∷◌}
use Prim.Native.Nat.{ℕ, suc, ◌+◌, ◌*◌, ◌/◌, ◌%◌, ◌≤◌, ◌<◌}
use native.Mathlib.Nat.{zero-add, mul-suc, mul-le-mul_left, mod-eq_of_lt, div-eq_of_lt, add-mul-div_left, add-mul-mod_self_left}
use native.Mathlib.Omega.{arith}
use borrow.Author.Tests.{le-leb, lt-leb}
use Rattle.rules.specs.Verdict.{Verdict, Accepted, Refused}
use Rattle.rules.specs.Answers.{accepted, refused, tell}
use Rattle.rules.specs.Entries.Entry.{Entry}
use Rattle.rules.specs.Entries.Read.{read_entry}
use Rattle.rules.specs.Entries.Write.{write_entry}
use Rattle.rules.specs.Entries.Build.{build_entry}
use Rattle.rules.specs.Entries.Tables.{tables_entry}
use Rattle.rules.specs.Entries.Step.{step_entry}
use Rattle.rules.specs.Entries.Run.{run_entry}
use Rattle.rules.specs.Entries.Report.{report_entry}
use Rattle.rules.specs.Demands.One.{Numbered}
use Rattle.rules.proofs.Entries.Values.{Below, read_below, write_below, build_below, tables_below, report_below, step_below, run_below}
use Rattle.rules.proofs.Refusals.Numbered.{longest_is, read_numbered, write_numbered, build_numbered, tables_numbered, step_numbered, run_numbered, report_numbered}
use Rattle.answerwords.specs.Words.{refused_word, pack, word_of, by_length, by_read, by_step, by_run, refusing, number_in, place_in, unpack, told_by, ReadFromWord, EveryWord}

-- ---- values

-- how many words the ranges leave room for
span : List ℕ → ℕ
span [] = 1
span (range ∷ ranges) = range * span ranges

pack_below : (ranges values : List ℕ) → Below ranges values → pack ranges values < span ranges
unfolding Below pack span
pack_below [] [] b = omega arith
pack_below [] (x ∷ values) b = absurd b
pack_below (range ∷ ranges) [] b = absurd b
pack_below (range ∷ ranges) (x ∷ values) b =
    omega (arith, b.0, mul-suc range (pack ranges values), mul-le-mul_left {m = suc (pack ranges values)} {n = span ranges} range (pack_below ranges values b.1))

-- each value is below its range, so it comes back
unpack_pack : (ranges values : List ℕ) → Below ranges values → unpack ranges (pack ranges values) ≡ values
unfolding Below pack unpack
unpack_pack [] [] b = refl
unpack_pack [] (x ∷ values) b = absurd b
unpack_pack (range ∷ ranges) [] b = absurd b
unpack_pack (range ∷ ranges) (x ∷ values) b =
    let rest : ℕ = pack ranges values in
    let first : (x + range * rest) % range ≡ x = add-mul-mod_self_left x range rest ∙ mod-eq_of_lt b.0 in
    let others : (x + range * rest) / range ≡ rest = add-mul-div_left x rest {y = range} (omega (arith, b.0)) ∙ ap (λ (y : ℕ). y + rest) (div-eq_of_lt b.0) ∙ zero-add rest in
    ap₂ ◌∷◌ first (ap (unpack ranges) others ∙ unpack_pack ranges values b.1)

-- ---- refusals

number_back : (number place : ℕ) → number ≤ 15 → number_in (refused_word number place) ≡ number
unfolding number_in refused_word
number_back number place l = omega arith

place_back : (number place : ℕ) → place < 9192 → place_in (refused_word number place) ≡ place
unfolding place_in refused_word
place_back number place l = omega arith

refusal_shows : (number place : ℕ) → refusing (refused_word number place) ≡ true
unfolding refusing refused_word
refusal_shows number place = le-leb 9223372036854775808 (9223372036854775808 + number * 4294967296 + place % 4294967296) (omega arith)

-- ---- a verdict whose refusals are numbered, and values below their ranges, all of which leave bit 63 clear

module _ (ranges : List ℕ) (few : span ranges ≤ 9223372036854775808) where
  values_clear : (values : List ℕ) → Below ranges values → refusing (pack ranges values) ≡ false
  unfolding refusing
  values_clear values b = lt-leb 9223372036854775808 (pack ranges values) (omega (arith, pack_below ranges values b))

  told_back : (v : Verdict) (values : List ℕ) → Numbered v → (v ≡ Accepted → Below ranges values) → told_by ranges (word_of ranges (tell v values)) ≡ tell v values
  unfolding told_by word_of tell
  told_back Accepted values f g = rw (values_clear values (g refl)) (ap accepted (unpack_pack ranges values (g refl)))
  told_back (Refused number place) values f g =
      let L = f number place refl in
      rw (refusal_shows number place)
      (ap₂ refused (number_back number place L.high) (place_back number place (omega (arith, longest_is, L.inside))))

  clear_exactly : (v : Verdict) (values : List ℕ) → (v ≡ Accepted → Below ranges values) → (refusing (word_of ranges (tell v values)) ≡ false) ↔ (v ≡ Accepted)
  unfolding word_of tell
  clear_exactly Accepted values g = (λ e. refl, λ e. values_clear values (g refl))
  clear_exactly (Refused number place) values g = (
    λ e. absurd (true≢false (sym (refusal_shows number place) ∙ e)),
    λ e. let z : ◌≡◌ {A = ℕ} 0 1 = cc in absurd (omega arith),
  )

  -- an entry whose refusals are numbered and whose values are below their ranges
  module _ {Input Lent Answer : Type 0} (E : Entry Input Lent Answer) (numbered : (i : Input) (before : Lent) → Numbered (E.verdict i before))
      (below : (i : Input) (before : Lent) → E.verdict i before ≡ Accepted → Below ranges (E.gives i before)) where
    read_from_word : ReadFromWord E ranges
    read_from_word =
        record {
          clear = λ i before after word A.
              subst (λ (w : ℕ). (refusing w ≡ false) ↔ (E.verdict i before ≡ Accepted)) (sym A.answer) (clear_exactly (E.verdict i before) (E.gives i before) (below i before));
          told = λ i before after after' word r A P.
              ap (told_by ranges) A.answer ∙ told_back (E.verdict i before) (E.gives i before) (numbered i before) (below i before) ∙ sym P.answer;
          determined = λ i before after after' word word' A B. (A.answer ∙ sym B.answer, A.lent ∙ sym B.lent);
        }

-- ---- every function

pub every_word : EveryWord
unfolding span
every_word =
    record {
      build = read_from_word by_length (omega arith) build_entry build_numbered build_below;
      tables = read_from_word by_length (omega arith) tables_entry tables_numbered tables_below;
      step = read_from_word by_step (omega arith) step_entry step_numbered step_below;
      run = read_from_word by_run (omega arith) run_entry run_numbered run_below;
      read = read_from_word by_read (omega arith) read_entry read_numbered read_below;
      write = read_from_word by_length (omega arith) write_entry write_numbered write_below;
      report = read_from_word by_length (omega arith) report_entry report_numbered report_below;
    }
