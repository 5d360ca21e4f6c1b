-- Demand 2 of the entry `read`: what it accepts, and what it then answers and leaves.
use Rattle.std.specs.Prelude.{Ok}
use mathlib.Core.Path.{◌≡◌, sym, ap, subst, ◌∙◌}
use mathlib.Core.List.{List}
use Prim.Native.Nat.{ℕ}
use Rattle.rules.specs.declared.Network.{Network}
use Rattle.rules.specs.Verdict.{Accepted, Refused}
use Rattle.rules.specs.File.{Set, header_of, set_of}
use Rattle.rules.specs.Judgement.{take_in}
use Rattle.rules.specs.Entries.Lists.{Lists, need_lists, LongLists}
use Rattle.rules.specs.Entries.Read.{lists_with, read_entry}
use Rattle.rules.specs.Sets.{Bytes, FileOf, PublishedFile}
use Rattle.rules.specs.Demands.Form.{AcceptsExactly, ThenGives, IsRead}
use Rattle.rules.specs.Demands.Two.{ReadMeets, ReadGives}
use Rattle.rules.proofs.Ground.Choices.{then_ok, then_no, then_first, then_second}
use Rattle.rules.proofs.File.SetOfBytes.{net_held}
use Rattle.rules.proofs.File.FileOf.{file_header, file_set}
use Rattle.rules.proofs.File.Accepted.{one_set}
use Rattle.rules.proofs.File.TakenIn.{taken_in_file, file_taken_in}
use Rattle.rules.proofs.Entries.Answering.{told, left, accepts, front_laid, read_values, read_is}
use Rattle.rules.proofs.Refusals.Needs.{lists_long, long_lists}

-- what taking in refuses is told first
pub read_stops : (s : List ℕ) (d : Lists) (number place : ℕ) → take_in s ≡ Refused number place → read_entry.verdict s d ≡ Refused number place
unfolding read_entry
read_stops s d number place e = then_no _ _ number place e

-- the file that is taken in, by the rules of the file alone
its_file : (S : Set) (s : List ℕ) → PublishedFile S s → FileOf S s
its_file S s F = record { rules = F.published.rules; bytes = F.bytes }

-- one only
pub only_file : (S S' : Set) (s : List ℕ) → PublishedFile S s → PublishedFile S' s → S' ≡ S
only_file S S' s F F' = one_set S' S F'.published.rules F.published.rules (F'.bytes ∙ sym F.bytes)

read_meets : (S : Set) (s : List ℕ) (d : Lists) → ReadMeets S s d → read_entry.verdict s d ≡ Accepted
unfolding read_entry
read_meets S s d M =
    then_ok _ _ (file_taken_in S s M.file) ∙ ap (λ (h : Network). need_lists 14 h d) (file_header S s (its_file S s M.file)) ∙ long_lists 14 S.net d M.room

pub read_accepts : AcceptsExactly read_entry IsRead Bytes ReadMeets
unfolding read_entry
read_accepts = accepts read_entry IsRead Bytes ReadMeets read_values (λ s d r e. (header_of s, read_is r (header_of s) e)) read_asked read_meets
  where
    read_asked : (s : List ℕ) (d : Lists) → Bytes s → read_entry.verdict s d ≡ Accepted → (S : Set) × ReadMeets S s d
    read_asked s d small e = (
      set_of s,
      record {
        file = taken_in_file s small (then_first _ _ e);
        only = λ S' F. only_file (set_of s) S' s (taken_in_file s small (then_first _ _ e)) F;
        room = subst (λ (h : Network). LongLists h d) (sym (net_held s)) (lists_long 13 (header_of s) d (then_second _ _ e));
      },
    )

pub read_gives : ThenGives read_entry ReadMeets ReadGives
unfolding read_entry lists_with
read_gives S s before after r P M =
    let e = read_meets S s before M in
    let T = file_set S s (its_file S s M.file) in
    let lent : after ≡ lists_with S before = left read_entry s before after r P e ∙ ap (λ (x : Set). lists_with x before) T in
    subst (λ (x : Lists). ReadGives S s before r x) (sym lent)
    (record {
      answer = read_is r (header_of s) (told read_entry s before after r P e) ∙ ap Ok (file_header S s (its_file S s M.file));
      a = front_laid S.a before.a;
      b = front_laid S.b before.b;
      weights = front_laid S.weights before.weights;
      homes = front_laid S.homes before.homes;
      rows = front_laid S.rows before.rows;
    })
