-- What a laid file answers and leaves, and the promise of the entry.
use Rattle.std.specs.Prelude.{Ok}
use mathlib.Core.Path.{◌≡◌, refl, sym, ap, ap₂, subst, ◌∙◌}
use mathlib.Core.List.{List, [], ◌∷◌, ◌++◌, append-nil}
use Prim.Native.Nat.{ℕ, ◌≤◌}
use native.Mathlib.Omega.{arith}
use lib.Dec.{leb}
use lib.ListN.{length, take, drop, drop_of_length-le}
use lib.Seq.{length-take-le}
use borrow.Author.Tests.{leb-true}
use Rattle.rules.specs.declared.Network.{Network}
use Rattle.rules.specs.Verdict.{Verdict, Accepted, Refused}
use Rattle.rules.specs.Basics.{need, laid}
use Rattle.rules.specs.Limits.{need_counts, file_length}
use Rattle.rules.specs.File.{encode}
use Rattle.rules.specs.Judgement.{refuse, and_then, take_in, need_room}
use Rattle.rules.specs.Answers.{LengthAnswer, tell, length_tells, tells}
use Rattle.rules.specs.Entries.Entry.{on_accept, Promise}
use Rattle.rules.specs.Entries.Lists.{Lists, lists, need_lists}
use Rattle.rules.specs.Entries.Write.{set_with, write_entry}
use Rattle.rules.proofs.Ground.Choices.{need_ok, refuse_zero, then_ok, then_no, then_first, then_second, then_assoc}
use Rattle.rules.proofs.File.Encoded.{encode_long}
use Rattle.rules.proofs.File.Records.{counts_ok}
use Rattle.rules.proofs.File.Accepted.{length_bound}
use Rattle.slices.specs.Stores.{put}
use Rattle.slices.proofs.Stores.{put_laid}
use Rattle.needs.specs.Numbers.{lists_rule, lists_verdict}
use Rattle.writer.specs.Parts.{given_verdict, laid_verdict, Copied}

-- ---- before anything is laid

pub given_taken : (h : Network) (a b weights homes rows : ℕ) → Accepted ≡ given_verdict h a b weights homes rows → given_verdict h a b weights homes rows ≡ Accepted
given_taken h a b weights homes rows e = sym e

-- counts within their limits have a file that the longest room holds
module _ (h : Network) (a b weights homes rows long : ℕ) (e : given_verdict h a b weights homes rows ≡ Accepted) (q : long ≡ file_length h) where
  room_there : long ≤ 9192
  unfolding given_verdict
  room_there = let bound = length_bound h (counts_ok h 0 (refuse_zero _ 0 (then_first _ _ e))).0 in omega arith

  pub room_held : (room : List ℕ) → 9192 ≡ length room → long ≤ length room
  room_held room r = omega (arith, room_there)

  part_long : (room : List ℕ) → 9192 ≡ length room → length (take long room) ≡ long
  part_long room r = length-take-le long room (room_held room r)

  pub part_counted : (room : List ℕ) → 9192 ≡ length room → long ≡ length (take long room)
  part_counted room r = sym (part_long room r)

  pub part_is : (room : List ℕ) → 9192 ≡ length room → length (take long room) ≡ file_length h
  part_is room r = part_long room r ∙ q

pub ruleset Own-room = (room_held, part_counted, part_is)

-- ---- a laid file

-- an accepted one has room
pub copy_fits : (long room : ℕ) → Accepted ≡ refuse (need (leb long room) 14 0) 0 → long ≤ room
copy_fits long room t = leb-true _ _ (need_ok (leb long room) 13 0 (refuse_zero _ 0 (sym t))).0

pub laid_at : (s before after : List ℕ) → after ≡ s ++ drop (length s) before → after ≡ laid s before
unfolding laid
laid_at s before after e = e

pub ruleset copying = (copy_fits, laid_at)

-- ---- the lists laid

-- room that is exactly as long as what is laid in it becomes that
room_is : (h : Network) (d : Lists) (room : List ℕ) → length room ≡ file_length h → put room 0 (encode (set_with h d)) ≡ encode (set_with h d)
unfolding laid set_with
room_is h d room e =
    let bytes : List ℕ = encode (set_with h d) in
    let long : length bytes ≡ file_length h = encode_long (set_with h d) in
    put_laid bytes room (omega arith) ∙ ap (λ (x : List ℕ). bytes ++ x) (drop_of_length-le room {i = length bytes} (omega arith)) ∙ append-nil bytes

pub laid_is : (h : Network) (a b weights homes rows room filled before : List ℕ) (r : LengthAnswer) (after : List ℕ) → length room ≡ file_length h
    → filled ≡ put room 0 (encode (set_with h (lists a b weights homes rows))) → Copied filled before r after
    → Copied (encode (set_with h (lists a b weights homes rows))) before r after
laid_is h a b weights homes rows room filled before r after e p c =
    subst (λ (x : List ℕ). Copied x before r after) (p ∙ room_is h (lists a b weights homes rows) room e) c

-- ---- the promise

module _ (h : Network) (a b weights homes rows file : List ℕ) where
  abbrev given : Lists
  given = lists a b weights homes rows

  lists_same : lists_verdict 1 h (length a) (length b) (length weights) (length homes) (length rows) ≡ need_lists 1 h given
  unfolding lists_verdict lists_rule need_lists
  lists_same = refl

  -- what is asked first decides where it refuses
  pub given_first : (number place : ℕ) (rest : Verdict) → Refused number place ≡ given_verdict h (length a) (length b) (length weights) (length homes) (length rows)
      → Refused number place ≡ and_then (refuse (need_counts h 0) 0) (and_then (need_lists 1 h given) rest)
  unfolding given_verdict
  given_first number place rest t =
      sym (ap (λ (x : Verdict). and_then (refuse (need_counts h 0) 0) (and_then x rest)) (sym lists_same) ∙ then_assoc _ _ _ ∙ then_no _ _ number place (sym t))

  -- the entry's verdict: what is asked first, then the file and its room
  entry_verdict : write_entry.verdict (record { net = h; lists = given }) file
      ≡ and_then (refuse (need_counts h 0) 0) (and_then (need_lists 1 h given) (laid_verdict (encode (set_with h given)) (length file)))
  unfolding write_entry laid_verdict need_room set_with
  entry_verdict =
      ap (λ (x : ℕ). and_then (refuse (need_counts h 0) 0) (and_then (need_lists 1 h given) (and_then (take_in (encode (set_with h given))) (refuse (need (leb x (length file)) 14 0) 0))))
      (sym (encode_long (set_with h given)))

  pub write_taken : (r : LengthAnswer) (after : List ℕ) → Accepted ≡ given_verdict h (length a) (length b) (length weights) (length homes) (length rows)
      → Copied (encode (set_with h given)) file r after → Promise write_entry (record { net = h; lists = given }) file r after
  unfolding write_entry tells tell on_accept given_verdict set_with
  write_taken r after t c =
      let same : write_entry.verdict (record { net = h; lists = given }) file ≡ laid_verdict (encode (set_with h given)) (length file) =
      entry_verdict ∙ ap (λ (x : Verdict). and_then (refuse (need_counts h 0) 0) (and_then x (laid_verdict (encode (set_with h given)) (length file)))) (sym lists_same)
      ∙ then_assoc _ _ _ ∙ then_ok _ _ (sym t) in
      record {
        answer = c.answer ∙ ap₂ (λ (x : Verdict) (n : ℕ). tell x (n ∷ [])) (sym same) (encode_long (set_with h given));
        lent = c.lent ∙ sym (ap (λ (x : Verdict). on_accept x (laid (encode (set_with h given)) file) file) same);
      }

pub ruleset giving = (given_taken, given_first)
