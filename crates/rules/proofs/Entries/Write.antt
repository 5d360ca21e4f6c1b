-- Demand 2 of the entry `write`: what it accepts, and what it then answers and leaves.
use Rattle.std.specs.Prelude.{Ok}
use mathlib.Core.Path.{◌≡◌, refl, sym, ap, subst, ◌∙◌}
use mathlib.Core.List.{List}
use Prim.Native.Nat.{ℕ, ◌*◌}
use Rattle.rules.specs.declared.Network.{Network}
use Rattle.rules.specs.Verdict.{Accepted, Refused}
use Rattle.rules.specs.Basics.{laid}
use Rattle.rules.specs.Limits.{need_counts, row_weights, home_records, file_length}
use Rattle.rules.specs.File.{Set, encode}
use Rattle.rules.specs.Judgement.{take_in}
use Rattle.rules.specs.Entries.Lists.{Lists, LongLists}
use Rattle.rules.specs.Entries.Write.{WriteInput, set_with, write_entry}
use Rattle.rules.specs.Sets.{WithinLimits, Published}
use Rattle.rules.specs.Demands.Form.{AcceptsExactly, ThenGives, IsLength, Front}
use Rattle.rules.specs.Demands.Two.{cut_to, WriteMeets, WriteGives}
use Rattle.rules.proofs.Ground.Choices.{refuse_ok, then_ok, then_no, then_both, then_first, then_second}
use Rattle.rules.proofs.Ground.Rows.{up_to_take}
use Rattle.rules.proofs.File.Records.{counts_on}
use Rattle.rules.proofs.File.WithinCounts.{front, within, same_set, encode_within, set_of_encode}
use Rattle.rules.proofs.File.TakenIn.{taken_published, encode_taken}
use Rattle.rules.proofs.Entries.Answering.{told, left, accepts, front_laid, length_values, length_is}
use Rattle.rules.proofs.Refusals.Needs.{lists_long, long_lists, room_ok, room_long}

-- where counts and lists are in order, what taking in refuses of the file that would be written is told first
pub write_stops : (i : WriteInput) (room : List ℕ) (number place : ℕ) → WithinLimits i.net → LongLists i.net i.lists
    → take_in (encode (set_with i.net i.lists)) ≡ Refused number place → write_entry.verdict i room ≡ Refused number place
unfolding write_entry
write_stops i room number place W L e =
    then_ok _ _ (sym (refuse_ok (need_counts i.net 0) 0 (counts_on i.net 0 W))) ∙ then_ok _ _ (long_lists _ i.net i.lists L) ∙ then_no _ _ number place e

-- a set within its counts is its lists, cut to them
within_cut : (h : Network) (d : Lists) → LongLists h d → within (set_with h d) ≡ cut_to h d
unfolding within set_with cut_to front
within_cut h d l =
    same_set (within (set_with h d)) (cut_to h d) refl
    (up_to_take d.a h.m 0 l.a)
    (up_to_take d.b h.m 0 l.b)
    (up_to_take d.weights h.m 0 l.weights)
    (up_to_take d.homes (home_records h) 0 l.homes)
    (up_to_take d.rows (h.k * row_weights h) 0 l.rows)

-- entries past the counts are not written
pub encode_cut : (h : Network) (d : Lists) → LongLists h d → encode (set_with h d) ≡ encode (cut_to h d)
encode_cut h d l = sym (encode_within (set_with h d)) ∙ ap encode (within_cut h d l)

cut_meets : (h : Network) (d : Lists) → LongLists h d → take_in (encode (set_with h d)) ≡ Accepted → Published (cut_to h d)
cut_meets h d l e = subst Published (set_of_encode (set_with h d) ∙ within_cut h d l) (taken_published (encode (set_with h d)) e)

write_meets : (S : Set) (i : WriteInput) (room : List ℕ) → WriteMeets S i room → write_entry.verdict i room ≡ Accepted
unfolding write_entry
write_meets S i room M =
    let counted = sym (refuse_ok (need_counts i.net 0) 0 (counts_on i.net 0 M.limits)) in
    let long = M.lists in
    let file : take_in (encode (set_with i.net i.lists)) ≡ Accepted =
    ap take_in (encode_cut i.net i.lists M.lists ∙ ap encode (sym M.set)) ∙ encode_taken S M.published
    in
    let room = room_ok (file_length i.net) room M.room in
    search (then_both, long_lists)

pub write_accepts : AcceptsExactly write_entry IsLength (λ i. Unit {0}) WriteMeets
unfolding write_entry cut_to
write_accepts =
    accepts write_entry IsLength (λ i. Unit {0}) WriteMeets length_values (λ i room r e. (file_length i.net, length_is r (file_length i.net) e)) write_asked write_meets
  where
    write_asked : (i : WriteInput) (room : List ℕ) → Unit {0} → write_entry.verdict i room ≡ Accepted → (S : Set) × WriteMeets S i room
    write_asked i room fair e =
        let rest = then_second _ _ e in
        let l = lists_long _ i.net i.lists (then_first _ _ rest) in
        let R = cut_meets i.net i.lists l (then_first _ _ (then_second _ _ rest)) in (
          cut_to i.net i.lists,
          record { limits = R.rules.limits; lists = l; set = refl; published = R; room = room_long (file_length i.net) room (then_second _ _ (then_second _ _ rest)) },
        )

pub write_gives : ThenGives write_entry WriteMeets WriteGives
unfolding write_entry cut_to
write_gives S i before after r P M =
    let e = write_meets S i before M in
    let bytes : encode (set_with i.net i.lists) ≡ encode S = encode_cut i.net i.lists M.lists ∙ ap encode (sym M.set) in
    let net : i.net ≡ S.net = ap (λ (x : Set). x.net) (sym M.set) in
    let lent : after ≡ laid (encode S) before = left write_entry i before after r P e ∙ ap (λ (x : List ℕ). laid x before) bytes in
    record {
      answer = length_is r (file_length i.net) (told write_entry i before after r P e) ∙ ap (λ (h : Network). Ok (file_length h)) net;
      file = subst (λ (x : List ℕ). Front (encode S) before x) (sym lent) (front_laid (encode S) before);
    }
