-- Reading, as the promise asks it.
use Rattle.std.specs.Prelude.{Ok, Err, IsErrAnd}
use mathlib.Core.Path.{◌≡◌, sym, ap, ◌∙◌}
use mathlib.Core.List.{List}
use Prim.Native.Nat.{ℕ}
use lib.ListN.{length}
use Rattle.rules.specs.declared.Network.{Network}
use Rattle.rules.specs.declared.Rule.{Rule}
use Rattle.rules.specs.Verdict.{Verdict, Accepted, Refused, number_of}
use Rattle.rules.specs.File.{header_of, set_of}
use Rattle.rules.specs.Judgement.{and_then, take_in}
use Rattle.rules.specs.Answers.{ReadAnswer, header_values, tells}
use Rattle.rules.specs.Entries.Entry.{Promise}
use Rattle.rules.specs.Entries.Lists.{Lists, lists, need_lists, LongLists}
use Rattle.rules.specs.Entries.Read.{lists_with, read_entry}
use Rattle.rules.proofs.Ground.Ruling.{says_then}
use Rattle.rules.proofs.Entries.Answering.{tell_refused, lent_refused}
use Rattle.rules.proofs.Refusals.Needs.{lists_long}
use Rattle.needs.specs.Numbers.{lists_rule, lists_verdict, lists_hold, asked}
use Rattle.needs.proofs.Laws.{asked_refused, asked_taken}
use Rattle.listing.specs.Fields.{row_of, lists_of}

module _ (s : List ℕ) (h : Network) (q : h ≡ header_of s) where
  pub header_told : header_values h ≡ header_values (header_of s)
  header_told = ap header_values q

  pub lists_left : (lent new : Lists) → new ≡ lists_of s h lent → new ≡ lists_with (set_of s) lent
  unfolding lists_of row_of lists_with set_of
  lists_left lent new d = d ∙ rw q

  pub lists_asked : (a b w hs rs : List ℕ) (v : Verdict) → v ≡ lists_verdict 14 h (length a) (length b) (length w) (length hs) (length rs)
      → v ≡ need_lists 14 (header_of s) (lists a b w hs rs)
  unfolding lists_verdict lists_rule need_lists
  lists_asked a b w hs rs v e = e ∙ rw q

  -- lists that are all long enough are taken
  pub lists_enough : (a b w hs rs : List ℕ) (by : Rule) (x : Unit {0}) → Ok x ≡ asked (lists_hold h (length a) (length b) (length w) (length hs) (length rs)) by
      → Accepted ≡ need_lists 14 (header_of s) (lists a b w hs rs)
  lists_enough a b w hs rs by x e = lists_asked a b w hs rs Accepted (asked_taken h (length a) (length b) (length w) (length hs) (length rs) by x 14 e)

-- a list that is too short refuses
pub lists_short : (s : List ℕ) (h : Network) (a b w hs rs : List ℕ) (by rule : Rule) (answer : ReadAnswer) → Err rule ≡ asked (lists_hold h (length a) (length b) (length w) (length hs) (length rs)) by
    → h ≡ header_of s → number_of by ≡ 14 → Accepted ≡ take_in s → IsErrAnd answer (λ r. r ≡ record { rule = rule; place = 0 })
    → Promise read_entry s (lists a b w hs rs) answer (lists a b w hs rs)
unfolding read_entry tells
lists_short s h a b w hs rs by rule (Ok x) e q n t d = absurd d
lists_short s h a b w hs rs by rule (Err r) e q n t d =
    let short = asked_refused h (length a) (length b) (length w) (length hs) (length rs) by rule r 14 e n d in
    let said : Refused (number_of r.rule) r.place ≡ and_then (take_in s) (need_lists 14 (header_of s) (lists a b w hs rs)) =
    says_then _ _ _ t (lists_asked s h q a b w hs rs (Refused (number_of r.rule) r.place) short) in
    record { answer = tell_refused _ _ _ _ said; lent = lent_refused _ _ _ _ _ said }

-- an accepted call has room
pub read_room : (h : Network) (a b w hs rs : List ℕ) → Accepted ≡ lists_verdict 14 h (length a) (length b) (length w) (length hs) (length rs)
    → LongLists h (lists a b w hs rs)
unfolding lists_verdict lists_rule need_lists
read_room h a b w hs rs e = lists_long 13 h (lists a b w hs rs) (sym e)

-- and so has one whose lists were asked for and are long enough
pub asked_room : (h : Network) (a b w hs rs : List ℕ) (by : Rule) (x : Unit {0}) → Ok x ≡ asked (lists_hold h (length a) (length b) (length w) (length hs) (length rs)) by
    → LongLists h (lists a b w hs rs)
asked_room h a b w hs rs by x e = read_room h a b w hs rs (asked_taken h (length a) (length b) (length w) (length hs) (length rs) by x 14 e)

pub ruleset reading = (header_told, lists_left, lists_asked, read_room, lists_enough, asked_room)
