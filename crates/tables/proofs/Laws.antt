-- The entry, as its promise asks it.
use mathlib.Core.Path.{◌≡◌, sym, ap, ap₂, ◌∙◌}
use mathlib.Core.List.{List, [], ◌∷◌, ◌++◌}
use Prim.Native.Nat.{ℕ, ◌≤◌}
use lib.Dec.{leb}
use lib.ListN.{length, take, drop}
use lib.Seq.{length-take-le}
use borrow.Author.Tests.{leb-true}
use Rattle.rules.specs.declared.Network.{Network}
use Rattle.rules.specs.Verdict.{Verdict, Accepted}
use Rattle.rules.specs.Basics.{need, laid}
use Rattle.rules.specs.Limits.{tables_length}
use Rattle.rules.specs.File.{header_of, set_of}
use Rattle.rules.specs.Distance.{table_bytes}
use Rattle.rules.specs.Judgement.{refuse, take_set, need_room}
use Rattle.rules.proofs.Ground.Choices.{need_ok, refuse_zero}
use Rattle.rules.proofs.Ground.Rows.{prefix_long}
use Rattle.rules.proofs.File.SetOfBytes.{net_held}
use Rattle.rules.proofs.Forwarding.LentTables.{bytes_long}

-- an accepted call has room
pub room_part : (out : List ℕ) (bytes : ℕ) → Accepted ≡ refuse (need (leb bytes (length out)) 14 0) 0 → bytes ≤ length out
room_part out bytes t = leb-true _ _ (need_ok (leb bytes (length out)) 13 0 (refuse_zero _ 0 (sym t))).0

pub part_long : (out : List ℕ) (h : Network) (bytes : ℕ) → Accepted ≡ refuse (need (leb bytes (length out)) 14 0) 0 → bytes ≡ tables_length h → length (take bytes out) ≡ tables_length h
part_long out h bytes t d = length-take-le bytes out (room_part out bytes t) ∙ d

pub is_taken : (s : List ℕ) → Accepted ≡ take_set s → take_set s ≡ Accepted
is_taken s t = sym t

module _ (s : List ℕ) (h : Network) (bytes : ℕ) (n : h ≡ header_of s) (q : bytes ≡ tables_length h) where
  long_is : bytes ≡ tables_length (header_of s)
  long_is = q ∙ ap tables_length n

  pub room_asked : (out : List ℕ) (v : Verdict) → v ≡ refuse (need (leb bytes (length out)) 14 0) 0 → v ≡ need_room (tables_length (header_of s)) out
  unfolding need_room
  room_asked out v e = e ∙ ap (λ (x : ℕ). refuse (need (leb x (length out)) 14 0) 0) long_is

  pub length_told : bytes ∷ [] ≡ tables_length (header_of s) ∷ []
  length_told = ap (λ (x : ℕ). x ∷ []) long_is

  pub tables_left : (out t : List ℕ) → t ≡ table_bytes (set_of s) → t ++ drop bytes out ≡ laid (table_bytes (set_of s)) out
  unfolding laid
  tables_left out t g =
      ap₂ (λ (x : List ℕ) (y : ℕ). x ++ drop y out) g (long_is ∙ ap tables_length (sym (net_held s)) ∙ sym (bytes_long (set_of s)))

pub ruleset tabling = (prefix_long, room_part, part_long, is_taken, room_asked, length_told, tables_left)
