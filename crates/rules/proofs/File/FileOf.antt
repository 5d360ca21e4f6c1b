-- What the file of a set holds: it is accepted, its header has the set's counts, and the set that it holds is this set. And accepted bytes are the file of a set.
use mathlib.Core.Path.{◌≡◌, sym, ap, ◌∙◌}
use mathlib.Core.List.{List}
use Prim.Native.Nat.{ℕ}
use Rattle.rules.specs.Verdict.{Accepted}
use Rattle.rules.specs.File.{Set, header_of, set_of}
use Rattle.rules.specs.Judgement.{judge}
use Rattle.rules.specs.Sets.{Bytes, FileOf}
use Rattle.rules.proofs.File.Encoded.{header_back}
use Rattle.rules.proofs.File.Accepted.{judged, encode_accepted, set_back}

module _ (S : Set) (s : List ℕ) (F : FileOf S s) where
  pub file_judged : judge s ≡ Accepted
  file_judged = ap judge (sym F.bytes) ∙ encode_accepted S F.rules

  pub file_header : header_of s ≡ S.net
  file_header = ap header_of (sym F.bytes) ∙ header_back S

  pub file_set : set_of s ≡ S
  file_set = ap set_of (sym F.bytes) ∙ set_back S F.rules

-- judged bytes are the file of the set that they hold
pub judged_file : (s : List ℕ) → Bytes s → judge s ≡ Accepted → FileOf (set_of s) s
judged_file s small e = record { rules = (judged s e).rules; bytes = (judged s e).bytes small }
