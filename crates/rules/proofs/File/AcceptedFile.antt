-- What the file of an accepted set holds: it is taken in where a set is needed, its header has the set's counts, and the set that it holds is this set. And
-- bytes that are taken in so are the file of an accepted set.
use mathlib.Core.Path.{◌≡◌, sym, ap, ◌∙◌}
use mathlib.Core.List.{List}
use Prim.Native.Nat.{ℕ}
use Rattle.rules.specs.Verdict.{Accepted}
use Rattle.rules.specs.File.{Set, header_of, set_of}
use Rattle.rules.specs.Judgement.{take_set}
use Rattle.rules.specs.Sets.{Bytes, FileOf, AcceptedFile}
use Rattle.rules.proofs.File.Accepted.{judged}
use Rattle.rules.proofs.File.TakenIn.{set_file, set_accepted, encode_set_taken}
use Rattle.rules.proofs.File.FileOf.{file_header, file_set}

module _ (S : Set) (s : List ℕ) (F : AcceptedFile S s) where
  pub its_file : FileOf S s
  its_file = record { rules = F.accepted.rules; bytes = F.bytes }

  pub file_taken : take_set s ≡ Accepted
  file_taken = ap take_set (sym F.bytes) ∙ encode_set_taken S F.accepted

  pub its_header : header_of s ≡ S.net
  its_header = file_header S s its_file

  pub its_set : set_of s ≡ S
  its_set = file_set S s its_file

-- they are the file of the accepted set that they hold
pub accepted_file : (s : List ℕ) → Bytes s → take_set s ≡ Accepted → AcceptedFile (set_of s) s
accepted_file s small e = record { accepted = set_accepted s e; bytes = (judged s (set_file s e)).bytes small }
