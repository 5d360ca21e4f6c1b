-- Demand 2: bytes are taken in exactly when they are the encoding of a graph alone, or of a set, that meets the published rules. What is taken in where a set is
-- needed is an accepted set.
use mathlib.Core.Path.{◌≡◌, sym, ap, subst, ◌∙◌}
use mathlib.Core.List.{List}
use Prim.Native.Nat.{ℕ, ◌≤◌}
use native.Mathlib.Omega.{arith}
use Rattle.rules.specs.Verdict.{Accepted, Refused}
use Rattle.rules.specs.File.{Set, encode, header_of, set_of}
use Rattle.rules.specs.Judgement.{judge, topologies, take_in, need_set, take_set}
use Rattle.rules.specs.Sets.{Bytes, Published, PublishedFile, AcceptedSet}
use Rattle.rules.specs.Demands.Two.{TakenInExactly, AcceptedPublished}
use Rattle.rules.proofs.Ground.Choices.{then_ok, then_no, then_first, then_second}
use Rattle.rules.proofs.File.SetOfBytes.{net_held}
use Rattle.rules.proofs.File.Accepted.{judged, encode_accepted, set_back}
use Rattle.rules.proofs.Isolation.Sound.{topologies_sound, sound_topologies}
use Rattle.rules.proofs.Refusals.Needs.{set_needed, set_given}

-- ---- a set is a graph with backup topologies

pub published_set : (S : Set) → Published S → 1 ≤ S.net.k → AcceptedSet S
published_set S P some = record { rules = P.rules; topologies = some; sound = P.sound }

pub set_published : (S : Set) → AcceptedSet S → Published S
set_published S A = record { rules = A.rules; sound = A.sound }

pub accepted_published : AcceptedPublished
accepted_published S = (λ A. (set_published S A, A.topologies), λ P. published_set S P.0 P.1)

-- ---- bytes that are taken in

module _ (s : List ℕ) where
  pub taken_file : take_in s ≡ Accepted → judge s ≡ Accepted
  unfolding take_in
  taken_file e = then_first (judge s) (topologies (set_of s)) e

  pub taken_published : take_in s ≡ Accepted → Published (set_of s)
  unfolding take_in
  taken_published e = record { rules = (judged s (taken_file e)).rules; sound = topologies_sound (set_of s) (then_second (judge s) (topologies (set_of s)) e) }

  pub published_taken : judge s ≡ Accepted → Published (set_of s) → take_in s ≡ Accepted
  unfolding take_in
  published_taken e P = then_ok (judge s) (topologies (set_of s)) e ∙ sound_topologies (set_of s) P.sound

  -- a graph alone has no topology to check
  pub graph_taken : judge s ≡ Accepted → (header_of s).k ≡ 0 → take_in s ≡ Accepted
  graph_taken e none =
      published_taken e (record { rules = (judged s e).rules; sound = λ i one l. absurd (let k : i ≤ (header_of s).k = rw (net_held s) at l in omega arith) })

  -- ---- where a set is needed

  pub set_taken : take_set s ≡ Accepted → take_in s ≡ Accepted
  unfolding take_set
  set_taken e = then_first (take_in s) (need_set (header_of s)) e

  pub set_file : take_set s ≡ Accepted → judge s ≡ Accepted
  set_file e = taken_file (set_taken e)

  pub set_accepted : take_set s ≡ Accepted → AcceptedSet (set_of s)
  unfolding take_set
  set_accepted e =
      published_set (set_of s) (taken_published (set_taken e)) (rw (net_held s) (set_needed (header_of s) (then_second (take_in s) (need_set (header_of s)) e)))

  pub accepted_taken : judge s ≡ Accepted → AcceptedSet (set_of s) → take_set s ≡ Accepted
  unfolding take_set
  accepted_taken e A =
      then_ok (take_in s) (need_set (header_of s)) (published_taken e (set_published (set_of s) A)) ∙ set_given (header_of s) (rw (net_held s) at A.topologies)

  -- 13 comes after
  pub set_stops : (number place : ℕ) → take_in s ≡ Refused number place → take_set s ≡ Refused number place
  unfolding take_set
  set_stops number place e = then_no (take_in s) (need_set (header_of s)) number place e

-- ---- the file of a graph or a set

pub encode_taken : (S : Set) → Published S → take_in (encode S) ≡ Accepted
encode_taken S P =
    published_taken (encode S) (encode_accepted S P.rules) (subst (λ (T : Set). Published T) (sym (set_back S P.rules)) P)

pub encode_set_taken : (S : Set) → AcceptedSet S → take_set (encode S) ≡ Accepted
encode_set_taken S A =
    accepted_taken (encode S) (encode_accepted S A.rules) (subst (λ (T : Set). AcceptedSet T) (sym (set_back S A.rules)) A)

-- bytes that are taken in are the file of what they hold
pub taken_in_file : (s : List ℕ) → Bytes s → take_in s ≡ Accepted → PublishedFile (set_of s) s
taken_in_file s small e = record { published = taken_published s e; bytes = (judged s (taken_file s e)).bytes small }

pub file_taken_in : (S : Set) (s : List ℕ) → PublishedFile S s → take_in s ≡ Accepted
file_taken_in S s F = ap take_in (sym F.bytes) ∙ encode_taken S F.published

pub taken_in_exactly : TakenInExactly
taken_in_exactly s small = (λ e. (set_of s, taken_in_file s small e), λ v. file_taken_in v.0 s v.1)
