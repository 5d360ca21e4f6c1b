-- What a part of the builder answers and leaves: as an entry's promise, for the verdict of that part.
use Rattle.std.specs.Prelude.{◌≡◌, List, [], ◌∷◌, ℕ}
use Rattle.rules.specs.Verdict.{Verdict}
use Rattle.rules.specs.Basics.{laid}
use Rattle.rules.specs.Limits.{file_length}
use Rattle.rules.specs.File.{Set, encode, set_of}
use Rattle.rules.specs.Building.{filled, built}
use Rattle.rules.specs.Judgement.{and_then, need_fit, need_room}
use Rattle.rules.specs.Answers.{LengthAnswer, tell, length_tells}
use Rattle.rules.specs.Entries.Entry.{on_accept}

-- by verdict v: the set's bytes at the front of the file and their length, or the refusal and the file as it came
pub record Gives (v : Verdict) (S : Set) (before : List ℕ) (r : LengthAnswer) (after : List ℕ) : Type 0 where
  pub answer : length_tells r ≡ tell v (file_length S.net ∷ [])
  pub lent : after ≡ on_accept v (laid (encode S) before) before

-- of the graph in s: with these homes, after 14
abbrev pub FilledIn : List ℕ → List ℕ → List ℕ → LengthAnswer → List ℕ → Type 0
FilledIn s homes before r after = Gives (need_room (file_length (filled (set_of s) homes).net) before) (filled (set_of s) homes) before r after

-- with first fit's homes, after 9, 10 and 14
abbrev pub BuiltIn : List ℕ → ℕ → List ℕ → LengthAnswer → List ℕ → Type 0
BuiltIn s cap before r after =
    Gives (and_then (need_fit (set_of s) cap) (need_room (file_length (built (set_of s) cap).net) before)) (built (set_of s) cap) before r after
