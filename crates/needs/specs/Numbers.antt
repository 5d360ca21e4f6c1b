-- The verdict on lists by their lengths; and refusals by any number.
use Rattle.std.specs.Prelude.{ℕ, ◌*◌, ◌&&◌, Bool, true, false, leb, Result, Ok, Err}
use Rattle.rules.specs.declared.Network.{Network}
use Rattle.rules.specs.Verdict.{Verdict, Accepted, Refused}
use Rattle.needs.specs.declared.Numbered.{Numbered}
use Rattle.rules.specs.Basics.{need}
use Rattle.rules.specs.Limits.{home_records, row_weights}
use Rattle.rules.specs.Judgement.{refuse}

-- lists of these lengths, against an entry for each link, `nodes` homes and `entries` weights of rows
unfoldable pub lists_rule : ℕ → Network → ℕ → ℕ → ℕ → ℕ → ℕ → ℕ → ℕ → ℕ
lists_rule number h a b weights homes rows nodes entries =
    need (leb h.m a) number
    (need (leb h.m b) number
    (need (leb h.m weights) number
    (need (leb nodes homes) number
    (need (leb entries rows) number 0))))

-- the published need of lists, by their lengths alone
unfoldable pub lists_verdict : ℕ → Network → ℕ → ℕ → ℕ → ℕ → ℕ → Verdict
lists_verdict number h a b weights homes rows = refuse (lists_rule number h a b weights homes rows (home_records h) (h.k * row_weights h)) 0

-- the same as a test: each of the five lists is long enough
unfoldable pub lists_hold : Network → ℕ → ℕ → ℕ → ℕ → ℕ → Bool
lists_hold h a b weights homes rows =
    leb h.m a && (leb h.m b && (leb h.m weights && (leb (home_records h) homes && leb (h.k * row_weights h) rows)))

-- what is asked holds, or this refuses
unfoldable pub asked : {A : Type 0} → Bool → A → Result (Unit {0}) A
asked true refusal = Ok tt
asked false refusal = Err refusal

-- the verdict that a result says whose refusals are numbers
unfoldable pub numbered : Result (Unit {0}) Numbered → Verdict
numbered (Ok x) = Accepted
numbered (Err refusal) = Refused refusal.number refusal.place

-- the same at place 0, of refusals that are a number alone; 0 is no refusal
unfoldable pub by_number : Result (Unit {0}) ℕ → Verdict
by_number (Ok x) = Accepted
by_number (Err number) = refuse number 0
