-- The five lists that `read` is lent and `write` is given.
use Rattle.std.specs.Prelude.{List, ℕ, ◌*◌, ◌≤◌, leb, length}
use Rattle.rules.specs.declared.Network.{Network}
use Rattle.rules.specs.Verdict.{Verdict}
use Rattle.rules.specs.Basics.{need}
use Rattle.rules.specs.Limits.{home_records, row_weights}
use Rattle.rules.specs.Judgement.{refuse}

-- the five lists: link ends a, link ends b, link weights, homes, backup weights
pub record Lists : Type 0 where
  pub a : List ℕ
  pub b : List ℕ
  pub weights : List ℕ
  pub homes : List ℕ
  pub rows : List ℕ

-- the five lists as one value
abbrev pub lists : List ℕ → List ℕ → List ℕ → List ℕ → List ℕ → Lists
lists a b weights homes rows = record { a = a; b = b; weights = weights; homes = homes; rows = rows }

-- this refusal number where a list is under what the counts need
unfoldable pub need_lists : ℕ → Network → Lists → Verdict
need_lists number h d =
    refuse
    (need (leb h.m (length d.a)) number
    (need (leb h.m (length d.b)) number
    (need (leb h.m (length d.weights)) number
    (need (leb (home_records h) (length d.homes)) number
    (need (leb (h.k * row_weights h) (length d.rows)) number 0)))))
    0

-- each of the five lists is as long as the counts need, or longer
pub record LongLists (h : Network) (d : Lists) : Type 0 where
  pub a : h.m ≤ length d.a
  pub b : h.m ≤ length d.b
  pub weights : h.m ≤ length d.weights
  pub homes : home_records h ≤ length d.homes
  pub rows : h.k * row_weights h ≤ length d.rows
