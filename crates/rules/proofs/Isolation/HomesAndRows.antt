-- Homes, isolated nodes and the entries of rows, of any set.
use mathlib.Core.Path.{◌≡◌, refl, sym, ap, ◌∙◌}
use mathlib.Core.Bool.{Bool, true, false, ◌&&◌}
use mathlib.Core.List.{List}
use Prim.Native.Nat.{ℕ, suc, ◌+◌, ◌-◌, ◌≤◌, ◌<◌}
use native.Mathlib.Omega.{arith}
use lib.Dec.{eqb}
use lib.ListN.{get_or, take, drop}
use lib.Seq.{get_or-take, get_or-drop}
use borrow.Author.Tests.{le-leb, ne_eqb}
use Rattle.rules.specs.declared.Network.{Network}
use Rattle.rules.specs.Basics.{need}
use Rattle.rules.specs.Limits.{home_records, row_weights}
use Rattle.rules.specs.File.{Set, row_start}
use Rattle.rules.specs.Isolation.{home, isolated, row_in_force}
use Rattle.rules.proofs.Ground.Choices.{if_no, need_eq_no}

-- with a topology there is a home for each node
pub homes_all : (h : Network) → 1 ≤ h.k → home_records h ≡ h.n
unfolding home_records
homes_all h l = sym (need_eq_no h.k 0 h.n 0 h.n (λ e. omega arith) refl)

need_most : (t : Bool) (x : ℕ) → need t x 0 ≤ x
unfolding need
need_most true x = omega arith
need_most false x = omega arith

pub homes_most : (h : Network) → home_records h ≤ h.n
unfolding home_records
homes_most h = need_most (eqb h.k 0) h.n

-- a node is isolated in topology j + 1 exactly if that is its home
pub isolated_by_home : (S : Set) (j v : ℕ) → isolated S (suc j) v ≡ eqb (home S v) (suc j)
unfolding isolated
isolated_by_home S j v = ap (λ (t : Bool). t && eqb (home S v) (suc j)) (le-leb 1 (suc j) (omega arith))

-- link l's entry of the row in force for topology j + 1
pub row_entry : (S : Set) (j l : ℕ) → l < S.net.m → get_or (row_in_force S (suc j)) l 0 ≡ get_or S.rows (row_start S.net j + l) 0
unfolding row_in_force row_weights
row_entry S j l h =
    let back : suc j - 1 ≡ j = omega arith in
    ap (λ (r : List ℕ). get_or r l 0) (if_no (eqb (suc j) 0) (take S.net.m S.weights) _ (ne_eqb (suc j) 0 (λ e. omega arith)))
    ∙ get_or-take S.net.m (drop (row_start S.net (suc j - 1)) S.rows) l 0 h
    ∙ get_or-drop (row_start S.net (suc j - 1)) S.rows l 0
    ∙ ap (λ (x : ℕ). get_or S.rows (row_start S.net x + l) 0) back
