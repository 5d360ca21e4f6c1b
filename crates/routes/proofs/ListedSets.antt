-- The row in force and the cost row of a set that is held as lists.
use Prim.Native.Nat.{ℕ, zero, suc, ◌-◌, ◌*◌, ◌≤◌, ◌<◌}
use native.Mathlib.Nat.{mul-le-mul_right}
use native.Mathlib.Omega.{arith}
use mathlib.Core.Path.{◌≡◌, refl, sym, ap₂, ◌∙◌}
use mathlib.Core.Bool.{Bool}
use mathlib.Core.List.{List}
use lib.Dec.{eqb}
use lib.ListN.{length, get_or, drop, length-drop}
use lib.Seq.{length-take-le}
use borrow.Author.Tests.{ne_eqb, le-leb}
use Rattle.rules.specs.declared.Network.{Network}
use Rattle.rules.specs.Basics.{need, up_to}
use Rattle.rules.specs.Limits.{restricted_weight, row_weights, home_records}
use Rattle.rules.specs.File.{Set, row_start}
use Rattle.rules.specs.Isolation.{home, isolated, class_by, class, row_in_force}
use Rattle.rules.specs.Entries.Write.{set_with}
use Rattle.rules.specs.Sets.{AcceptedSet}
use Rattle.routes.specs.Listed.{listed}
use Rattle.rules.proofs.Ground.Rows.{up_to_ext}
use Rattle.rules.proofs.Isolation.Homes.{home_low}
use Rattle.routes.specs.Costs.{cost_by, cost, row_of, HoldsRow, cost_of, cost_at, Links}

-- a home tells whether a node is isolated; no home is 0, so that none is isolated in topology 0
pub home_tells : (S : Set) → AcceptedSet S → (i v : ℕ) → v < S.net.n → isolated S i v ≡ eqb (home S v) i
unfolding isolated
home_tells S A zero v h = sym (ne_eqb (home S v) 0 (λ e. omega (arith, home_low S A v h)))
home_tells S A (suc i) v h = rw (le-leb 1 (suc i) (omega arith))

module _ (net : Network) (a b weights homes rows : List ℕ) (A : AcceptedSet (listed net a b weights homes rows)) (i : ℕ) (hi : i ≤ net.k) where
  abbrev S : Set
  S = listed net a b weights homes rows

  pub row_is : row_of weights rows net.m i ≡ row_in_force S i
  unfolding set_with row_of row_in_force row_start row_weights
  row_is = go i
    where
      go : (j : ℕ) → row_of weights rows net.m j ≡ row_in_force S j
      go zero = refl
      go (suc j) = let e : suc j - 1 ≡ j = omega arith in rw (ne_eqb (suc j) 0 (λ z. omega arith), e)

  rows_long : i * net.m ≤ length rows
  unfolding set_with row_weights
  rows_long = let q = A.rules.rows_long in let h = mul-le-mul_right net.m hi in omega (arith, q)

  pub holds_row : HoldsRow weights rows net.m i
  unfolding set_with
  holds_row =
      let q = A.rules.limits in
      record {
        links = omega (arith, A.rules.links_long.2);
        backup = rows_long;
        few = (q.links.1, omega (arith, q.topologies.0));
      }

  row_length : length (row_of weights rows net.m i) ≡ net.m
  unfolding row_of
  row_length = go i rows_long
    where
      go : (j : ℕ) → j * net.m ≤ length rows → length (row_of weights rows net.m j) ≡ net.m
      go zero h = length-take-le net.m weights holds_row.links
      go (suc j) h = length-take-le net.m (drop (j * net.m) rows) (rw length-drop (omega arith))

  homes_length : length homes ≡ net.n
  unfolding set_with home_records need
  homes_length = let h = A.topologies in A.rules.homes_long ∙ rw (ne_eqb net.k 0 (omega arith))

  pub held_links : (row : List ℕ) → row ≡ row_of weights rows net.m i → Links a b homes row net.m
  unfolding set_with
  held_links row e =
      let long = A.rules.links_long in
      let ends = A.rules.ends in
      record {
        a_long = omega (arith, long.0);
        b_long = omega (arith, long.1);
        row_long = rw e (omega (arith, row_length));
        a_in = λ l h. omega (arith, (ends l h).0, (ends l h).1, homes_length);
        b_in = λ l h. omega (arith, (ends l h).1, homes_length);
      }

  pub held_costs : (row c : List ℕ) (r : ℕ) → row ≡ row_of weights rows net.m i → r ≡ restricted_weight net → c ≡ up_to (cost_at a b homes row i r) net.m
      → c ≡ up_to (cost S i) net.m
  unfolding cost_at cost_of cost class set_with home
  held_costs row c r er ew ec =
      ec ∙ up_to_ext (cost_at a b homes row i r) (cost S i) net.m
      (λ l h. rw (er, ew, row_is) (ap₂ (λ (x y : Bool). cost_by (class_by x y) (restricted_weight net) (get_or (row_in_force S i) l 0)) (tells_a l h) (tells_b l h)))
    where
      tell : (v : ℕ) → v < net.n → isolated S i v ≡ eqb (get_or homes v 0) i
      tell v h = home_tells S A i v h

      tells_a : (l : ℕ) → l < net.m → eqb (get_or homes (get_or a l 0) 0) i ≡ isolated S i (get_or a l 0)
      tells_a l h = sym (tell (get_or a l 0) (omega (arith, (A.rules.ends l h).0, (A.rules.ends l h).1)))

      tells_b : (l : ℕ) → l < net.m → eqb (get_or homes (get_or b l 0) 0) i ≡ isolated S i (get_or b l 0)
      tells_b l h = sym (tell (get_or b l 0) (A.rules.ends l h).1)
