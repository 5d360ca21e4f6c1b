-- The order of 7 and 8 within a topology, which the twelve examples cannot see.
use mathlib.Core.Path.{◌≡◌}
use mathlib.Core.Bool.{true, false}
use Prim.Native.Nat.{ℕ}
use Rattle.rules.specs.Basics.{need}
use Rattle.rules.specs.File.{Set}
use Rattle.rules.specs.Isolation.{connected, two_links, topology_number}

-- "7 before 8": where the backbone rule fails the number is 7, whatever the isolated nodes have
pub seven_first : (S : Set) (i : ℕ) → connected S i ≡ false → topology_number S i ≡ 7
unfolding topology_number need
seven_first S i e = rw e

pub eight_next : (S : Set) (i : ℕ) → connected S i ≡ true → two_links S i ≡ false → topology_number S i ≡ 8
unfolding topology_number need
eight_next S i e d = rw (e, d)

-- no number where neither rule fails
pub no_number : (S : Set) (i : ℕ) → connected S i ≡ true → two_links S i ≡ true → topology_number S i ≡ 0
unfolding topology_number need
no_number S i e d = rw (e, d)
