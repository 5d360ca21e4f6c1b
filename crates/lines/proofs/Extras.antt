-- Two hop counts of one byte each, as signed numbers of 32 bits, and their difference: each is the integer that is meant.
use mathlib.Core.Path.{◌≡◌, sym, ap, ap₂, subst, ◌∙◌}
use Prim.Native.Nat.{ℕ}
use native.Mathlib.Omega.{arith}
use lib.IntN.{ℤ, pos, ◌-ℤ◌}
use mir.Syntax.{w8, w32}
use mir.Val.{Fits, SFits, to_z, of_z}
use mir.Facts.{to_z-of_z}
use Rattle.rules.proofs.Ground.Integers.{by_larger}

counted : (x : ℕ) → Fits w8 x → to_z w32 x ≡ pos x
counted x f = to_z-of_z {w = w32} {z = pos x} (record { sfits = omega (arith, f.fits) })

module _ (hops plain : ℕ) (f : Fits w8 hops) (g : Fits w8 plain) where
  in_range : SFits w32 (pos hops -ℤ pos plain)
  in_range =
      by_larger (SFits w32) hops plain (λ l. record { sfits = omega (arith, g.fits) }) (λ l. record { sfits = omega (arith, f.fits) })

  -- the difference, read back
  pub read_back : (z : ℤ) → z ≡ pos hops -ℤ pos plain → to_z w32 (of_z w32 z) ≡ pos hops -ℤ pos plain
  read_back z e = ap (λ (x : ℤ). to_z w32 (of_z w32 x)) e ∙ to_z-of_z {w = w32} in_range

  module _ (x y : ℤ) (d : x ≡ pos hops) (e : y ≡ pos plain) where
    same : to_z w32 (of_z w32 x) -ℤ to_z w32 (of_z w32 y) ≡ pos hops -ℤ pos plain
    same = rw (d, e) (ap₂ (λ (x y : ℤ). x -ℤ y) (counted hops f) (counted plain g))

    pub extra_fits : SFits w32 (to_z w32 (of_z w32 x) -ℤ to_z w32 (of_z w32 y))
    extra_fits = subst (SFits w32) (sym same) in_range

    pub extra_is : to_z w32 (of_z w32 (to_z w32 (of_z w32 x) -ℤ to_z w32 (of_z w32 y))) ≡ pos hops -ℤ pos plain
    extra_is = read_back (to_z w32 (of_z w32 x) -ℤ to_z w32 (of_z w32 y)) same

pub ruleset extras = (extra_fits, extra_is)
