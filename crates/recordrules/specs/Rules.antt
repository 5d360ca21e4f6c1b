-- The rules of each record over the values of its fields. The published ones read the same fields out of a file.
use Rattle.std.specs.Prelude.{ℕ, eqb, ltb, leb}
use Rattle.rules.specs.declared.Network.{Network}
use Rattle.rules.specs.Basics.{need}
use Rattle.rules.specs.Limits.{header_length}
use Rattle.rules.specs.Isolation.{class_by, weight_fits}

unfoldable pub header_rule : ℕ → ℕ → ℕ → ℕ → ℕ
header_rule long x y rest = need (leb header_length long) 1 (need (eqb x 0x4E) 2 (need (eqb y 0x57) 2 rest))

unfoldable pub link_rule : Network → ℕ → ℕ → ℕ → ℕ → ℕ → ℕ → ℕ → ℕ
link_rule h x y last rank a b w =
    need (eqb x 0x4C) 2
    (need (eqb y 0x4B) 2
    (need (ltb b h.n) 4
    (need (ltb a b) 4
    (need (ltb last rank) 4
    (need (leb 1 w) 5
    (need (leb w h.wmax) 5 0))))))

unfoldable pub home_rule : Network → ℕ → ℕ → ℕ → ℕ → ℕ → ℕ
home_rule h v x y node topology =
    need (eqb x 0x48) 2
    (need (eqb y 0x4D) 2
    (need (eqb node v) 6
    (need (leb 1 topology) 6
    (need (leb topology h.k) 6 0))))

unfoldable pub row_rule : ℕ → ℕ → ℕ → ℕ → ℕ → ℕ
row_rule i x y topology rest = need (eqb x 0x42) 2 (need (eqb y 0x57) 2 (need (eqb topology i) 6 rest))

unfoldable pub weight_rule : ℕ → ℕ → ℕ → ℕ → ℕ → ℕ
weight_rule wmax i home_a home_b w = need (weight_fits (class_by (eqb home_a i) (eqb home_b i)) wmax w) 5 0
