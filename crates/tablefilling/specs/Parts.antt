-- Lists of the right lengths.
use Rattle.std.specs.Prelude.{◌≡◌, ◌*◌, length}
use Rattle.rules.specs.declared.Network.{Network}
use Rattle.rules.specs.Limits.{row_weights}
use Rattle.rules.specs.Entries.Lists.{Lists}

-- lists that are exactly as long as a set's counts say
pub record Exact (h : Network) (d : Lists) : Type 0 where
  pub a : length d.a ≡ h.m
  pub b : length d.b ≡ h.m
  pub weights : length d.weights ≡ h.m
  pub homes : length d.homes ≡ h.n
  pub rows : length d.rows ≡ h.k * row_weights h
