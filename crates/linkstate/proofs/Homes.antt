-- A node's home in a file's set, read off the bytes.
use mathlib.Core.Path.{◌≡◌, sym, ap, subst, ◌∙◌}
use mathlib.Core.List.{List}
use Prim.Native.Nat.{ℕ, ◌≤◌, ◌<◌}
use native.Mathlib.Omega.{arith}
use lib.ListN.{get_or-eq_default}
use Rattle.rules.specs.declared.Network.{Network}
use Rattle.rules.specs.Limits.{home_records}
use Rattle.rules.specs.File.{header_of, set_of, home_topology}
use Rattle.rules.specs.Isolation.{home}
use Rattle.rules.proofs.Ground.Rows.{length_up_to, get_d_up_to}

module _ (s : List ℕ) where
  pub home_is : (v at x c : ℕ) (h : Network) → h ≡ header_of s → at ≡ v → c ≡ home_records h → at < c → x ≡ home_topology s h at → x ≡ home (set_of s) v
  unfolding home set_of
  home_is v at x c h n a e g d =
      let r : v < home_records (header_of s) = subst (λ (k : Network). v < home_records k) n (rw (← e, ← a) g) in
      d ∙ ap (home_topology s h) a ∙ ap (λ (k : Network). home_topology s k v) n ∙ sym (get_d_up_to (home_topology s (header_of s)) (home_records (header_of s)) v 0 r)

  pub home_none : (v at c : ℕ) (h : Network) → h ≡ header_of s → at ≡ v → c ≡ home_records h → c ≤ at → 0 ≡ home (set_of s) v
  unfolding home set_of
  home_none v at c h n a e g =
      let r : home_records (header_of s) ≤ v = subst (λ (k : Network). home_records k ≤ v) n (rw (← e, ← a) g) in
      sym (get_or-eq_default (set_of s).homes 0 (omega (arith, length_up_to (home_topology s (header_of s)) (home_records (header_of s)))))

pub ruleset homes = (home_is, home_none)
