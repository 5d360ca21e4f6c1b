-- What forwarding needs of the next hops and alternates of an accepted set.
use mathlib.Core.Path.{◌≡◌, refl, sym, ap, ◌∙◌}
use mathlib.Core.Bool.{Bool, true, false}
use Prim.Native.Nat.{ℕ, ◌≤◌, ◌<◌}
use native.Mathlib.Omega.{arith}
use lib.Dec.{eqb}
use borrow.Author.Tests.{eqb-true, eqb-false}
use Rattle.rules.specs.File.{Set}
use Rattle.rules.specs.Isolation.{neighbours, home, usable}
use Rattle.rules.specs.Distance.{distance, next_hop, alternate}
use Rattle.rules.specs.Sets.{AcceptedSet}
use Rattle.rules.proofs.Isolation.Links.{hop_neighbours, hop_isolated, hop_out, hop_into, usable_hop, hop_usable}
use Rattle.rules.proofs.Isolation.Homes.{home_isolated, away, home_low, home_high, at_home}
use Rattle.rules.proofs.Distance.Reach.{some_weight, distance_self, distance_over}
use Rattle.rules.proofs.Distance.Transit.{over_backbone, from_isolated, to_isolated, transit}
use Rattle.rules.proofs.Distance.NextHops.{next, candidate_outlet, nearest_alternates}

-- a node over a usable link, nearer to t
pub record Nearer (S : Set) (i u t v : ℕ) : Type 0 where
  pub node : v < S.net.n
  pub over : usable S i u v ≡ true
  pub near : distance S i v t < distance S i u t

pub usable_neighbours : (S : Set) (i u w : ℕ) → usable S i u w ≡ true → neighbours S u w ≡ true
usable_neighbours S i u w e = hop_neighbours S i u w (usable_hop S i u w e)

module _ (S : Set) (A : AcceptedSet S) (u t : ℕ) (lu : u < S.net.n) (lt : t < S.net.n) (ne : u ≡ t → ⊥) where
  pub next_nearer : (i : ℕ) → i ≤ S.net.k → Nearer S i u t (next_hop S i u t)
  next_nearer i hi =
      let q = next S A i u t hi lu lt ne in
      record { node = q.node; over = q.over; near = omega (arith, q.sum, usable_hop S i u (next_hop S i u t) q.over) }

  -- a next hop that is isolated is the destination
  pub isolated_last : (i : ℕ) → 1 ≤ i → i ≤ S.net.k → home S (next_hop S i u t) ≡ i → next_hop S i u t ≡ t
  isolated_last i lo hi e = by (eqb (next_hop S i u t) t) refl
    where
      by : (b : Bool) → eqb (next_hop S i u t) t ≡ b → next_hop S i u t ≡ t
      by true q = eqb-true (next_hop S i u t) t q
      by false q =
          let x = next S A i u t hi lu lt ne in
          let z = transit S A i lo hi u (next_hop S i u t) t lt x.over (home_isolated S i (next_hop S i u t) lo e) (eqb-false (next_hop S i u t) t q) in
          absurd (omega (arith, x.sum))

  module _ (v : ℕ) (lv : v < S.net.n) where
    -- where v's home topology hands back v, v is the destination, and u has another home
    pub last_hop : next_hop S (home S v) u t ≡ v → v ≡ t
    last_hop d = sym d ∙ isolated_last (home S v) (home_low S A v lv) (home_high S A v lv) (ap (home S) d)

    pub two_homes : next_hop S (home S v) u t ≡ v → home S u ≡ home S v → ⊥
    two_homes d e =
        let g = rw d at (next_nearer (home S v) (home_high S A v lv)).over in
        hop_isolated S (home S v) u v (home_isolated S (home S v) u (home_low S A v lv) e) (at_home S A v lv) (usable_hop S (home S v) u v g)

-- to a neighbour v with another home, v's home topology leads straight
pub straight : (S : Set) → AcceptedSet S → (u v : ℕ) → neighbours S u v ≡ true → u < S.net.n → v < S.net.n → (home S u ≡ home S v → ⊥) → next_hop S (home S v) u v ≡ v
straight S A u v e lu lv ne = by (eqb (next_hop S (home S v) u v) v) refl
  where
    i : ℕ
    i = home S v

    lo : 1 ≤ i
    lo = home_low S A v lv

    hi : i ≤ S.net.k
    hi = home_high S A v lv

    by : (b : Bool) → eqb (next_hop S i u v) v ≡ b → next_hop S i u v ≡ v
    by true q = eqb-true (next_hop S i u v) v q
    by false q =
        let x = next S A i u v hi lu lv (λ z. ne (ap (home S) z)) in
        let r = hop_into S i u v e (away S i u ne) (at_home S A v lv) in
        absurd (omega (
          arith,
          x.sum,
          usable_hop S i u (next_hop S i u v) x.over,
          to_isolated S A i lo hi (next_hop S i u v) v x.node lv (at_home S A v lv) (eqb-false (next_hop S i u v) v q),
          distance_over S A i v hi lv u v (hop_usable S i u v (omega (arith, r, some_weight S A))),
          distance_self S A i v hi lv,
          r,
        ))

-- the alternate at u for a neighbour v with another home
module _ (S : Set) (A : AcceptedSet S) (u v : ℕ) (lu : u < S.net.n) (lv : v < S.net.n) (e : neighbours S u v ≡ true) (ne : home S u ≡ home S v → ⊥) where
  pub alternate_other : alternate S u v ≡ v → ⊥
  alternate_other = (candidate_outlet S A u lu v (alternate S u v) (nearest_alternates S A u v lu lv e ne).chosen).1

  pub alternate_nearer : Nearer S (home S u) u v (alternate S u v)
  alternate_nearer =
      let i = home S u in
      let lo = home_low S A u lu in
      let hi = home_high S A u lu in
      let w = alternate S u v in
      let o = (candidate_outlet S A u lu v w (nearest_alternates S A u v lu lv e ne).chosen).0 in
      let r = hop_out S i u w o.joined (at_home S A u lu) o.free in
      record {
        node = o.node;
        over = hop_usable S i u w (omega (arith, r, some_weight S A));
        near = omega (
          arith,
          over_backbone S A i lo hi w v v o.node lv lv o.free (away S i v (λ z. ne (sym z))),
          distance_self S A i v hi lv,
          from_isolated S A i lo hi u v lu lv (at_home S A u lu) (λ z. ne (ap (home S) z)),
        );
      }
