-- An accepted set has at least as many links as nodes: each node has two links, and each link two ends. So a path of normal links weighs less than one
-- restricted link, which outweighs all links together.
use mathlib.Core.Path.{◌≡◌, refl, sym}
use mathlib.Core.Logic.{inl, inr}
use mathlib.Core.Bool.{Bool, true, false, ◌||◌}
use Prim.Native.Nat.{ℕ, zero, suc, ◌+◌, ◌-◌, ◌*◌, ◌≤◌, ◌<◌}
use native.Mathlib.Nat.{mul-le-mul, mul-le-mul_right}
use native.Mathlib.Omega.{arith}
use lib.Dec.{eqb}
use lib.ListN.{get_or}
use borrow.Author.Tests.{eqb-true, eq-eqb, ne_eqb}
use Rattle.rules.specs.declared.Network.{Network}
use Rattle.rules.specs.Basics.{count}
use Rattle.rules.specs.Limits.{restricted_weight}
use Rattle.rules.specs.File.{Set}
use Rattle.rules.specs.Isolation.{link_between}
use Rattle.rules.specs.Sets.{AcceptedSet}
use Rattle.rules.proofs.Ground.Choices.{or_left, or_right}
use Rattle.rules.proofs.Ground.Numbers.{bit, count_none, count_more, two_counted}
use Rattle.rules.proofs.Isolation.Links.{Ends, one_end, link_below, link_ends}
use Rattle.rules.proofs.Isolation.Homes.{outlets}

abbrev sum : (ℕ → ℕ) → ℕ → ℕ
sum f zero = 0
sum f (suc n) = f n + sum f n

sum_low : (f : ℕ → ℕ) (c n : ℕ) → ((x : ℕ) → x < n → c ≤ f x) → n * c ≤ sum f n
sum_low f c zero h = omega arith
sum_low f c (suc n) h = omega (arith, sum_low f c n (λ x l. h x (omega arith)), h n (omega arith))

sum_high : (f : ℕ → ℕ) (c n : ℕ) → ((x : ℕ) → x < n → f x ≤ c) → sum f n ≤ n * c
sum_high f c zero h = omega arith
sum_high f c (suc n) h = omega (arith, sum_high f c n (λ x l. h x (omega arith)), h n (omega arith))

sum_more : (p : ℕ → ℕ → Bool) (n m : ℕ) → sum (λ l. count (λ x. p x l) (suc n)) m ≡ count (p n) m + sum (λ l. count (λ x. p x l) n) m
sum_more p n zero = omega (arith, count_none (p n))
sum_more p n (suc m) = omega (arith, sum_more p n m, count_more (p n) m, count_more (λ x. p x m) n)

sum_none : (p : ℕ → ℕ → Bool) (m : ℕ) → sum (λ l. count (λ x. p x l) 0) m ≡ 0
sum_none p zero = refl
sum_none p (suc m) = omega (arith, sum_none p m, count_none (λ x. p x m))

-- counted by nodes or by links, the ends are the same
exchange : (p : ℕ → ℕ → Bool) (n m : ℕ) → sum (λ x. count (p x) m) n ≡ sum (λ l. count (λ x. p x l) n) m
exchange p zero m = sym (sum_none p m)
exchange p (suc n) m = omega (arith, exchange p n m, sum_more p n m)

double : (p : ℕ → ℕ → Bool) (n m : ℕ) → ((x : ℕ) → x < n → 2 ≤ count (p x) m) → ((l : ℕ) → l < m → count (λ x. p x l) n ≤ 2) → n ≤ m
double p n m low high =
    omega (arith, sum_low (λ x. count (p x) m) 2 n low, sum_high (λ l. count (λ x. p x l) n) 2 m high, exchange p n m)

-- of the numbers equal to a there is at most one
only_none : (a n : ℕ) → n ≤ a → count (λ x. eqb x a) n ≡ 0
only_none a zero h = count_none (λ x. eqb x a)
only_none a (suc n) h =
    let z : bit (eqb n a) ≡ 0 = rw (ne_eqb n a (omega arith)) in
    omega (arith, count_more (λ x. eqb x a) n, only_none a n (omega arith))

only : (a n : ℕ) → count (λ x. eqb x a) n ≤ 1
only a zero = omega (arith, count_none (λ x. eqb x a))
only a (suc n) = go (only a n) (eqb n a) refl
  where
    go : count (λ x. eqb x a) n ≤ 1 → (b : Bool) → eqb n a ≡ b → count (λ x. eqb x a) (suc n) ≤ 1
    go h true e =
        let z : bit (eqb n a) ≡ 1 = rw e in
        omega (arith, count_more (λ x. eqb x a) n, only_none a n (omega (arith, eqb-true n a e)))
    go h false e = let z : bit (eqb n a) ≡ 0 = rw e in omega (arith, count_more (λ x. eqb x a) n)

bit_or : (a b : Bool) → bit (a || b) ≤ bit a + bit b
bit_or true b = omega arith
bit_or false b = omega arith

count_or : (p q : ℕ → Bool) (n : ℕ) → count (λ x. p x || q x) n ≤ count p n + count q n
count_or p q zero = omega (arith, count_none (λ x. p x || q x))
count_or p q (suc n) = omega (arith, count_or p q n, bit_or (p n) (q n), count_more (λ x. p x || q x) n, count_more p n, count_more q n)

-- u is an end of link l
abbrev touches : Set → ℕ → ℕ → Bool
touches S u l = eqb u (get_or S.a l 0) || eqb u (get_or S.b l 0)

touch : (S : Set) (u w l : ℕ) → Ends S l u w → touches S u l ≡ true
touch S u w l (inl e) = or_left (eqb u (get_or S.a l 0)) (eqb u (get_or S.b l 0)) (eq-eqb u (get_or S.a l 0) (sym e.0))
touch S u w l (inr e) = or_right (eqb u (get_or S.a l 0)) (eqb u (get_or S.b l 0)) (eq-eqb u (get_or S.b l 0) (sym e.1))

-- a restricted link outweighs any path that passes each link once at most: all links together, each at wmax
pub restricted_outweighs : (h : Network) → 1 ≤ h.m → 1 ≤ h.wmax → h.m * h.wmax < restricted_weight h
unfolding restricted_weight
restricted_outweighs h m w =
    let some : 1 * 1 ≤ h.m * h.wmax = mul-le-mul {n₂ = h.m} {m₂ = h.wmax} m w in
    omega arith

module _ (S : Set) (A : AcceptedSet S) where
  two_ends : (u : ℕ) → u < S.net.n → 2 ≤ count (touches S u) S.net.m
  two_ends u lu =
      let q = outlets S A u lu in
      let x = q.0 in
      let y = q.1 in
      let ex = link_ends S u x q.3.joined in
      let ey = link_ends S u y q.4.joined in
      two_counted (touches S u) S.net.m (link_between S u x) (link_between S u y) (link_below S u x q.3.joined) (link_below S u y q.4.joined)
      (λ e. q.2 (one_end S (link_between S u x) u x y ex (rw e ey))) (touch S u x (link_between S u x) ex) (touch S u y (link_between S u y) ey)

  -- at least as many links as nodes
  pub links_enough : S.net.n ≤ S.net.m
  links_enough =
      double (touches S) S.net.n S.net.m two_ends
      (λ l h. omega (
        arith,
        count_or (λ x. eqb x (get_or S.a l 0)) (λ x. eqb x (get_or S.b l 0)) S.net.n,
        only (get_or S.a l 0) S.net.n,
        only (get_or S.b l 0) S.net.n,
      ))

  -- n - 1 normal links weigh less than one restricted link
  pub path_below_restricted : (S.net.n - 1) * S.net.wmax < restricted_weight S.net
  unfolding restricted_weight
  path_below_restricted =
      let few : S.net.n - 1 ≤ S.net.m = omega (arith, links_enough) in
      let some = mul-le-mul_right S.net.wmax A.rules.limits.links.0 in
      omega (arith, mul-le-mul_right S.net.wmax few, A.rules.limits.weights.0)
