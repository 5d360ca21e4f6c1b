-- The backbone rule: `connected` is that some node is in the backbone, and between any two of its nodes there is a walk of normal links.
use mathlib.Core.Path.{◌≡◌, refl, sym, ap, ◌∙◌}
use mathlib.Core.Bool.{Bool, true, false, not, ◌&&◌, ◌||◌, or_comm}
use mathlib.Core.Logic.{◌↔◌}
use Prim.Native.Nat.{ℕ}
use native.Mathlib.Omega.{arith}
use lib.Dec.{eqb, ltb}
use lib.ListN.{get_or, get_or-eq_default}
use borrow.Author.Tests.{ltb-true, ltb-false, lt-ltb, eqb-true, eq-eqb}
use Rattle.rules.specs.Basics.{all, any, lowest, up_to}
use Rattle.rules.specs.File.{Set}
use Rattle.rules.specs.Isolation.{joins, link_between, neighbours, backbone, normal_hop, spread, reached, connected}
use Rattle.rules.specs.Sets.{Walk}
use Rattle.rules.proofs.Ground.Choices.{and_of, and_left, and_right, or_left, or_right, same_test}
use Rattle.rules.proofs.Ground.Numbers.{all_at, all_of, any_at, any_of, lowest_ext, lowest_found}
use Rattle.rules.proofs.Ground.Rows.{length_up_to, get_d_up_to}
use Rattle.rules.proofs.Isolation.Homes.{backbone_node}
use Rattle.rules.proofs.Isolation.Walks.{join, turn}
use Rattle.rules.proofs.Isolation.Spreading.{Spreading, walked, reaches}

-- the backbone rule as a proposition
pub record Joined (S : Set) (i : ℕ) : Type 0 where
  pub some : (v : ℕ) × (backbone S i v ≡ true)
  pub joined : (u w : ℕ) → backbone S i u ≡ true → backbone S i w ≡ true → Walk (normal_hop S i) u w

-- ---- links go both ways

pub neighbours_back : (S : Set) (u w : ℕ) → neighbours S u w ≡ neighbours S w u
unfolding neighbours link_between joins
neighbours_back S u w =
    ap (λ (l : ℕ). ltb l S.net.m)
    (lowest_ext (λ l. joins S l u w) (λ l. joins S l w u) S.net.m S.net.m
    (λ l h. or_comm (eqb (get_or S.a l 0) u && eqb (get_or S.b l 0) w) (eqb (get_or S.a l 0) w && eqb (get_or S.b l 0) u)))

-- ---- the hops of the backbone

module _ (S : Set) (i : ℕ) where
  pub hop_of : (u w : ℕ) → neighbours S u w ≡ true → backbone S i u ≡ true → backbone S i w ≡ true → normal_hop S i u w ≡ true
  unfolding normal_hop
  hop_of u w e p q = and_of (neighbours S u w) (backbone S i u && backbone S i w) e (and_of (backbone S i u) (backbone S i w) p q)

  pub hop_link : (u w : ℕ) → normal_hop S i u w ≡ true → neighbours S u w ≡ true
  unfolding normal_hop
  hop_link u w e = and_left (neighbours S u w) (backbone S i u && backbone S i w) e

  pub hop_from : (u w : ℕ) → normal_hop S i u w ≡ true → backbone S i u ≡ true
  unfolding normal_hop
  hop_from u w e = and_left (backbone S i u) (backbone S i w) (and_right (neighbours S u w) (backbone S i u && backbone S i w) e)

  pub hop_to : (u w : ℕ) → normal_hop S i u w ≡ true → backbone S i w ≡ true
  unfolding normal_hop
  hop_to u w e = and_right (backbone S i u) (backbone S i w) (and_right (neighbours S u w) (backbone S i u && backbone S i w) e)

  pub hop_back : (u w : ℕ) → normal_hop S i u w ≡ true → normal_hop S i w u ≡ true
  hop_back u w e = hop_of w u (neighbours_back S w u ∙ hop_link u w e) (hop_to u w e) (hop_from u w e)

-- ---- the nodes reached in h rounds

-- an entry of a list of tests, past its end too
test_at : (f : ℕ → Bool) (n v : ℕ) → get_or (up_to f n) v false ≡ (ltb v n && f v)
test_at f n v = pick (ltb v n) refl
  where
    pick : (t : Bool) → ltb v n ≡ t → get_or (up_to f n) v false ≡ (ltb v n && f v)
    pick true e = rw e (get_d_up_to f n v false (ltb-true v n e))
    pick false e = let l = ltb-false v n e in rw e (get_or-eq_default (up_to f n) false (let q = length_up_to f n in omega arith))

module _ (S : Set) (i : ℕ) where
  abbrev root : ℕ
  root = lowest (backbone S i) S.net.n S.net.n

  -- v is reached in h rounds
  abbrev In : ℕ → ℕ → Bool
  In h v = get_or (reached S i h) v false

  spreading : backbone S i root ≡ true → Spreading S.net.n root (normal_hop S i) In
  unfolding reached spread
  spreading inside =
      let low = backbone_node S i root inside in
      let first = test_at (λ u. eqb u root) S.net.n in
      record {
        low = low;
        below = λ u v e. backbone_node S i v (hop_to S i u v e);
        begun = first root ∙ and_of (ltb root S.net.n) (eqb root root) (lt-ltb root S.net.n low) (eq-eqb root root refl);
        alone = λ v e. eqb-true v root (and_right (ltb v S.net.n) (eqb v root) (sym (first v) ∙ e));
        next = λ h v. test_at (λ w. In h w || any (λ u. In h u && normal_hop S i u w) S.net.n) S.net.n v;
      }

  -- ---- the test and the proposition

  root_in : (v : ℕ) → backbone S i v ≡ true → backbone S i root ≡ true
  root_in v e = (lowest_found (backbone S i) S.net.n S.net.n v (backbone_node S i v e) e).1

  kept : ℕ → Bool
  kept v = not (backbone S i v) || In S.net.n v

  -- walks from one node of the backbone to all of it are enough
  pub joined_from : (u : ℕ) → backbone S i u ≡ true → ((v : ℕ) → backbone S i v ≡ true → Walk (normal_hop S i) u v) → Joined S i
  joined_from u b from =
      record {
        some = (u, b);
        joined = λ v w p q. join (normal_hop S i) v u w (turn (normal_hop S i) (hop_back S i) u v (from v p)) (from w q);
      }

  pub connected_joined : connected S i ≡ true → Joined S i
  unfolding connected kept
  connected_joined e =
      let s = any_at (backbone S i) S.net.n (and_left (any (backbone S i) S.net.n) (all kept S.net.n) e) in
      joined_from root (root_in s.0 s.2) from
    where
      from : (v : ℕ) → backbone S i v ≡ true → Walk (normal_hop S i) root v
      from v p =
          let k = all_at kept S.net.n (and_right (any (backbone S i) S.net.n) (all kept S.net.n) e) v (backbone_node S i v p) in
          walked (spreading (root_in v p)) S.net.n v (rw p at k)

  pub joined_connected : Joined S i → connected S i ≡ true
  unfolding connected kept
  joined_connected J =
      let s = J.some in
      and_of (any (backbone S i) S.net.n) (all kept S.net.n)
      (any_of (backbone S i) S.net.n s.0 (backbone_node S i s.0 s.1) s.1)
      (all_of kept S.net.n (λ v l. pick v (backbone S i v) refl))
    where
      pick : (v : ℕ) (t : Bool) → backbone S i v ≡ t → (not (backbone S i v) || In S.net.n v) ≡ true
      pick v true p =
          let r = root_in J.some.0 J.some.1 in
          or_right (not (backbone S i v)) (In S.net.n v) (reaches (spreading r) S.net.n v (omega arith) (J.joined root v r p))
      pick v false p = or_left (not (backbone S i v)) (In S.net.n v) (ap not p)

  pub connected_exactly : (connected S i ≡ true) ↔ Joined S i
  connected_exactly = (connected_joined, joined_connected)

  -- a test of a program's own that decides the same is `connected`
  pub connected_by_joined : (t : Bool) → (t ≡ true → Joined S i) → (Joined S i → t ≡ true) → t ≡ connected S i
  connected_by_joined t yes_joined joined_yes = same_test t (connected S i) (λ e. joined_connected (yes_joined e)) (λ e. joined_yes (connected_joined e))
