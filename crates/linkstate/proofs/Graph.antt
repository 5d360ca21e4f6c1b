-- The graph of a file's set, read off the bytes: which link joins two nodes, which hops are up.
use mathlib.Core.Path.{◌≡◌, refl, sym, ap, ap₂, subst, ◌∙◌}
use mathlib.Core.Bool.{Bool, true, false, not, ◌&&◌, ◌||◌}
use mathlib.Core.List.{List}
use Prim.Native.Nat.{ℕ, ◌+◌, ◌≤◌, ◌<◌}
use native.Mathlib.Omega.{arith}
use lib.Dec.{eqb, ltb}
use borrow.Author.Tests.{eq-eqb, ne_eqb, eqb-true, eqb-false, lt-ltb, le-ltb, ltb-false}
use Rattle.std.specs.Prelude.{◌⊎◌, if◌then◌else◌}
use Rattle.std.specs.Option.{is_some, unwrap_or}
use Rattle.std.specs.declared.option.Option.{Option}
use Rattle.std.specs.declared.option.Option.TheVariants.{Some, None}
use Rattle.std.proofs.Common.{inl, inr}
use Rattle.rules.specs.declared.Network.{Network}
use Rattle.rules.specs.declared.Failure.{Failure}
use Rattle.rules.specs.declared.Failure.TheVariants.{Nothing, Link, Node}
use Rattle.rules.specs.Basics.{lowest}
use Rattle.rules.specs.Verdict.{Accepted}
use Rattle.rules.specs.Judgement.{judge}
use Rattle.rules.specs.File.{header_of, set_of, end_a, end_b}
use Rattle.rules.specs.Isolation.{joins, link_between, neighbours}
use Rattle.rules.specs.Forwarding.{fault_of, up}
use Rattle.rules.proofs.Ground.Choices.{same_test}
use Rattle.rules.proofs.Ground.Numbers.{lowest_none, lowest_ext, lowest_is, lowest_one}
use Rattle.rules.proofs.Ground.Rows.{get_d_up_to}
use Rattle.rules.proofs.File.SetOfBytes.{net_held}
use Rattle.rules.proofs.File.Accepted.{judged}
use Rattle.rules.proofs.Isolation.Links.{Ends, joins_ends, ends_join, link_ends, link_is}
use Rattle.linkstate.specs.Links.{joins_at, on}

-- ---- links

module _ (s : List ℕ) where
  joins_is : (u w l : ℕ) → l < (header_of s).m → joins (set_of s) l u w ≡ joins_at s u w l
  unfolding joins joins_at set_of
  joins_is u w l h =
      ap₂ (λ (a b : ℕ). (eqb a u && eqb b w) || (eqb a w && eqb b u)) (get_d_up_to (end_a s) (header_of s).m l 0 h) (get_d_up_to (end_b s) (header_of s).m l 0 h)

  link_first : (u w : ℕ) → link_between (set_of s) u w ≡ lowest (joins_at s u w) (header_of s).m (header_of s).m
  unfolding link_between
  link_first u w =
      ap (λ (h : Network). lowest (λ l. joins (set_of s) l u w) h.m h.m) (net_held s)
      ∙ lowest_ext (λ l. joins (set_of s) l u w) (joins_at s u w) (header_of s).m (header_of s).m (joins_is u w)

  -- the search for the link: none before l joins u and w
  pub record Sought (u w m l : ℕ) : Type 0 where
    pub low : l ≤ m
    pub before : (x : ℕ) → x < l → joins_at s u w x ≡ false

  pub sought_none : (u w m : ℕ) → Sought u w m 0
  sought_none u w m = record { low = omega arith; before = λ x h. absurd (omega arith) }

  pub sought_more : (u w m l : ℕ) (t : Bool) → Sought u w m l → t ≡ joins_at s u w l → t ≡ false → l < m → Sought u w m (l + 1)
  sought_more u w m l t q e d h =
      record { low = omega arith; before = λ x g. go x (eqb x l) refl g }
    where
      go : (x : ℕ) (b : Bool) → eqb x l ≡ b → x < l + 1 → joins_at s u w x ≡ false
      go x true z g = rw (eqb-true x l z) (sym e ∙ d)
      go x false z g = let ne = eqb-false x l z in q.before x (omega arith)

  pub sought_found : (u w l : ℕ) (h : Network) (t : Bool) → h ≡ header_of s → Sought u w h.m l → l < h.m → t ≡ joins_at s u w l → t ≡ true
      → Some l ≡ (if ltb (link_between (set_of s) u w) h.m then Some (link_between (set_of s) u w) else None)
  sought_found u w l h t n q g e d =
      let r : l < (header_of s).m = subst (λ (k : Network). l < k.m) n g in
      let f : link_between (set_of s) u w ≡ l = link_first u w ∙ lowest_one (joins_at s u w) (header_of s).m (header_of s).m l r (sym e ∙ d) q.before in
      rw (f, lt-ltb l h.m g) refl

  pub sought_out : (u w l : ℕ) (h : Network) → h ≡ header_of s → Sought u w h.m l → h.m ≤ l → None ≡ (if ltb (link_between (set_of s) u w) h.m then Some (link_between (set_of s) u w) else None)
  sought_out u w l h n q g =
      let r : (header_of s).m ≤ l = subst (λ (k : Network). k.m ≤ l) n g in
      let f : link_between (set_of s) u w ≡ (header_of s).m = link_first u w ∙ lowest_none (joins_at s u w) (header_of s).m (header_of s).m (λ x y. q.before x (omega arith)) in
      let z : ltb (link_between (set_of s) u w) h.m ≡ false = rw (f, n) (le-ltb (header_of s).m (header_of s).m (omega arith)) in
      rw z refl

  near_is : (u w : ℕ) (h : Network) → h ≡ header_of s → ltb (link_between (set_of s) u w) h.m ≡ neighbours (set_of s) u w
  unfolding neighbours
  near_is u w h n = ap (λ (k : Network). ltb (link_between (set_of s) u w) k.m) (n ∙ sym (net_held s))

  pub near_some : (u w : ℕ) (h : Network) (o : Option ℕ) (t : Bool) → h ≡ header_of s → o ≡ (if ltb (link_between (set_of s) u w) h.m then Some (link_between (set_of s) u w) else None) → t ≡ is_some o
      → t ≡ neighbours (set_of s) u w
  near_some u w h o t n e d = d ∙ ap is_some e ∙ go (ltb (link_between (set_of s) u w) h.m) ∙ near_is u w h n
    where
      go : (b : Bool) → is_some (if b then Some (link_between (set_of s) u w) else None) ≡ b
      go true = refl
      go false = refl

  -- m where there is none
  no_link : (u w : ℕ) (h : Network) → h ≡ header_of s → ltb (link_between (set_of s) u w) h.m ≡ false → h.m ≡ link_between (set_of s) u w
  no_link u w h n e = go (lowest_is (joins_at s u w) (header_of s).m (header_of s).m)
    where
      go : (lowest (joins_at s u w) (header_of s).m (header_of s).m ≡ (header_of s).m) ⊎ ((lowest (joins_at s u w) (header_of s).m (header_of s).m < (header_of s).m) × (joins_at s u w (lowest (joins_at s u w) (header_of s).m (header_of s).m) ≡ true)) → h.m ≡ link_between (set_of s) u w
      go (inl q) = ap (λ (k : Network). k.m) n ∙ sym (link_first u w ∙ q)
      go (inr q) = let g = ltb-false (link_between (set_of s) u w) h.m e in absurd (omega (arith, q.0, link_first u w, g, ap (λ (k : Network). k.m) n))

  -- ---- what is up

  pub up_nothing : (f : Failure) (u w : ℕ) → f ≡ Nothing → true ≡ on s f u w
  unfolding up fault_of
  up_nothing f u w e = rw e

  -- a link of an accepted file joins u and w just where it is the one between them
  pub link_told : (u w l : ℕ) (h : Network) (t : Bool) → h ≡ header_of s → judge s ≡ Accepted → l < h.m → t ≡ joins_at s u w l → not t ≡ not (eqb (link_between (set_of s) u w) l)
  link_told u w l h t n a g e = ap not (e ∙ sym (joins_is u w l here) ∙ same_test (joins (set_of s) l u w) (eqb (link_between (set_of s) u w) l) it back)
    where
      here : l < (header_of s).m
      here = subst (λ (k : Network). l < k.m) n g

      inside : l < (set_of s).net.m
      inside = rw (net_held s) here

      it : joins (set_of s) l u w ≡ true → eqb (link_between (set_of s) u w) l ≡ true
      it q = eq-eqb (link_between (set_of s) u w) l (link_is (set_of s) (judged s a).rules l u w inside (joins_ends (set_of s) l u w q))

      back : eqb (link_between (set_of s) u w) l ≡ true → joins (set_of s) l u w ≡ true
      back q =
          let i : link_between (set_of s) u w ≡ l = eqb-true (link_between (set_of s) u w) l q in
          let near : neighbours (set_of s) u w ≡ true = sym (near_is u w h n) ∙ rw (i, lt-ltb l h.m g) refl in
          ends_join (set_of s) l u w (subst (λ (x : ℕ). Ends (set_of s) x u w) i (link_ends (set_of s) u w near))

  pub link_same : (u w l x : ℕ) (h : Network) (o : Option ℕ) → h ≡ header_of s → o ≡ (if ltb (link_between (set_of s) u w) h.m then Some (link_between (set_of s) u w) else None) → x ≡ unwrap_or o h.m
      → not (eqb x l) ≡ not (eqb (link_between (set_of s) u w) l)
  link_same u w l x h o n e d =
      ap (λ (y : ℕ). not (eqb y l)) (d ∙ ap (λ (y : Option ℕ). unwrap_or y h.m) e ∙ go (ltb (link_between (set_of s) u w) h.m) refl)
    where
      go : (b : Bool) → ltb (link_between (set_of s) u w) h.m ≡ b → unwrap_or (if b then Some (link_between (set_of s) u w) else None) h.m ≡ link_between (set_of s) u w
      go true q = refl
      go false q = no_link u w h n q

  pub up_link : (f : Failure) (u w l : ℕ) (t : Bool) → f ≡ Link l → t ≡ not (eqb (link_between (set_of s) u w) l) → t ≡ on s f u w
  unfolding up fault_of
  up_link f u w l t e d = rw e d

  pub up_node : (f : Failure) (u w v : ℕ) → f ≡ Node v → (v ≡ u → ⊥) → not (eqb v w) ≡ on s f u w
  unfolding up fault_of
  up_node f u w v e d = rw (e, ne_eqb v u d) refl

  pub up_node_first : (f : Failure) (u w v : ℕ) → f ≡ Node v → v ≡ u → not (eqb v u) ≡ on s f u w
  unfolding up fault_of
  up_node_first f u w v e d = rw (e, eq-eqb v u d) refl

pub ruleset graph = (sought_none, sought_more, sought_found, sought_out, near_some, up_nothing, link_told, link_same, up_link, up_node, up_node_first)
