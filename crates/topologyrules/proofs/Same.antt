-- The words' rules are those of 01: for a set S and its neighbour words, topology i is judged alike.
use mathlib.Core.Path.{◌≡◌, refl, sym, ap, ap₂, ◌∙◌}
use mathlib.Core.Bool.{Bool, true, false, not, ◌&&◌, ◌||◌, and-false, and_self_left}
use mathlib.Core.List.{List}
use Prim.Native.Nat.{ℕ, ◌^◌, ◌≤◌, ◌<◌}
use native.Mathlib.Omega.{arith}
use lib.Bits.{and_le_r}
use lib.Count.{ones}
use lib.Dec.{eqb, ltb, leb}
use lib.ListN.{get_or}
use borrow.Author.Tests.{eqb-true, eqb-false, eq-eqb, ne_eqb, ltb-false, lt-ltb, not-true}
use Rattle.rules.specs.Basics.{need}
use Rattle.rules.specs.File.{Set}
use Rattle.rules.specs.Isolation.{neighbours, isolated, isolated_word, backbone, word, normal_hop, connected, restricted_links, two_links, topology_number}
use Rattle.rules.proofs.Ground.Choices.{and_of, and_left, and_right, clash, false_of, same_test}
use Rattle.rules.proofs.Ground.Numbers.{all_ext}
use Rattle.rules.proofs.Isolation.Homes.{backbone_node}
use Rattle.rules.proofs.Isolation.Walks.{walk_map}
use Rattle.rules.proofs.Isolation.Connected.{Joined, joined_from, connected_by_joined}
use Rattle.words.specs.Word.{has, both, minus, firsts, lowest_in}
use Rattle.words.proofs.Members.{has_none, has_both, has_minus, has_first, has_ext, has_word, word_fits, minus_fits, firsts_fits}
use Rattle.words.proofs.Tally.{ones_word, lowest_there}
use Rattle.topologyrules.specs.Topology.{backbone_word, normal, reached_word, connected_by, served_by, all_served, number_by}
use Rattle.topologyrules.proofs.Reached.{Reached, walk_in, walk_inside, reached_is}

-- the words hold each node's neighbours
pub record WordsOf (S : Set) (nb : List ℕ) : Type 0 where
  pub few : S.net.n ≤ 32
  pub each : (u w : ℕ) → u < 32 → has (get_or nb u 0) w ≡ neighbours S u w

pub both_low : (a b : ℕ) → b < 2 ^ 32 → both a b < 2 ^ 32
unfolding both
both_low a b h = let l = and_le_r a b in omega arith

and_fits : (p q : Bool) → (p && not (p && q)) ≡ (p && not q)
and_fits true q = refl
and_fits false q = refl

module _ (S : Set) (i : ℕ) (few : S.net.n ≤ 32) where
  pub has_isolated : (v : ℕ) → has (isolated_word S i) v ≡ (ltb v S.net.n && isolated S i v)
  unfolding isolated_word
  has_isolated v = has_word (isolated S i) S.net.n v

  pub isolated_fits : isolated_word S i < 2 ^ 32
  unfolding isolated_word
  isolated_fits = word_fits (isolated S i) S.net.n few

  -- the backbone word is the word of the backbone
  pub backbone_is : backbone_word S.net.n (isolated_word S i) ≡ word (backbone S i) S.net.n
  unfolding backbone_word backbone
  backbone_is =
      has_ext 32 (minus (firsts S.net.n) (isolated_word S i)) (word (backbone S i) S.net.n)
      (minus_fits (firsts S.net.n) (isolated_word S i) (firsts_fits S.net.n few)) (word_fits (backbone S i) S.net.n few)
      (λ v l. has_minus (firsts S.net.n) (isolated_word S i) v isolated_fits l
      ∙ ap₂ (λ (p q : Bool). p && not q) (has_first S.net.n v) (has_isolated v)
      ∙ sym (has_word (backbone S i) S.net.n v ∙ same (ltb v S.net.n) (isolated S i v)))
    where
      same : (p q : Bool) → (p && (p && not q)) ≡ (p && not (p && q))
      same true q = refl
      same false q = refl

  pub backbone_fits : backbone_word S.net.n (isolated_word S i) < 2 ^ 32
  backbone_fits = rw backbone_is (word_fits (backbone S i) S.net.n few)

  pub has_backbone : (v : ℕ) → has (backbone_word S.net.n (isolated_word S i)) v ≡ backbone S i v
  unfolding backbone
  has_backbone v = ap (λ (w : ℕ). has w v) backbone_is ∙ has_word (backbone S i) S.net.n v ∙ and_self_left (ltb v S.net.n) (not (isolated S i v))

module _ (S : Set) (i : ℕ) (nb : List ℕ) (W : WordsOf S nb) where
  normal_is : (y x : ℕ) → normal nb (backbone_word S.net.n (isolated_word S i)) y x ≡ normal_hop S i y x
  unfolding normal_hop
  normal_is y x = rw (has_backbone S i W.few y, has_backbone S i W.few x) (go (backbone S i y) refl)
    where
      turn : (p q : Bool) → (p && q) ≡ (q && (true && p))
      turn true true = refl
      turn true false = refl
      turn false true = refl
      turn false false = refl

      go : (t : Bool) → backbone S i y ≡ t → (backbone S i y && (backbone S i x && has (get_or nb y 0) x)) ≡ (neighbours S y x && (backbone S i y && backbone S i x))
      go true e =
          let few = W.few in
          let l = backbone_node S i y e in
          rw (e, W.each y x (omega arith)) (turn (backbone S i x) (neighbours S y x))
      go false e = rw e (sym (and-false (neighbours S y x)))

  -- ---- 7: both tests say that the backbone is joined

  abbrev bb : ℕ
  bb = backbone_word S.net.n (isolated_word S i)

  abbrev root : ℕ
  root = lowest_in bb

  in_bb : (v : ℕ) → has bb v ≡ backbone S i v
  in_bb v = has_backbone S i W.few v

  module _ (there : bb ≡ 0 → ⊥) where
    root_in : has bb root ≡ true
    root_in = (lowest_there bb root (backbone_fits S i W.few) there refl).1

    reached_all : Reached nb bb root (reached_word nb bb root)
    reached_all = reached_is nb bb root (backbone_fits S i W.few) root_in

  pub connected_same : connected_by nb (backbone_word S.net.n (isolated_word S i)) ≡ connected S i
  unfolding connected_by
  connected_same = connected_by_joined S i (not (eqb bb 0) && eqb (reached_word nb bb root) bb) down up
    where
      down : (not (eqb bb 0) && eqb (reached_word nb bb root) bb) ≡ true → Joined S i
      down e =
          let there : bb ≡ 0 → ⊥ = eqb-false bb 0 (not-true (eqb bb 0) (and_left (not (eqb bb 0)) (eqb (reached_word nb bb root) bb) e)) in
          let whole : reached_word nb bb root ≡ bb = eqb-true (reached_word nb bb root) bb (and_right (not (eqb bb 0)) (eqb (reached_word nb bb root) bb) e) in
          joined_from S i root (sym (in_bb root) ∙ root_in there)
          (λ v b. walk_map (normal nb bb) (normal_hop S i) (λ y x h. sym (normal_is y x) ∙ h) root v ((reached_all there).sound v (ap (λ (w : ℕ). has w v) whole ∙ in_bb v ∙ b)))

      up : Joined S i → (not (eqb bb 0) && eqb (reached_word nb bb root) bb) ≡ true
      up J =
          and_of (not (eqb bb 0)) (eqb (reached_word nb bb root) bb) (ap not (ne_eqb bb 0 there))
          (eq-eqb (reached_word nb bb root) bb
          (has_ext 32 (reached_word nb bb root) bb (reached_all there).fits (backbone_fits S i W.few)
          (λ v l. same_test (has (reached_word nb bb root) v) (has bb v)
          (λ e. walk_inside nb bb root (backbone_fits S i W.few) (root_in there) v ((reached_all there).sound v e)) (met v))))
        where
          there : bb ≡ 0 → ⊥
          there z = clash (has bb J.some.0) (in_bb J.some.0 ∙ J.some.1) (ap (λ (w : ℕ). has w J.some.0) z ∙ has_none J.some.0)

          met : (v : ℕ) → has bb v ≡ true → has (reached_word nb bb root) v ≡ true
          met v e =
              walk_in nb bb root (reached_word nb bb root) v (reached_all there)
              (walk_map (normal_hop S i) (normal nb bb) (λ y x h. normal_is y x ∙ h) root v (J.joined root v (sym (in_bb root) ∙ root_in there) (sym (in_bb v) ∙ e)))

  -- ---- 8
  links_same : (v : ℕ) → v < S.net.n → ones (both (get_or nb v 0) bb) ≡ restricted_links S i v
  unfolding restricted_links
  links_same v l = ap ones masked ∙ ones_word (λ w. neighbours S v w && backbone S i w) S.net.n
    where
      keep : (w : ℕ) (t : Bool) → ltb w S.net.n ≡ t → (neighbours S v w && backbone S i w) ≡ (ltb w S.net.n && (neighbours S v w && backbone S i w))
      keep w true e = rw e
      keep w false e =
          rw (e, false_of (backbone S i w) (λ b. let h = backbone_node S i w b in let g = ltb-false w S.net.n e in omega arith)) (and-false (neighbours S v w))

      masked : both (get_or nb v 0) bb ≡ word (λ w. neighbours S v w && backbone S i w) S.net.n
      masked =
          let few = W.few in
          has_ext 32 (both (get_or nb v 0) bb) (word (λ w. neighbours S v w && backbone S i w) S.net.n) (both_low (get_or nb v 0) bb (backbone_fits S i W.few))
          (word_fits (λ w. neighbours S v w && backbone S i w) S.net.n W.few)
          (λ w lw. has_both (get_or nb v 0) bb w ∙ ap₂ (λ (p q : Bool). p && q) (W.each v w (omega arith)) (has_backbone S i W.few w)
          ∙ keep w (ltb w S.net.n) refl ∙ sym (has_word (λ w. neighbours S v w && backbone S i w) S.net.n w))

  pub served_same : all_served nb (isolated_word S i) (backbone_word S.net.n (isolated_word S i)) S.net.n ≡ two_links S i
  unfolding all_served served_by two_links
  served_same =
      all_ext (served_by nb (isolated_word S i) (backbone_word S.net.n (isolated_word S i))) (λ v. not (isolated S i v) || leb 2 (restricted_links S i v)) S.net.n
      (λ v l. ap₂ (λ (p : Bool) (c : ℕ). not p || leb 2 c) (has_isolated S i W.few v ∙ ap (λ (t : Bool). t && isolated S i v) (lt-ltb v S.net.n l)) (links_same v l))

  -- the number that the words give is 01's
  pub number_same : number_by nb S.net.n (isolated_word S i) ≡ topology_number S i
  unfolding number_by topology_number
  number_same = ap₂ (λ (p q : Bool). need p 7 (need q 8 0)) connected_same served_same
