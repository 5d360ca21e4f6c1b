-- What is reached inside a part of the graph: by walks, by the rounds of the definition, and that both are one.
use mathlib.Core.Path.{◌≡◌, refl, sym, ◌∙◌}
use mathlib.Core.Bool.{true, ◌&&◌, ◌||◌}
use mathlib.Core.List.{List}
use Prim.Native.Nat.{ℕ, zero, suc, ◌^◌, ◌<◌}
use native.Mathlib.Omega.{arith}
use lib.ListN.{get_or}
use borrow.Author.Tests.{eqb-true, eq-eqb}
use Rattle.rules.specs.Basics.{any}
use Rattle.rules.specs.Sets.{Walk, stay, go}
use Rattle.rules.proofs.Ground.Choices.{and_left, and_right, same_test}
use Rattle.rules.proofs.Isolation.Spreading.{Spreading, walked, reaches}
use Rattle.words.specs.Word.{has}
use Rattle.words.proofs.Members.{has_word, has_one, has_ext, has_bound, word_fits, only_fits}
use Rattle.topologyrules.specs.Topology.{normal, spread_word, rounds, reached_word}

pub record Reached (nb : List ℕ) (bb root w : ℕ) : Type 0 where
  pub fits : w < 2 ^ 32
  pub begun : has w root ≡ true
  pub sound : (x : ℕ) → has w x ≡ true → Walk (normal nb bb) root x
  pub closed : (y x : ℕ) → has w y ≡ true → normal nb bb y x ≡ true → has w x ≡ true

module _ (nb : List ℕ) (bb root : ℕ) where
  pub walk_in : (w x : ℕ) → Reached nb bb root w → Walk (normal nb bb) root x → has w x ≡ true
  walk_in w x r stay = r.begun
  walk_in w x r (go {w = y} s e) = r.closed y x (walk_in w y r s) e

  pub reached_one : (w v : ℕ) → Reached nb bb root w → Reached nb bb root v → w ≡ v
  reached_one w v r s =
      has_ext 32 w v r.fits s.fits
      (λ x l. same_test (has w x) (has v x) (λ e. walk_in v x s (r.sound x e)) (λ e. walk_in w x r (s.sound x e)))

  ends : (y x : ℕ) → normal nb bb y x ≡ true → has bb x ≡ true
  ends y x e = and_left (has bb x) (has (get_or nb y 0) x) (and_right (has bb y) (has bb x && has (get_or nb y 0) x) e)

  module _ (R : bb < 2 ^ 32) (inside : has bb root ≡ true) where
    pub walk_inside : (x : ℕ) → Walk (normal nb bb) root x → has bb x ≡ true
    walk_inside x stay = inside
    walk_inside x (go {w = y} s e) = ends y x e

    rounds_fit : (k : ℕ) → rounds nb bb root k < 2 ^ 32
    unfolding rounds spread_word
    rounds_fit zero = only_fits root (has_bound 32 bb root R inside)
    rounds_fit (suc k) = word_fits (λ x. has (rounds nb bb root k) x || any (λ y. has (rounds nb bb root k) y && normal nb bb y x) 32) 32 (omega arith)

    spreading : Spreading 32 root (normal nb bb) (λ k x. has (rounds nb bb root k) x)
    unfolding rounds spread_word
    spreading = record {
      low = has_bound 32 bb root R inside;
      below = λ y x e. has_bound 32 bb x R (ends y x e);
      begun = has_one root root ∙ eq-eqb root root refl;
      alone = λ x e. eqb-true x root (sym (has_one root x) ∙ e);
      next = λ k x. has_word (λ x. has (rounds nb bb root k) x || any (λ y. has (rounds nb bb root k) y && normal nb bb y x) 32) 32 x;
    }

    pub reached_is : Reached nb bb root (reached_word nb bb root)
    unfolding reached_word
    reached_is = record {
      fits = rounds_fit 32;
      begun = reaches spreading 32 root (omega arith) stay;
      sound = walked spreading 32;
      closed = λ y x p q. reaches spreading 32 x (omega arith) (go (walked spreading 32 y p) q);
    }
