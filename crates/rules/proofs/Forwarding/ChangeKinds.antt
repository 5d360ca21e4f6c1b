-- The kind of a change of topology, told by the destination and the homes: T exactly where the next hop that is down is not the destination; where it is,
-- S exactly where place and next hop share a home, and D where they do not.
use Rattle.std.specs.Prelude.{if◌then◌else◌}
use mathlib.Core.Path.{◌≡◌, refl, sym, ap, subst, ◌∙◌}
use mathlib.Core.Bool.{Bool, true, false}
use Prim.Native.Nat.{ℕ}
use native.Mathlib.Omega.{arith}
use lib.Dec.{eqb}
use borrow.Author.Tests.{eqb-true, eqb-false}
use Rattle.rules.specs.declared.Packet.{Packet}
use Rattle.rules.specs.declared.Kind.{Kind}
use Rattle.rules.specs.declared.Kind.TheVariants as change
use Rattle.rules.specs.declared.Step.{Step}
use Rattle.rules.specs.declared.Step.TheVariants.{Delivered, Moved, Dropped}
use Rattle.rules.specs.File.{Set}
use Rattle.rules.specs.Isolation.{home}
use Rattle.rules.specs.Distance.{next_hop}
use Rattle.rules.specs.Forwarding.{tables_of, step, letter}
use Rattle.rules.specs.Sets.{AcceptedSet}
use Rattle.rules.specs.Demands.Delivery.{KindIs}
use Rattle.rules.proofs.Forwarding.Routing.{usable_neighbours, last_hop, two_homes, straight}
use Rattle.rules.proofs.Forwarding.Steps.{Detects, View, there, plain, stuck, other, other_down, around, around_down, view}
use Rattle.rules.proofs.Forwarding.Runs.{Within, next_of}

module _ (S : Set) (p : Packet) (v : ℕ) (q : Packet) where
  is_t : (p.destination ≡ v → ⊥) → q.topology ≡ home S v → KindIs S p v q change.T
  is_t ne e =
      record {
        on_the_way = ((λ x. ne), (λ x. refl));
        same_home = ((λ x. let z : ◌≡◌ {A = ℕ} 0 1 = cc in absurd (omega arith)), (λ x. absurd (ne x.0)));
        two_homes = ((λ x. let z : ◌≡◌ {A = ℕ} 0 1 = cc in absurd (omega arith)), (λ x. absurd (ne x.0)));
        to_place = λ x. let z : ◌≡◌ {A = ℕ} 0 1 = cc in absurd (omega arith);
        to_next = λ x. e;
      }

  is_s : p.destination ≡ v → home S p.place ≡ home S v → q.topology ≡ home S v → KindIs S p v q change.S
  is_s d h e =
      record {
        on_the_way = ((λ x. let z : ◌≡◌ {A = ℕ} 0 1 = cc in absurd (omega arith)), (λ x. absurd (x d)));
        same_home = ((λ x. (d, h)), (λ x. refl));
        two_homes = ((λ x. let z : ◌≡◌ {A = ℕ} 0 1 = cc in absurd (omega arith)), (λ x. absurd (x.1 h)));
        to_place = λ x. let z : ◌≡◌ {A = ℕ} 0 1 = cc in absurd (omega arith);
        to_next = λ x. e;
      }

  is_d : p.destination ≡ v → (home S p.place ≡ home S v → ⊥) → q.topology ≡ home S p.place → KindIs S p v q change.D
  is_d d ne e =
      record {
        on_the_way = ((λ x. let z : ◌≡◌ {A = ℕ} 0 1 = cc in absurd (omega arith)), (λ x. absurd (x d)));
        same_home = ((λ x. let z : ◌≡◌ {A = ℕ} 0 1 = cc in absurd (omega arith)), (λ x. absurd (ne x.1)));
        two_homes = ((λ x. (d, ne)), (λ x. refl));
        to_place = λ x. e;
        to_next = λ x. absurd (x refl);
      }

-- a step that changes topology, with the kind of its change
abbrev Told : Set → Packet → Step → Type 0
Told S p (Delivered q) = Unit {0}
Told S p (Moved q kind) = (q.topology ≡ p.topology → ⊥) → KindIs S p (next_hop S p.topology p.place p.destination) q kind
Told S p (Dropped q) = Unit {0}

module _ (S : Set) (A : AcceptedSet S) (on : ℕ → ℕ → Bool) (p : Packet) (W : Within S p) where
  -- to a destination that is the next hop, v's home topology leads another way only where place and v share that home
  share : (v w : ℕ) → Detects S on p v → w ≡ next_hop S (home S v) p.place p.destination → (w ≡ v → ⊥) → p.destination ≡ v → home S p.place ≡ home S v
  share v w d e ne t = by (eqb (home S p.place) (home S v)) refl
    where
      by : (b : Bool) → eqb (home S p.place) (home S v) ≡ b → home S p.place ≡ home S v
      by true q = eqb-true (home S p.place) (home S v) q
      by false q =
          let n = next_of S A on p W v d.0 in
          let z = straight S A p.place v (usable_neighbours S p.topology p.place v n.over) W.node n.node (eqb-false (home S p.place) (home S v) q) in
          absurd (ne (e ∙ ap (next_hop S (home S v) p.place) t ∙ z))

  other_kind : (v w : ℕ) (q : Packet) → Detects S on p v → w ≡ next_hop S (home S v) p.place p.destination → (w ≡ v → ⊥) → q.topology ≡ home S v
      → (b : Bool) → eqb p.destination v ≡ b → KindIs S p v q (if b then change.S else change.T)
  other_kind v w q d e ne g true t = let x = eqb-true p.destination v t in is_s S p v q x (share v w d e ne x) g
  other_kind v w q d e ne g false t = is_t S p v q (eqb-false p.destination v t) g

  told : (s : Step) → View S on p s → Told S p s
  told s (there e) = tt
  told s (plain v e o) = λ x. absurd (x refl)
  told s (stuck v e o z) = tt
  told s (other v w d e ne o) = λ x. rw (← d.0.1) (other_kind v w _ d e ne refl (eqb p.destination v) refl)
  told s (other_down v w d e ne o) = tt
  told s (around v d e o) = λ x.
      let lv = (next_of S A on p W v d.0).node in
      rw (← d.0.1) (is_d S p v _ (sym (last_hop S A p.place p.destination W.node W.end d.0.0 v lv e))
      (two_homes S A p.place p.destination W.node W.end d.0.0 v lv e) refl)
  told s (around_down v d e o) = tt

  pub kinds : (q : Packet) (kind : Kind) → step S (tables_of S) on p ≡ Moved q kind → (q.topology ≡ p.topology → ⊥)
      → KindIs S p (next_hop S p.topology p.place p.destination) q kind
  kinds q kind e = subst (λ (s : Step). Told S p s) e (told (step S (tables_of S) on p) (view S on p))

-- ---- the letter of a kind, as a match on the kind gives it

pub letter_none : (k : Kind) → k ≡ change.Unchanged → 45 ≡ letter k
unfolding letter
letter_none k e = rw e

pub letter_t : (k : Kind) → k ≡ change.T → 84 ≡ letter k
unfolding letter
letter_t k e = rw e

pub letter_s : (k : Kind) → k ≡ change.S → 83 ≡ letter k
unfolding letter
letter_s k e = rw e

pub letter_d : (k : Kind) → k ≡ change.D → 68 ≡ letter k
unfolding letter
letter_d k e = rw e
