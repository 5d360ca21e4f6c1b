-- One hop as the code takes it, test by test: each return is the published rule's.
use Rattle.std.specs.Prelude.{if◌then◌else◌}
use mathlib.Core.Path.{◌≡◌, refl, sym, ap, ap₂, ◌∙◌}
use mathlib.Core.Bool.{Bool, true, false, not, ◌||◌}
use mathlib.Core.List.{List}
use Prim.Native.Nat.{ℕ, ◌+◌}
use lib.Dec.{eqb}
use lib.ListN.{get_or}
use borrow.Author.Tests.{eq-eqb, ne_eqb}
use Rattle.rules.specs.declared.Network.{Network}
use Rattle.rules.specs.declared.Packet.{Packet}
use Rattle.rules.specs.declared.Failure.{Failure}
use Rattle.rules.specs.declared.Kind.{Kind}
use Rattle.rules.specs.declared.Kind.TheVariants as change
use Rattle.rules.specs.declared.Step.{Step}
use Rattle.rules.specs.declared.Step.TheVariants.{Delivered, Moved, Dropped}
use Rattle.rules.specs.Basics.{need}
use Rattle.rules.specs.File.{Set, header_of, set_of}
use Rattle.rules.specs.Isolation.{neighbours, home}
use Rattle.rules.specs.Forwarding.{Tables, entry_place, lent_tables, packet, move_or_drop, change_to, blocked, toward, step, alternate_number, change_number, toward_number, lookup_number}
use Rattle.rules.specs.declared.Rule.{Rule}
use Rattle.rules.specs.Verdict.{number_of}
use Rattle.rules.proofs.Ground.Choices.{if_yes, if_no}
use Rattle.rules.proofs.Ground.Ruling.{broken_first, broken_then}
use Rattle.linkstate.specs.Links.{on}
use Rattle.onehop.specs.Hop.{tables_at, kind_by, detour_by, detour_of, onward_number, step_at, lookup_at}
use Rattle.onehop.specs.declared.Change.{Change}

-- ---- the tables

pub entry_is : (tables : List ℕ) (h : Network) (i u t place x : ℕ) → place ≡ entry_place h i u t → x ≡ get_or tables place 0 → x ≡ get_or tables (entry_place h i u t) 0
entry_is tables h i u t place x e d = d ∙ ap (λ (k : ℕ). get_or tables k 0) e

module _ (s tables : List ℕ) (h : Network) (n : h ≡ header_of s) where
  pub next_is : (i j u t x : ℕ) → j ≡ i → x ≡ get_or tables (entry_place h j u t) 0 → x ≡ (tables_at s tables).next i u t
  unfolding lent_tables
  next_is i j u t x d e = e ∙ ap₂ (λ (k : Network) (a : ℕ). get_or tables (entry_place k a u t) 0) n d

  pub alternate_is : (k u v x : ℕ) → k ≡ h.k → x ≡ get_or tables (entry_place h (k + 1) u v) 0 → x ≡ (tables_at s tables).alternate u v
  unfolding lent_tables
  alternate_is k u v x d e = e ∙ ap (λ (a : ℕ). get_or tables (entry_place h (a + 1) u v) 0) d ∙ ap (λ (k : Network). get_or tables (entry_place k (k.k + 1) u v) 0) n

-- ---- the step

pub move_up : (up : ℕ → ℕ → Bool) (p : Packet) (w j : ℕ) (kind : Kind) (t : Bool) → t ≡ up p.place w → t ≡ true → Moved (packet w p.destination j) kind ≡ move_or_drop up p w j kind
unfolding move_or_drop
move_up up p w j kind t e d = sym (if_yes (up p.place w) _ _ (sym e ∙ d))

pub move_down : (up : ℕ → ℕ → Bool) (p : Packet) (w j : ℕ) (kind : Kind) (t : Bool) → t ≡ up p.place w → t ≡ false → Dropped p ≡ move_or_drop up p w j kind
unfolding move_or_drop
move_down up p w j kind t e d = sym (if_no (up p.place w) _ _ (sym e ∙ d))

pub kind_same : (t v : ℕ) → t ≡ v → change.S ≡ kind_by t v
unfolding kind_by
kind_same t v e = sym (if_yes (eqb t v) _ _ (eq-eqb t v e))

pub kind_other : (t v : ℕ) → (t ≡ v → ⊥) → change.T ≡ kind_by t v
unfolding kind_by
kind_other t v e = sym (if_no (eqb t v) _ _ (ne_eqb t v e))

abbrev detour : ℕ → ℕ → Kind → Change
detour x j kind = record { next = x; topology = j; kind = kind }

module _ (s tables : List ℕ) (u t v w there : ℕ) (d : there ≡ home (set_of s) v) (e : w ≡ (tables_at s tables).next there u t) where
  by_w : detour_by (set_of s) (tables_at s tables) u t v w ≡ detour_of (set_of s) (tables_at s tables) u t v
  unfolding detour_of
  by_w = ap (detour_by (set_of s) (tables_at s tables) u t v) (e ∙ ap (λ (k : ℕ). (tables_at s tables).next k u t) d)

  -- the next hop in v's home topology is v again: the alternate for v, in the node's own home topology
  pub detour_back : (x j : ℕ) → x ≡ (tables_at s tables).alternate u v → j ≡ home (set_of s) u → w ≡ v
      → record { next = x; topology = j; kind = change.D } ≡ detour_of (set_of s) (tables_at s tables) u t v
  unfolding detour_by
  detour_back x j a g q =
      ap₂ (λ (a b : ℕ). detour a b change.D) a g ∙ sym (if_yes (eqb w v) _ _ (eq-eqb w v q)) ∙ by_w

  pub detour_there : (kind : Kind) → kind ≡ kind_by t v → (w ≡ v → ⊥)
      → record { next = w; topology = there; kind = kind } ≡ detour_of (set_of s) (tables_at s tables) u t v
  unfolding detour_by
  detour_there kind k q = ap₂ (λ (a : ℕ) (b : Kind). detour w a b) d k ∙ sym (if_no (eqb w v) _ _ (ne_eqb w v q)) ∙ by_w

-- the change that the rule makes is along the detour
pub change_along : (S : Set) (tables : Tables) (on : ℕ → ℕ → Bool) (p : Packet) (v : ℕ) (d : Change) → d ≡ detour_of S tables p.place p.destination v
    → move_or_drop on p d.next d.topology d.kind ≡ change_to S tables on p v (tables.next (home S v) p.place p.destination)
unfolding detour_of detour_by change_to kind_by
change_along S tables on p v d e = ap (λ (x : Change). move_or_drop on p x.next x.topology x.kind) e ∙ go (eqb w v) refl
  where
    w : ℕ
    w = tables.next (home S v) p.place p.destination

    back : Change
    back = record { next = tables.alternate p.place v; topology = home S p.place; kind = change.D }

    there : Change
    there = record { next = w; topology = home S v; kind = if eqb p.destination v then change.S else change.T }

    go : (b : Bool) → eqb w v ≡ b
        → move_or_drop on p (if eqb w v then back else there).next (if eqb w v then back else there).topology (if eqb w v then back else there).kind
        ≡ (if eqb w v then move_or_drop on p back.next back.topology back.kind else move_or_drop on p there.next there.topology there.kind)
    go true q = ap (λ (x : Change). move_or_drop on p x.next x.topology x.kind) (if_yes (eqb w v) back there q) ∙ sym (if_yes (eqb w v) _ _ q)
    go false q = ap (λ (x : Change). move_or_drop on p x.next x.topology x.kind) (if_no (eqb w v) back there q) ∙ sym (if_no (eqb w v) _ _ q)

module _ (s tables : List ℕ) (f : Failure) (p : Packet) where
  pub blocked_first : (v : ℕ) (d : Change) (r : Step) → d ≡ detour_of (set_of s) (tables_at s tables) p.place p.destination v → p.topology ≡ 0
      → r ≡ move_or_drop (on s f) p d.next d.topology d.kind → r ≡ blocked (set_of s) (tables_at s tables) (on s f) p v
  unfolding blocked
  blocked_first v d r e z q = q ∙ change_along (set_of s) (tables_at s tables) (on s f) p v d e ∙ sym (if_yes (eqb p.topology 0) _ _ (eq-eqb p.topology 0 z))

  -- the same as one equation, along the detour itself
  pub blocked_along : (v : ℕ) → p.topology ≡ 0 → blocked (set_of s) (tables_at s tables) (on s f) p v
      ≡ move_or_drop (on s f) p (detour_of (set_of s) (tables_at s tables) p.place p.destination v).next (detour_of (set_of s) (tables_at s tables) p.place p.destination v).topology (detour_of (set_of s) (tables_at s tables) p.place p.destination v).kind
  blocked_along v z = sym (blocked_first v _ _ refl z refl)

  pub blocked_later : (v : ℕ) → (p.topology ≡ 0 → ⊥) → Dropped p ≡ blocked (set_of s) (tables_at s tables) (on s f) p v
  unfolding blocked
  blocked_later v e = sym (if_no (eqb p.topology 0) _ _ (ne_eqb p.topology 0 e))

  pub toward_up : (v : ℕ) (t : Bool) → t ≡ on s f p.place v → t ≡ true → Moved (packet v p.destination p.topology) change.Unchanged ≡ toward (set_of s) (tables_at s tables) (on s f) p v
  unfolding toward
  toward_up v t e d = sym (if_yes (on s f p.place v) _ _ (sym e ∙ d))

  pub toward_down : (v : ℕ) (t : Bool) (r : Step) → t ≡ on s f p.place v → t ≡ false → r ≡ blocked (set_of s) (tables_at s tables) (on s f) p v → r ≡ toward (set_of s) (tables_at s tables) (on s f) p v
  unfolding toward
  toward_down v t r e d q = q ∙ sym (if_no (on s f p.place v) _ _ (sym e ∙ d))

  pub step_there : p.place ≡ p.destination → Delivered p ≡ step_at s tables f p
  unfolding step_at step
  step_there e = sym (if_yes (eqb p.place p.destination) _ _ (eq-eqb p.place p.destination e))

  pub step_onward : (v : ℕ) (r : Step) → (p.place ≡ p.destination → ⊥) → v ≡ (tables_at s tables).next p.topology p.place p.destination
      → r ≡ toward (set_of s) (tables_at s tables) (on s f) p v → r ≡ step_at s tables f p
  unfolding step_at step
  step_onward v r e d q =
      q ∙ ap (toward (set_of s) (tables_at s tables) (on s f) p) d
      ∙ sym (if_no (eqb p.place p.destination) _ _ (ne_eqb p.place p.destination e))

-- a blocked packet: it changes out of topology 0, and out of no other
pub ruleset blocks = (blocked_along, blocked_later)

pub ruleset hop = (entry_is, next_is, alternate_is, move_up, move_down, kind_same, kind_other, detour_back, detour_there, blocked_first, blocked_later, toward_up, toward_down, step_there, step_onward)

-- ---- 15

-- the test b as a call gave it
module _ (s tables : List ℕ) (p : Packet) where
  pub alternate_back : (v w x r : ℕ) → w ≡ v → x ≡ (tables_at s tables).alternate p.place v → r ≡ need (neighbours (set_of s) p.place x) 15 0
      → r ≡ alternate_number (set_of s) (tables_at s tables) p v w
  unfolding alternate_number
  alternate_back v w x r e d q =
      q ∙ ap (λ (a : ℕ). need (neighbours (set_of s) p.place a) 15 0) d ∙ sym (if_yes (eqb w v) _ _ (eq-eqb w v e))

  pub alternate_there : (v w : ℕ) → (w ≡ v → ⊥) → 0 ≡ alternate_number (set_of s) (tables_at s tables) p v w
  unfolding alternate_number
  alternate_there v w e = sym (if_no (eqb w v) _ _ (ne_eqb w v e))

  pub change_first : (r : Rule) (v w : ℕ) → number_of r ≡ need (neighbours (set_of s) p.place w) 15 0 → number_of r ≡ change_number (set_of s) (tables_at s tables) p v w
  unfolding change_number
  change_first r v w e = broken_first r (neighbours (set_of s) p.place w) 15 (alternate_number (set_of s) (tables_at s tables) p v w) e

  pub change_then : (v w x : ℕ) → 0 ≡ need (neighbours (set_of s) p.place w) 15 0 → x ≡ alternate_number (set_of s) (tables_at s tables) p v w
      → x ≡ change_number (set_of s) (tables_at s tables) p v w
  unfolding change_number
  change_then v w x e d = broken_then (neighbours (set_of s) p.place w) 14 (alternate_number (set_of s) (tables_at s tables) p v w) x e d

pub ruleset changes = (change_first, change_then)

module _ (s tables : List ℕ) (f : Failure) (p : Packet) where
  pub onward_up : (v : ℕ) (t : Bool) → t ≡ on s f p.place v → t ≡ true → 0 ≡ onward_number s tables f p v
  unfolding onward_number
  onward_up v t e d = sym (if_yes (on s f p.place v || not (eqb p.topology 0)) _ _ (rw (sym e ∙ d)))

  pub onward_later : (v : ℕ) (t : Bool) → t ≡ on s f p.place v → t ≡ false → (p.topology ≡ 0 → ⊥) → 0 ≡ onward_number s tables f p v
  unfolding onward_number
  onward_later v t e d g = sym (if_yes (on s f p.place v || not (eqb p.topology 0)) _ _ (rw (sym e ∙ d, ne_eqb p.topology 0 g)))

  pub onward_first : (v w j r : ℕ) (t : Bool) → t ≡ on s f p.place v → t ≡ false → p.topology ≡ 0 → j ≡ home (set_of s) v → w ≡ (tables_at s tables).next j p.place p.destination
      → r ≡ change_number (set_of s) (tables_at s tables) p v w → r ≡ onward_number s tables f p v
  unfolding onward_number
  onward_first v w j r t e d z g x q =
      q ∙ ap (change_number (set_of s) (tables_at s tables) p v) (x ∙ ap (λ (k : ℕ). (tables_at s tables).next k p.place p.destination) g)
      ∙ sym (if_no (on s f p.place v || not (eqb p.topology 0)) _ _ (rw (sym e ∙ d, eq-eqb p.topology 0 z)))

  pub lookup_there : p.place ≡ p.destination → 0 ≡ lookup_at s tables f p
  unfolding lookup_at lookup_number
  lookup_there e = sym (if_yes (eqb p.place p.destination) _ _ (eq-eqb p.place p.destination e))

  module _ (v : ℕ) (e : p.place ≡ p.destination → ⊥) (d : v ≡ (tables_at s tables).next p.topology p.place p.destination) where
    looked : need (neighbours (set_of s) p.place v) 15 (onward_number s tables f p v) ≡ lookup_at s tables f p
    unfolding lookup_at lookup_number toward_number onward_number
    looked = ap (toward_number (set_of s) (tables_at s tables) (on s f) p) d ∙ sym (if_no (eqb p.place p.destination) _ _ (ne_eqb p.place p.destination e))

    pub lookup_first : (r : Rule) → number_of r ≡ need (neighbours (set_of s) p.place v) 15 0 → number_of r ≡ lookup_at s tables f p
    lookup_first r q = broken_first r (neighbours (set_of s) p.place v) 15 (onward_number s tables f p v) q ∙ looked

    pub lookup_then : (x : ℕ) → 0 ≡ need (neighbours (set_of s) p.place v) 15 0 → x ≡ onward_number s tables f p v → x ≡ lookup_at s tables f p
    lookup_then x q y = broken_then (neighbours (set_of s) p.place v) 14 (onward_number s tables f p v) x q y ∙ looked

pub ruleset looking = (lookup_there, lookup_first, lookup_then)

pub ruleset lookups = (alternate_back, alternate_there, onward_up, onward_later, onward_first)
