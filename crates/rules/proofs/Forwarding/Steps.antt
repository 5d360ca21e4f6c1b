-- A step by the tables of a set, taken apart by cases, each with its reasons.
use Rattle.std.specs.Prelude.{if◌then◌else◌}
use mathlib.Core.Path.{◌≡◌, refl, sym, ◌∙◌}
use mathlib.Core.Bool.{Bool, true, false}
use Prim.Native.Nat.{ℕ}
use lib.Dec.{eqb}
use borrow.Author.Tests.{eqb-true, eqb-false}
use Rattle.rules.specs.declared.Packet.{Packet}
use Rattle.rules.specs.declared.Kind.TheVariants as change
use Rattle.rules.specs.declared.Step.{Step}
use Rattle.rules.specs.declared.Step.TheVariants.{Delivered, Moved, Dropped}
use Rattle.rules.specs.File.{Set}
use Rattle.rules.specs.Isolation.{home}
use Rattle.rules.specs.Distance.{next_hop, alternate}
use Rattle.rules.specs.Forwarding.{tables_of, packet, move_or_drop, change_to, blocked, toward, step}

module _ (S : Set) (on : ℕ → ℕ → Bool) (p : Packet) where
  -- v is the next hop of a packet that is not there yet
  abbrev pub Onto : ℕ → Type 0
  Onto v = (p.place ≡ p.destination → ⊥) × (v ≡ next_hop S p.topology p.place p.destination)

  -- v is the next hop in topology 0, and v or the link to it is down
  abbrev pub Detects : ℕ → Type 0
  Detects v = Onto v × (on p.place v ≡ false) × (p.topology ≡ 0)

  pub data View : Step → Type 0 where
    there : p.place ≡ p.destination → View (Delivered p)
    plain : (v : ℕ) → Onto v → on p.place v ≡ true → View (Moved (packet v p.destination p.topology) change.Unchanged)
    stuck : (v : ℕ) → Onto v → on p.place v ≡ false → (p.topology ≡ 0 → ⊥) → View (Dropped p)
    -- the next hop in v's home topology is w, another one
    other : (v w : ℕ) → Detects v → w ≡ next_hop S (home S v) p.place p.destination → (w ≡ v → ⊥) → on p.place w ≡ true
        → View (Moved (packet w p.destination (home S v)) (if eqb p.destination v then change.S else change.T))
    other_down : (v w : ℕ) → Detects v → w ≡ next_hop S (home S v) p.place p.destination → (w ≡ v → ⊥) → on p.place w ≡ false → View (Dropped p)
    -- the next hop in v's home topology is v
    around : (v : ℕ) → Detects v → next_hop S (home S v) p.place p.destination ≡ v → on p.place (alternate S p.place v) ≡ true
        → View (Moved (packet (alternate S p.place v) p.destination (home S p.place)) change.D)
    around_down : (v : ℕ) → Detects v → next_hop S (home S v) p.place p.destination ≡ v → on p.place (alternate S p.place v) ≡ false → View (Dropped p)

  choose : (x y : Step) (b : Bool) → (b ≡ true → View x) → (b ≡ false → View y) → View (if b then x else y)
  choose x y true f g = f refl
  choose x y false f g = g refl

  changing : (v w : ℕ) → Detects v → w ≡ next_hop S (home S v) p.place p.destination → View (change_to S (tables_of S) on p v w)
  unfolding change_to move_or_drop tables_of
  changing v w d e =
      choose _ _ (eqb w v)
      (λ q. choose _ _ (on p.place (alternate S p.place v)) (λ o. around v d (sym e ∙ eqb-true w v q) o) (λ o. around_down v d (sym e ∙ eqb-true w v q) o))
      (λ q. choose _ _ (on p.place w) (λ o. other v w d e (eqb-false w v q) o) (λ o. other_down v w d e (eqb-false w v q) o))

  onto : (v : ℕ) → Onto v → View (toward S (tables_of S) on p v)
  unfolding toward blocked tables_of
  onto v e =
      choose _ _ (on p.place v) (λ o. plain v e o)
      (λ o. choose _ _ (eqb p.topology 0)
      (λ z. changing v (next_hop S (home S v) p.place p.destination) (e, o, eqb-true p.topology 0 z) refl)
      (λ z. stuck v e o (eqb-false p.topology 0 z)))

  pub view : View (step S (tables_of S) on p)
  unfolding step tables_of
  view =
      choose _ _ (eqb p.place p.destination) (λ e. there (eqb-true p.place p.destination e))
      (λ e. onto (next_hop S p.topology p.place p.destination) (eqb-false p.place p.destination e, refl))
