-- Demand 3, of the entry `step`: what it accepts, and what it then answers.
use Rattle.std.specs.Prelude.{◌≡◌, Bool, true, false, ℕ, ◌≤◌, ◌<◌, length, Ok}
use Rattle.rules.specs.declared.Network.{Network}
use Rattle.rules.specs.declared.Packet.{Packet}
use Rattle.rules.specs.declared.Failure.{Failure}
use Rattle.rules.specs.declared.Failure.TheVariants.{Nothing, Link, Node}
use Rattle.rules.specs.Limits.{tables_length}
use Rattle.rules.specs.File.{Set}
use Rattle.rules.specs.Isolation.{neighbours, home}
use Rattle.rules.specs.Forwarding.{fault_of, up, Tables, lent_tables, step}
use Rattle.rules.specs.Entries.Entry.{NothingLent}
use Rattle.rules.specs.Entries.Step.{StepInput}
use Rattle.rules.specs.Answers.{StepAnswer}
use Rattle.rules.specs.Sets.{FileOf}

-- what is down is in its range
abbrev pub InRange : Network → Failure → Type 0
InRange h Nothing = Unit {0}
InRange h (Link l) = l < h.m
InRange h (Node v) = v < h.n

-- node u is not the failed node
abbrev pub Standing : ℕ → Failure → Type 0
Standing u Nothing = Unit {0}
Standing u (Link l) = Unit {0}
Standing u (Node v) = v ≡ u → ⊥

-- every table entry that the step looks up is a neighbour: the next hop v, unless the packet is at its destination; where the packet is in topology 0 and
-- v or the link to it is down, the next hop w in v's home topology; and where w is v again, the alternate for v
pub record LooksUpNeighbours (S : Set) (tables : Tables) (on : ℕ → ℕ → Bool) (p : Packet) (v w : ℕ) : Type 0 where
  pub next : (p.place ≡ p.destination → ⊥) → neighbours S p.place v ≡ true
  pub changed : (p.place ≡ p.destination → ⊥) → on p.place v ≡ false → p.topology ≡ 0 → neighbours S p.place w ≡ true
  pub around : (p.place ≡ p.destination → ⊥) → on p.place v ≡ false → p.topology ≡ 0 → w ≡ v
      → neighbours S p.place (tables.alternate p.place v) ≡ true

-- the same of the entries that the tables hold: v and w are those
abbrev pub LooksUp : Set → Tables → (ℕ → ℕ → Bool) → Packet → Type 0
LooksUp S tables on p =
    LooksUpNeighbours S tables on p (tables.next p.topology p.place p.destination)
    (tables.next (home S (tables.next p.topology p.place p.destination)) p.place p.destination)

-- step accepts exactly when the bytes are a set's, place and destination are nodes, the topology is one of the set's, the failure is in its range and not
-- the place, the lent tables are long enough, and every entry that it looks up in them is a neighbour
pub record StepMeets (S : Set) (i : StepInput) (d : NothingLent) : Type 0 where
  pub file : FileOf S i.file
  pub topologies : 1 ≤ S.net.k
  pub place : i.packet.place < S.net.n
  pub destination : i.packet.destination < S.net.n
  pub topology : i.packet.topology ≤ S.net.k
  pub failure : InRange S.net i.failure
  pub standing : Standing i.packet.place i.failure
  pub tables : tables_length S.net ≤ length i.tables
  pub looks_up : LooksUp S (lent_tables S.net i.tables) (up S (fault_of i.failure)) i.packet

-- and then it answers what the forwarding rule makes of the packet, by the lent tables as they are
pub record StepGives (S : Set) (i : StepInput) (before : NothingLent) (r : StepAnswer) (after : NothingLent) : Type 0 where
  pub answer : r ≡ Ok (step S (lent_tables S.net i.tables) (up S (fault_of i.failure)) i.packet)
