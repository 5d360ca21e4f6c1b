-- Demand 3, of the forwarding rule itself. "For every accepted set, any one failed link or node, any source and destination that are not the failed node:
-- delivered by the forwarding rule in at most 2n - 3 hops, at most one change of topology, crossing nothing failed."
use Rattle.std.specs.Prelude.{◌≡◌, ◌↔◌, Bool, true, false, List, [], ◌∷◌, ℕ, ◌≤◌, ◌<◌}
use Rattle.rules.specs.declared.Packet.{Packet}
use Rattle.rules.specs.declared.Step.TheVariants.{Moved}
use Rattle.rules.specs.declared.Kind.{Kind}
use Rattle.rules.specs.declared.Kind.TheVariants as change
use Rattle.rules.specs.declared.Outcome.TheVariants as ended
use Rattle.rules.specs.Limits.{most_hops}
use Rattle.rules.specs.File.{Set}
use Rattle.rules.specs.Isolation.{neighbours, home, usable}
use Rattle.rules.specs.Distance.{next_hop}
use Rattle.rules.specs.Forwarding.{Fault, nothing, link, nodes, failed, up, tables_of, packet, step, Run, hops, run, run_under}
use Rattle.rules.specs.Sets.{AcceptedSet}

-- nothing, one link, or nodes that share one home
abbrev pub Tolerated : Set → Fault → Type 0
Tolerated S nothing = Unit {0}
Tolerated S (link l) = Unit {0}
Tolerated S (nodes p) = (i : ℕ) × ((v : ℕ) → v < S.net.n → p v ≡ true → home S v ≡ i)

-- each hop of the trail u, l is one that R allows
abbrev pub EachHop : (ℕ → ℕ → Type 0) → ℕ → List ℕ → Type 0
EachHop R u [] = Unit {0}
EachHop R u (w ∷ l) = R u w × EachHop R w l

-- the last node of the trail u, l
abbrev pub last : ℕ → List ℕ → ℕ
last u [] = u
last u (w ∷ l) = last w l

-- what holds of a run whatever is down: it ends; at most 2n - 3 hops; one change of topology; each hop over a link of the graph that is up
pub record Bounded (S : Set) (on : ℕ → ℕ → Bool) (source : ℕ) (r : Run) : Type 0 where
  pub over : r.outcome ≡ ended.UnderWay → ⊥
  pub few : hops r ≤ most_hops S.net
  pub once : r.changes ≤ 1
  pub crossed : EachHop (λ u w. (neighbours S u w ≡ true) × (on u w ≡ true)) source r.visited
  pub ends : last source r.visited ≡ r.place

-- so is every run of an accepted set, whichever hops are up
abbrev pub AlwaysBounded : Type 0
AlwaysBounded =
    (S : Set) → AcceptedSet S → (on : ℕ → ℕ → Bool) (u t : ℕ) → u < S.net.n → t < S.net.n
    → Bounded S on u (run S (tables_of S) on (most_hops S.net) (packet u t 0))

-- a run that is delivered, within those bounds, and crosses nothing that is down
pub record DeliveredBy (S : Set) (f : Fault) (source destination : ℕ) (r : Run) : Type 0 where
  pub outcome : r.outcome ≡ ended.Delivered
  pub place : r.place ≡ destination
  pub bounded : Bounded S (up S f) source r

-- demand 3 of the forwarding rule itself
abbrev pub Delivery : Type 0
Delivery =
    (S : Set) → AcceptedSet S → (f : Fault) → Tolerated S f → (source destination : ℕ) → source < S.net.n → destination < S.net.n
    → failed f source ≡ false → failed f destination ≡ false → DeliveredBy S f source destination (run_under S f source destination)

-- "A packet for the failed node, from another source, ends dropped."
abbrev pub LostWithNode : Type 0
LostWithNode =
    (S : Set) → AcceptedSet S → (f : Fault) → Tolerated S f → (source destination : ℕ) → source < S.net.n → destination < S.net.n
    → failed f source ≡ false → failed f destination ≡ true → (run_under S f source destination).outcome ≡ ended.Dropped

-- the move of a step is over a link that is up, and usable in the topology that the packet is in then
abbrev pub MovesOnUsable : Type 0
MovesOnUsable =
    (S : Set) → AcceptedSet S → (on : ℕ → ℕ → Bool) (p q : Packet) (kind : Kind) → p.place < S.net.n → p.destination < S.net.n → p.topology ≤ S.net.k
    → step S (tables_of S) on p ≡ Moved q kind → (on p.place q.place ≡ true) × (usable S q.topology p.place q.place ≡ true)

-- a change of topology at next hop v: kind T exactly where v is not the destination; S exactly where it is and place and v share a home; D otherwise.
-- T and S change to v's home topology, D to that of the place
pub record KindIs (S : Set) (p : Packet) (v : ℕ) (q : Packet) (kind : Kind) : Type 0 where
  pub on_the_way : (kind ≡ change.T) ↔ (p.destination ≡ v → ⊥)
  pub same_home : (kind ≡ change.S) ↔ ((p.destination ≡ v) × (home S p.place ≡ home S v))
  pub two_homes : (kind ≡ change.D) ↔ ((p.destination ≡ v) × (home S p.place ≡ home S v → ⊥))
  pub to_place : kind ≡ change.D → q.topology ≡ home S p.place
  pub to_next : (kind ≡ change.D → ⊥) → q.topology ≡ home S v

-- so is every change of topology in an accepted set
abbrev pub KindsAre : Type 0
KindsAre =
    (S : Set) → AcceptedSet S → (on : ℕ → ℕ → Bool) (p q : Packet) (kind : Kind) → p.place < S.net.n → p.destination < S.net.n → p.topology ≤ S.net.k
    → step S (tables_of S) on p ≡ Moved q kind → (q.topology ≡ p.topology → ⊥) → KindIs S p (next_hop S p.topology p.place p.destination) q kind
