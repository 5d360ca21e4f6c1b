-- A run by lent tables, and what it answers and writes.
use Rattle.std.specs.Prelude.{◌≡◌, List, [], ◌∷◌, ℕ, ◌<◌, length}
use Rattle.rules.specs.declared.Packet.{Packet}
use Rattle.rules.specs.declared.Failure.{Failure}
use Rattle.rules.specs.declared.Journey.{Journey}
use Rattle.rules.specs.Basics.{laid}
use Rattle.rules.specs.File.{set_of}
use Rattle.rules.specs.Forwarding.{Run, hops, trail, run}
use Rattle.linkstate.specs.Links.{on}
use Rattle.onehop.specs.Hop.{tables_at}

unfoldable pub run_at : List ℕ → List ℕ → Failure → ℕ → Packet → Run
run_at s tables f most p = run (set_of s) (tables_at s tables) (on s f) most p

unfoldable pub journey_of : Run → Journey
journey_of r = record { outcome = r.outcome; hops = hops r; topology = r.topology; kind = r.kind }

-- the answer and the trail are those of the run
pub record RunsAs (s tables : List ℕ) (f : Failure) (start : Packet) (most : ℕ) (old : List ℕ) (r : Journey) (new : List ℕ) : Type 0 where
  pub answer : r ≡ journey_of (run_at s tables f most start)
  pub written : new ≡ laid (trail start.place (run_at s tables f most start)) old

-- a trail with room for so many hops, whose first node is the packet's place
pub record Begun (start : Packet) (most : ℕ) (t : List ℕ) : Type 0 where
  pub first : t ≡ laid (start.place ∷ []) t
  pub room : most < length t
