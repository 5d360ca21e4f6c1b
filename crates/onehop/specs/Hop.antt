-- The forwarding rule of a file's set, with lent tables, under a failure: the published definitions at what the code holds.
use Rattle.std.specs.Prelude.{not, ◌||◌, List, ℕ, eqb, if◌then◌else◌}
use Rattle.rules.specs.declared.Packet.{Packet}
use Rattle.rules.specs.declared.Failure.{Failure}
use Rattle.rules.specs.declared.Kind.{Kind}
use Rattle.rules.specs.declared.Kind.TheVariants as change
use Rattle.rules.specs.declared.Step.{Step}
use Rattle.rules.specs.File.{Set, header_of, set_of}
use Rattle.rules.specs.Isolation.{home}
use Rattle.rules.specs.Forwarding.{Tables, lent_tables, step, change_number, lookup_number}
use Rattle.linkstate.specs.Links.{on}
use Rattle.onehop.specs.declared.Change.{Change}

abbrev pub tables_at : List ℕ → List ℕ → Tables
tables_at s tables = lent_tables (header_of s) tables

-- the kind of a change to v's home topology
unfoldable pub kind_by : ℕ → ℕ → Kind
kind_by t v = if eqb t v then change.S else change.T

-- v is the next hop in topology 0, and the hop to it is down; w is the next hop in v's home topology
unfoldable pub detour_by : Set → Tables → ℕ → ℕ → ℕ → ℕ → Change
detour_by S tables u t v w =
    if eqb w v
    then record { next = tables.alternate u v; topology = home S u; kind = change.D }
    else record { next = w; topology = home S v; kind = kind_by t v }

-- what node u does with a packet for t in topology 0 where the hop to v, its next hop, is down
unfoldable pub detour_of : Set → Tables → ℕ → ℕ → ℕ → Change
detour_of S tables u t v = detour_by S tables u t v (tables.next (home S v) u t)

-- what is looked up once v is the next hop
unfoldable pub onward_number : List ℕ → List ℕ → Failure → Packet → ℕ → ℕ
onward_number s tables f p v =
    if on s f p.place v || not (eqb p.topology 0)
    then 0
    else change_number (set_of s) (tables_at s tables) p v ((tables_at s tables).next (home (set_of s) v) p.place p.destination)

unfoldable pub step_at : List ℕ → List ℕ → Failure → Packet → Step
step_at s tables f p = step (set_of s) (tables_at s tables) (on s f) p

unfoldable pub lookup_at : List ℕ → List ℕ → Failure → Packet → ℕ
lookup_at s tables f p = lookup_number (set_of s) (tables_at s tables) (on s f) p
