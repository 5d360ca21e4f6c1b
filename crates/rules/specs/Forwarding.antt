-- 01, 'Forwarding'.
use Rattle.std.specs.Prelude.{Bool, true, false, not, ◌||◌, List, [], ◌∷◌, ℕ, zero, suc, ◌+◌, ◌*◌, eqb, length, get_or, if◌then◌else◌}
use Rattle.rules.specs.declared.Network.{Network}
use Rattle.rules.specs.declared.Packet.{Packet}
use Rattle.rules.specs.declared.Failure.{Failure}
use Rattle.rules.specs.declared.Failure.TheVariants.{Nothing, Link, Node}
use Rattle.rules.specs.declared.Kind.{Kind}
use Rattle.rules.specs.declared.Kind.TheVariants as change
use Rattle.rules.specs.declared.Step.{Step}
use Rattle.rules.specs.declared.Step.TheVariants.{Delivered, Moved, Dropped}
use Rattle.rules.specs.declared.Outcome.{Outcome}
use Rattle.rules.specs.declared.Outcome.TheVariants as ended
use Rattle.rules.specs.Basics.{need}
use Rattle.rules.specs.Limits.{most_hops}
use Rattle.rules.specs.File.{Set}
use Rattle.rules.specs.Isolation.{home, neighbours, link_between}
use Rattle.rules.specs.Distance.{next_hop, alternate}

-- ---- what is down

-- nothing; one link by its number; or nodes, each with all its links. One failed node is the case of a single node; more than one that share a home
-- are as harmless, and the demands say so
pub data Fault : Type 0 where
  nothing : Fault
  link : ℕ → Fault
  nodes : (ℕ → Bool) → Fault

-- "A failure is none, one link by its number in the file, or one node with all its links."
unfoldable pub fault_of : Failure → Fault
fault_of Nothing = nothing
fault_of (Link l) = link l
fault_of (Node v) = nodes (eqb v)

-- node v is down
unfoldable pub failed : Fault → ℕ → Bool
failed nothing v = false
failed (link l) v = false
failed (nodes p) v = p v

-- the hop from u to v is up: both nodes are, and the link between them
unfoldable pub up : Set → Fault → ℕ → ℕ → Bool
up S nothing u v = true
up S (link l) u v = not (eqb (link_between S u v) l)
up S (nodes p) u v = not (p u || p v)

-- ---- what a router looks up: next hops by topology, node and destination; alternates by node and neighbour

pub record Tables : Type 0 where
  pub next : ℕ → ℕ → ℕ → ℕ
  pub alternate : ℕ → ℕ → ℕ

-- the tables of a set, by the rules
unfoldable pub tables_of : Set → Tables
tables_of S = record { next = next_hop S; alternate = alternate S }

-- where an entry stands in the tables' bytes: next hops by topology, node, destination; the alternates are a table of their own after topology k's
unfoldable pub entry_place : Network → ℕ → ℕ → ℕ → ℕ
entry_place h i u t = i * (h.n * h.n) + (u * h.n + t)

-- tables that are lent as bytes, as they are
unfoldable pub lent_tables : Network → List ℕ → Tables
lent_tables h s = record { next = λ i u t. get_or s (entry_place h i u t) 0; alternate = λ u v. get_or s (entry_place h (h.k + 1) u v) 0 }

-- ---- one hop

-- a packet at u, for t, in topology i
abbrev pub packet : ℕ → ℕ → ℕ → Packet
packet u t i = record { place = u; destination = t; topology = i }

-- "The change and the move to the new neighbour are one hop; if that neighbour or link is down too, drop instead. A dropped packet keeps its
-- place and topology." on: which hops are up; w: the neighbour; j: the topology
unfoldable pub move_or_drop : (ℕ → ℕ → Bool) → Packet → ℕ → ℕ → Kind → Step
move_or_drop on p w j kind = if on p.place w then Moved (packet w p.destination j) kind else Dropped p

-- v is the next hop in topology 0, and v or the link to it is down; w is the next hop in v's home topology.
-- "1. [..] If it isn't v, use that topology (kind T where t ≠ v, kind S where t = v). 2. If it is v, use u's home topology and the alternate for v (kind D)."
unfoldable pub change_to : Set → Tables → (ℕ → ℕ → Bool) → Packet → ℕ → ℕ → Step
change_to S tables on p v w =
    if eqb w v
    then move_or_drop on p (tables.alternate p.place v) (home S p.place) change.D
    else move_or_drop on p w (home S v) (if eqb p.destination v then change.S else change.T)

-- v is the next hop, and v or the link to it is down: "If not, and the packet is in a backup topology, drop it. If it is in topology 0: 1. Look up the
-- next hop for t in v's home topology."
unfoldable pub blocked : Set → Tables → (ℕ → ℕ → Bool) → Packet → ℕ → Step
blocked S tables on p v =
    if eqb p.topology 0
    then change_to S tables on p v (tables.next (home S v) p.place p.destination)
    else Dropped p

-- v is the next hop: "If v and the link are up, move."
unfoldable pub toward : Set → Tables → (ℕ → ℕ → Bool) → Packet → ℕ → Step
toward S tables on p v =
    if on p.place v
    then Moved (packet v p.destination p.topology) change.Unchanged
    else blocked S tables on p v

-- "If u = t it is delivered. Otherwise take the next hop v."
unfoldable pub step : Set → Tables → (ℕ → ℕ → Bool) → Packet → Step
step S tables on p =
    if eqb p.place p.destination
    then Delivered p
    else toward S tables on p (tables.next p.topology p.place p.destination)

-- ---- 15: "a table entry it looks up isn't a neighbour", judged of the entries in the order in which the step looks them up: 15, or 0

-- the alternate for v is looked up only where the next hop in v's home topology, w, is v
unfoldable pub alternate_number : Set → Tables → Packet → ℕ → ℕ → ℕ
alternate_number S tables p v w = if eqb w v then need (neighbours S p.place (tables.alternate p.place v)) 15 0 else 0

-- the next hop in v's home topology is looked up only in topology 0, where v or the link to it is down
unfoldable pub change_number : Set → Tables → Packet → ℕ → ℕ → ℕ
change_number S tables p v w = need (neighbours S p.place w) 15 (alternate_number S tables p v w)

-- v is the next hop
unfoldable pub toward_number : Set → Tables → (ℕ → ℕ → Bool) → Packet → ℕ → ℕ
toward_number S tables on p v =
    need (neighbours S p.place v) 15
    (if on p.place v || not (eqb p.topology 0) then 0 else change_number S tables p v (tables.next (home S v) p.place p.destination))

-- the next hop is looked up unless the packet is at its destination
unfoldable pub lookup_number : Set → Tables → (ℕ → ℕ → Bool) → Packet → ℕ
lookup_number S tables on p =
    if eqb p.place p.destination then 0 else toward_number S tables on p (tables.next p.topology p.place p.destination)

-- ---- the whole run

-- how a run ended; the nodes visited after the source, in order; the changes of topology, and the kind of the first; the last place and topology
pub record Run : Type 0 where
  pub outcome : Outcome
  pub visited : List ℕ
  pub changes : ℕ
  pub kind : Kind
  pub place : ℕ
  pub topology : ℕ

-- its hops
unfoldable pub hops : Run → ℕ
hops r = length r.visited

-- "the trail of nodes visited, hops + 1 bytes"
unfoldable pub trail : ℕ → Run → List ℕ
trail source r = source ∷ r.visited

-- a run that is over, or not gone on with, where the packet stands
unfoldable pub stop : Packet → Outcome → Run
stop p e = record { outcome = e; visited = []; changes = 0; kind = change.Unchanged; place = p.place; topology = p.topology }

-- the kind of the first change: that of this hop, or else that of the rest
unfoldable pub first_kind : Kind → Kind → Kind
first_kind change.Unchanged rest = rest
first_kind change.T rest = change.T
first_kind change.S rest = change.S
first_kind change.D rest = change.D

-- a change of topology counts one
unfoldable pub changed : Kind → ℕ
changed change.Unchanged = 0
changed change.T = 1
changed change.S = 1
changed change.D = 1

-- the letter of a kind: "T, S or D", and - where there was no change
unfoldable pub letter : Kind → ℕ
letter change.Unchanged = 45
letter change.T = 84
letter change.S = 83
letter change.D = 68

-- a hop, and then the rest of the run
unfoldable pub onward : ℕ → Kind → Run → Run
onward v kind r =
    record {
      outcome = r.outcome;
      visited = v ∷ r.visited;
      changes = changed kind + r.changes;
      kind = first_kind kind r.kind;
      place = r.place;
      topology = r.topology;
    }

-- what a step leads to: the end, or what follows its move
unfoldable pub after_step : Step → (Packet → Kind → Run) → Run
after_step (Delivered p) moved = stop p ended.Delivered
after_step (Dropped p) moved = stop p ended.Dropped
after_step (Moved p kind) moved = moved p kind

-- steps until the packet is delivered or dropped, of at most so many hops; one that would move once more is under way still
unfoldable pub run : Set → Tables → (ℕ → ℕ → Bool) → ℕ → Packet → Run
run S tables on zero p = after_step (step S tables on p) (λ q kind. stop p ended.UnderWay)
run S tables on (suc h) p = after_step (step S tables on p) (λ q kind. onward q.place kind (run S tables on h q))

-- the run of a packet from u to t under this fault
unfoldable pub run_under : Set → Fault → ℕ → ℕ → Run
run_under S f u t = run S (tables_of S) (up S f) (most_hops S.net) (packet u t 0)
