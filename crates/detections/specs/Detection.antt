-- What a detecting node sees, by the file's own tables.
use Rattle.std.specs.Prelude.{◌≡◌, List, ℕ, zero, suc, ◌≤◌, ◌<◌, eqb, get_or, if◌then◌else◌}
use Rattle.rules.specs.declared.Network.{Network}
use Rattle.rules.specs.Verdict.{Accepted}
use Rattle.rules.specs.Basics.{laid}
use Rattle.rules.specs.File.{Set, header_of, set_of}
use Rattle.rules.specs.Distance.{next_hop, table_bytes}
use Rattle.rules.specs.Forwarding.{entry_place}
use Rattle.rules.specs.Judgement.{take_set}
use Rattle.rules.specs.Report.{kind_of, packet_of, detection, backup_hops, plain_hops}
use Rattle.detections.specs.declared.Seen.{Seen}

-- an accepted file s, its header, and its own tables
pub record Ready (s : List ℕ) (net : Network) (tables : List ℕ) : Type 0 where
  pub accepted : take_set s ≡ Accepted
  pub header : net ≡ header_of s
  pub before : List ℕ
  pub made : tables ≡ laid (table_bytes (set_of s)) before
  pub least : 3 ≤ net.n
  pub most : net.n ≤ 32

-- a node and a destination of the file
pub record Pair (net : Network) (u t : ℕ) : Type 0 where
  pub node : u < net.n
  pub end : t < net.n

-- how many next hops of topology i lead from u to t by these tables, of at most so many
unfoldable pub walk_hops : List ℕ → Network → ℕ → ℕ → ℕ → ℕ → ℕ
walk_hops tables net i t zero u = 0
walk_hops tables net i t (suc most) u = if eqb u t then 0 else suc (walk_hops tables net i t most (get_or tables (entry_place net i u t) 0))

pub record Walked (tables : List ℕ) (net : Network) (i u t most r : ℕ) : Type 0 where
  pub is : r ≡ walk_hops tables net i t most u
  pub few : r ≤ most

-- what node u sees of a packet for t where the link to its next hop is down
unfoldable pub seen_by : Set → ℕ → ℕ → Seen
seen_by S u t =
    record {
      via = next_hop S 0 u t;
      kind = kind_of (detection S u t);
      topology = (packet_of (detection S u t)).topology;
      next = (packet_of (detection S u t)).place;
      hops = backup_hops S u t;
      plain = plain_hops S u t;
    }
