-- 01, 'Refusal numbers': the judgement of a file's bytes, and the parts of the order that follow it.
use Rattle.std.specs.Prelude.{Bool, true, ◌&&◌, ◌||◌, List, ℕ, zero, suc, ◌+◌, eqb, ltb, leb, length, get_or, if◌then◌else◌}
use Rattle.rules.specs.declared.Network.{Network}
use Rattle.rules.specs.declared.Packet.{Packet}
use Rattle.rules.specs.declared.Failure.{Failure}
use Rattle.rules.specs.declared.Failure.TheVariants.{Nothing, Link, Node}
use Rattle.rules.specs.Verdict.{Verdict, Accepted, Refused}
use Rattle.rules.specs.Basics.{need, all}
use Rattle.rules.specs.Limits.{need_counts, header_length, home_records, link_place, home_place, row_place, file_length}
use Rattle.rules.specs.File.{Set, header_of, end_a, end_b, link_weight, home_node, home_topology, row_topology, row_weight, set_of}
use Rattle.rules.specs.Isolation.{class_by, weight_fits, topology_number}
use Rattle.rules.specs.Building.{build_number}

-- ---- verdicts in order

-- a refusal with this number and place; number 0 is no refusal
unfoldable pub refuse : ℕ → ℕ → Verdict
refuse zero place = Accepted
refuse (suc number) place = Refused (suc number) place

-- the first of two that refuses
unfoldable pub and_then : Verdict → Verdict → Verdict
and_then Accepted v = v
and_then (Refused number place) v = Refused number place

-- the first of n that refuses
unfoldable pub in_turn : (ℕ → Verdict) → ℕ → Verdict
in_turn f zero = Accepted
in_turn f (suc n) = and_then (in_turn f n) (f n)

-- ---- a file's bytes

-- 2: "wrong mark"; marks are compared as two fixed bytes
unfoldable pub need_mark : List ℕ → ℕ → ℕ → ℕ → ℕ → ℕ
need_mark s at x y rest = need (eqb (get_or s at 0) x) 2 (need (eqb (get_or s (at + 1) 0) y) 2 rest)

-- "under 8 bytes (1); header mark (2); counts (3); length (1)"
unfoldable pub header_number : List ℕ → ℕ
header_number s =
    need (leb header_length (length s)) 1
    (need_mark s 0 0x4E 0x57
    (need_counts (header_of s)
    (need (eqb (length s) (file_length (header_of s))) 1 0)))

-- (c, d) comes after (a, b): "rise strictly by a, then b"
unfoldable pub after : ℕ → ℕ → ℕ → ℕ → Bool
after a b c d = ltb a c || (eqb a c && ltb b d)

-- link l comes after the one before it; the first comes after none
unfoldable pub rises : List ℕ → ℕ → Bool
rises s zero = true
rises s (suc l) = after (end_a s l) (end_b s l) (end_a s (suc l)) (end_b s (suc l))

-- a link: mark (2); "Links have a < b < n and rise strictly by a, then b" (4); weight 1 to wmax (5). "4 before 5 in a link"
unfoldable pub link_number : List ℕ → Network → ℕ → ℕ
link_number s h l =
    need_mark s (link_place l) 0x4C 0x4B
    (need (ltb (end_b s l) h.n) 4
    (need (ltb (end_a s l) (end_b s l)) 4
    (need (rises s l) 4
    (need (leb 1 (link_weight s l)) 5
    (need (leb (link_weight s l) h.wmax) 5 0)))))

-- a home: mark (2); "Home records go by node from 0; each home is 1 to k" (6)
unfoldable pub home_number : List ℕ → Network → ℕ → ℕ
home_number s h v =
    need_mark s (home_place h v) 0x48 0x4D
    (need (eqb (home_node s h v) v) 6
    (need (leb 1 (home_topology s h v)) 6
    (need (leb (home_topology s h v) h.k) 6 0)))

-- link l's weight in the row of topology j + 1 fits its class there, by the homes just read
unfoldable pub row_weight_fits : List ℕ → Network → ℕ → ℕ → Bool
row_weight_fits s h j l =
    weight_fits
    (class_by (eqb (home_topology s h (end_a s l)) (suc j)) (eqb (home_topology s h (end_b s l)) (suc j)))
    h.wmax
    (row_weight s h j l)

-- a row: mark (2); "Rows go by topology from 1" (6); each weight by its link's class (5). "6 before 5 in a row"
unfoldable pub row_number : List ℕ → Network → ℕ → ℕ
row_number s h j =
    need_mark s (row_place h j) 0x42 0x57
    (need (eqb (row_topology s h j) (suc j)) 6
    (need (all (row_weight_fits s h j) h.m) 5 0))

-- "then each record in turn": the place is the record's first byte
unfoldable pub records : List ℕ → Network → Verdict
records s h =
    and_then (in_turn (λ l. refuse (link_number s h l) (link_place l)) h.m)
    (and_then (in_turn (λ v. refuse (home_number s h v) (home_place h v)) (home_records h))
    (in_turn (λ j. refuse (row_number s h j) (row_place h j)) h.k))

-- the judgement of any bytes, by 1 to 6
unfoldable pub judge : List ℕ → Verdict
judge s = and_then (refuse (header_number s) 0) (records s (header_of s))

-- ---- "one operation takes bytes and gives either an accepted set or a refusal from 1 to 8" (02, h)

-- "for topologies 1 to k, 7 before 8": 7 and 8, at their topology
unfoldable pub topologies : Set → Verdict
topologies S = in_turn (λ j. refuse (topology_number S (suc j)) (suc j)) S.net.k

-- that operation: 1 to 6 by record, then 7 and 8 by topology; "A graph alone is still taken in, with no topology to check."
unfoldable pub take_in : List ℕ → Verdict
take_in s = and_then (judge s) (topologies (set_of s))

-- ---- then 13: "13 now comes after them instead of before" (02, h)

-- 13: "graph alone where a set is needed"
unfoldable pub need_set : Network → Verdict
need_set h = refuse (need (leb 1 h.k) 13 0) 0

-- 13: "a set given to the builder"
unfoldable pub need_graph : Network → Verdict
need_graph h = refuse (need (eqb h.k 0) 13 0) 0

-- taken in where a set is needed
unfoldable pub take_set : List ℕ → Verdict
take_set s = and_then (take_in s) (need_set (header_of s))

-- ---- "then 11; 9; 10; 12; 14"

-- 11: "node, destination, topology, failure or cap outside its range"
unfoldable pub need_failure : Network → Failure → ℕ → ℕ
need_failure h Nothing rest = rest
need_failure h (Link l) rest = need (ltb l h.m) 11 rest
need_failure h (Node v) rest = need (ltb v h.n) 11 rest

-- 11 for a packet and what is down
unfoldable pub need_packet : Network → Packet → Failure → Verdict
need_packet h p f =
    refuse
    (need (ltb p.place h.n) 11
    (need (ltb p.destination h.n) 11
    (need (leb p.topology h.k) 11
    (need_failure h f 0))))
    0

-- "a cap of 1 to 32"
unfoldable pub need_cap : ℕ → Verdict
need_cap cap = refuse (need (leb 1 cap) 11 (need (leb cap 32) 11 0)) 0

-- 9, then 10
unfoldable pub need_fit : Set → ℕ → Verdict
need_fit G cap = refuse (build_number G cap) 0

-- 12: "the source, or the packet's present node, is the failed node"
unfoldable pub source_number : ℕ → Failure → ℕ
source_number u Nothing = 0
source_number u (Link l) = 0
source_number u (Node v) = if eqb v u then 12 else 0

-- 12, or acceptance
unfoldable pub need_source : ℕ → Failure → Verdict
need_source u f = refuse (source_number u f) 0

-- 14: "lent room too short": under what it is to hold
unfoldable pub need_room : ℕ → List ℕ → Verdict
need_room long lent = refuse (need (leb long (length lent)) 14 0) 0
