-- 01, 'The report program', with 02's request a.
use Rattle.std.specs.Prelude.{List, [], ◌∷◌, ◌++◌, ℕ, zero, suc, ◌+◌, ◌-◌, ◌*◌, ◌/◌, ◌%◌, eqb, ltb, ℤ, pos, negsuc, ◌-ℤ◌, if◌then◌else◌}
use Rattle.rules.specs.declared.Kind.{Kind}
use Rattle.rules.specs.declared.Kind.TheVariants as change
use Rattle.rules.specs.declared.Packet.{Packet}
use Rattle.rules.specs.declared.Step.{Step}
use Rattle.rules.specs.declared.Step.TheVariants.{Delivered, Moved, Dropped}
use Rattle.rules.specs.Verdict.{Verdict, Accepted, Refused}
use Rattle.rules.specs.Basics.{flat}
use Rattle.rules.specs.File.{Set}
use Rattle.rules.specs.Isolation.{link_between}
use Rattle.rules.specs.Distance.{next_hop}
use Rattle.rules.specs.Forwarding.{nothing, link, up, tables_of, packet, step, hops, letter, run_under}

-- ---- numbers and lines

-- a number in decimal, of at most so many digits and one more
unfoldable pub digits : ℕ → ℕ → List ℕ
digits zero x = (48 + x % 10) ∷ []
digits (suc more) x = if ltb x 10 then (48 + x) ∷ [] else digits more (x / 10) ++ ((48 + x % 10) ∷ [])

-- a number in decimal: twenty digits hold every number of 64 bits
unfoldable pub decimal : ℕ → List ℕ
decimal x = digits 19 x

-- an integer: "printed with a minus sign where it is below zero" (02, a); negsuc x is -(x + 1)
unfoldable pub signed : ℤ → List ℕ
signed (pos x) = decimal x
signed (negsuc x) = 45 ∷ decimal (x + 1)

-- one space between fields, a newline after every line
abbrev pub space : List ℕ
space = 32 ∷ []

abbrev pub newline : List ℕ
newline = 10 ∷ []

-- "The first line of the report never varies": node via dest kind topology next hops extra
unfoldable pub header_line : List ℕ
header_line =
    110 ∷ 111 ∷ 100 ∷ 101 ∷ 32 ∷ 118 ∷ 105 ∷ 97 ∷ 32 ∷ 100 ∷ 101 ∷ 115 ∷ 116 ∷ 32 ∷ 107 ∷ 105 ∷ 110 ∷ 100 ∷ 32 ∷ 116 ∷ 111 ∷ 112 ∷ 111 ∷ 108 ∷ 111 ∷ 103 ∷ 121 ∷ 32 ∷ 110 ∷ 101 ∷ 120 ∷ 116 ∷ 32 ∷ 104 ∷ 111 ∷ 112 ∷ 115 ∷ 32 ∷ 101 ∷ 120 ∷ 116 ∷ 114 ∷ 97 ∷ 10 ∷ []

-- ---- one detection: node u, destination t, "with that one link down"

-- the packet after a step, and the kind of its change
unfoldable pub packet_of : Step → Packet
packet_of (Delivered p) = p
packet_of (Moved p kind) = p
packet_of (Dropped p) = p

unfoldable pub kind_of : Step → Kind
kind_of (Delivered p) = change.Unchanged
kind_of (Moved p kind) = kind
kind_of (Dropped p) = change.Unchanged

-- the link from u to its next hop for t in topology 0
unfoldable pub detected_link : Set → ℕ → ℕ → ℕ
detected_link S u t = link_between S u (next_hop S 0 u t)

-- what u does with a packet for t that it finds that link down for
unfoldable pub detection : Set → ℕ → ℕ → Step
detection S u t = step S (tables_of S) (up S (link (detected_link S u t))) (packet u t 0)

-- "hops from this node to the destination with that one link down"
unfoldable pub backup_hops : Set → ℕ → ℕ → ℕ
backup_hops S u t = hops (run_under S (link (detected_link S u t)) u t)

-- the hops in topology 0, with nothing down
unfoldable pub plain_hops : Set → ℕ → ℕ → ℕ
plain_hops S u t = hops (run_under S nothing u t)

-- "extra becomes a signed count, backup hops minus hops in topology 0" (02, a)
unfoldable pub extra_hops : Set → ℕ → ℕ → ℤ
extra_hops S u t = pos (backup_hops S u t) -ℤ pos (plain_hops S u t)

-- "the detecting node (the "seen from" column); its next hop in topology 0; the destination; T, S or D; the topology changed to; the neighbour
-- taken; hops [..]; and extra"
unfoldable pub detection_line : Set → ℕ → ℕ → List ℕ
detection_line S u t =
    decimal u ++ (space
    ++ (decimal (next_hop S 0 u t) ++ (space
    ++ (decimal t ++ (space
    ++ (letter (kind_of (detection S u t)) ∷ (space
    ++ (decimal (packet_of (detection S u t)).topology ++ (space
    ++ (decimal (packet_of (detection S u t)).place ++ (space
    ++ (decimal (backup_hops S u t) ++ (space
    ++ (signed (extra_hops S u t) ++ newline))))))))))))))

-- "one line for each node and each other destination, by node, then destination"
unfoldable pub detection_lines : Set → List ℕ
detection_lines S =
    flat (λ u. flat (λ t. if eqb u t then [] else detection_line S u t) S.net.n) S.net.n

-- "Last line: `detections` and the count, n × (n - 1)."
unfoldable pub last_line : Set → List ℕ
last_line S = 100 ∷ 101 ∷ 116 ∷ 101 ∷ 99 ∷ 116 ∷ 105 ∷ 111 ∷ 110 ∷ 115 ∷ 32 ∷ (decimal (S.net.n * (S.net.n - 1)) ++ newline)

-- the whole report
unfoldable pub report_text : Set → List ℕ
report_text S = header_line ++ (detection_lines S ++ last_line S)

-- "A refusal prints only `refused N at P`."
unfoldable pub refusal_line : ℕ → ℕ → List ℕ
refusal_line number place =
    114 ∷ 101 ∷ 102 ∷ 117 ∷ 115 ∷ 101 ∷ 100 ∷ 32 ∷ (decimal number ++ (32 ∷ 97 ∷ 116 ∷ 32 ∷ (decimal place ++ newline)))

-- what the program prints
unfoldable pub printed : Set → Verdict → List ℕ
printed S Accepted = report_text S
printed S (Refused number place) = refusal_line number place
