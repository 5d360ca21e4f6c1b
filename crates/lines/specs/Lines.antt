-- The line of a detection, the lines one after the other, and the last line.
use Rattle.std.specs.Prelude.{List, [], ◌∷◌, ◌++◌, ℕ, ◌+◌, ◌-◌, ◌*◌, eqb, pos, ◌-ℤ◌, if◌then◌else◌}
use Rattle.rules.specs.declared.Kind.{Kind}
use Rattle.rules.specs.Basics.{flat}
use Rattle.rules.specs.Limits.{largest}
use Rattle.rules.specs.File.{Set}
use Rattle.rules.specs.Forwarding.{letter}
use Rattle.rules.specs.Report.{decimal, signed, space, newline, detection_line}
use Rattle.text.specs.Text.{field, signed_room, field_room, labelled_room}
use Rattle.detections.specs.declared.Seen.{Seen}

-- ---- a line in three parts

unfoldable pub head_of : ℕ → ℕ → ℕ → List ℕ
head_of u via t = field u ++ (field via ++ field t)

unfoldable pub change_of : Kind → ℕ → ℕ → List ℕ
change_of kind topology next = letter kind ∷ (space ++ (field topology ++ field next))

unfoldable pub tail_of : ℕ → ℕ → List ℕ
tail_of hops plain = field hops ++ (signed (pos hops -ℤ pos plain) ++ newline)

unfoldable pub line_of : ℕ → ℕ → Seen → List ℕ
line_of u t d = head_of u d.via t ++ (change_of d.kind d.topology d.next ++ tail_of d.hops d.plain)

-- ---- the lines

-- the line for t; none where t is the node itself
unfoldable pub line_for : Set → ℕ → ℕ → List ℕ
line_for S u t = if eqb u t then [] else detection_line S u t

-- a node's lines
unfoldable pub node_lines : Set → ℕ → List ℕ
node_lines S u = flat (line_for S u) S.net.n

-- ---- the last line, `detections` and the count, for n nodes
unfoldable pub last_of : ℕ → List ℕ
last_of n = 100 ∷ 101 ∷ 116 ∷ 101 ∷ 99 ∷ 116 ∷ 105 ∷ 111 ∷ 110 ∷ 115 ∷ 32 ∷ (decimal (n * (n - 1)) ++ newline)

-- ---- how many bytes are allowed for, at most

-- the three parts of a line: its first three fields; the letter, a space and two fields; a field, a number with its sign and the newline
abbrev pub head_room : ℕ
head_room = 3 * field_room

abbrev pub change_room : ℕ
change_room = 2 + 2 * field_room

abbrev pub tail_room : ℕ
tail_room = field_room + signed_room + 1

-- a line
abbrev pub line_room : ℕ
line_room = head_room + change_room + tail_room

-- a node's lines, and the lines of all nodes
abbrev pub node_room : ℕ
node_room = largest.n * line_room

abbrev pub lines_room : ℕ
lines_room = largest.n * node_room

-- the header line, which never varies; the last line; the whole text
abbrev pub header_room : ℕ
header_room = 44

abbrev pub last_room : ℕ
last_room = labelled_room + 1

abbrev pub text_room : ℕ
text_room = header_room + lines_room + last_room
