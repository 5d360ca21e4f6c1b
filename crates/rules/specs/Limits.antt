-- 01, 'Numbers that bound it', with 02's request a.
use Rattle.std.specs.Prelude.{ℕ, ◌+◌, ◌*◌, ◌-◌, eqb, leb}
use Rattle.rules.specs.declared.Network.{Network}
use Rattle.rules.specs.declared.Longest.{Longest}
use Rattle.rules.specs.Basics.{need}

-- "n from 3 to 32, m from 3 to 128 links, k from 0 to 32 backup topologies with k at most n. wmax is 1 to 65,535."
-- Refusal 3 where a count is outside its range; else the rest decides
unfoldable pub need_counts : Network → ℕ → ℕ
need_counts h rest =
    need (leb 3 h.n) 3
    (need (leb h.n 32) 3
    (need (leb 3 h.m) 3
    (need (leb h.m 128) 3
    (need (leb h.k 32) 3
    (need (leb h.k h.n) 3
    (need (leb 1 h.wmax) 3
    (need (leb h.wmax 65535) 3 rest)))))))

-- "The restricted weight is 2 × m × wmax (000 counts each direction as an edge)."
unfoldable pub restricted_weight : Network → ℕ
restricted_weight h = 2 * h.m * h.wmax

-- how many weights a row has: one for each link
unfoldable pub row_weights : Network → ℕ
row_weights h = h.m

-- ---- the lengths of the file's records: their marks and fields together
abbrev pub header_length : ℕ
header_length = 8

-- link: mark, a, b, weight
abbrev pub link_length : ℕ
link_length = 6

-- home: mark, node, topology
abbrev pub home_length : ℕ
home_length = 4

-- a row's mark and topology, before its weights
abbrev pub row_head_length : ℕ
row_head_length = 3

-- a weight
abbrev pub weight_length : ℕ
weight_length = 2

-- a whole row
unfoldable pub row_length : Network → ℕ
row_length h = row_head_length + weight_length * row_weights h

-- "home, n times if k > 0"
unfoldable pub home_records : Network → ℕ
home_records h = need (eqb h.k 0) h.n 0

-- ---- where each record starts: links, then homes, then rows, with nothing between
unfoldable pub link_place : ℕ → ℕ
link_place l = header_length + link_length * l

-- the home record of node v
unfoldable pub home_place : Network → ℕ → ℕ
home_place h v = link_place h.m + home_length * v

-- the row of topology j + 1
unfoldable pub row_place : Network → ℕ → ℕ
row_place h j = home_place h (home_records h) + j * row_length h

-- "With k = 0 the file is a graph alone: 8 + 6m bytes. Otherwise it is a set: 8 + 6m + 4n + k × (3 + 2m) bytes."
unfoldable pub file_length : Network → ℕ
file_length h = row_place h h.k

-- "Tables: (k + 1) × n × n bytes by topology, node, destination; then n × n alternate bytes by node, neighbour."
unfoldable pub tables_length : Network → ℕ
tables_length h = (h.k + 1) * (h.n * h.n) + h.n * h.n

-- the most hops of a run, and the trail's room, "at least 2n - 2"
unfoldable pub most_hops : Network → ℕ
most_hops h = 2 * h.n - 3

unfoldable pub trail_room : Network → ℕ
trail_room h = 2 * h.n - 2

-- the longest lines of a report: its header line; the line of a detection, with seven numbers of two digits, a minus sign, a letter, seven spaces and a
-- newline; its last line, `detections 992`
abbrev pub report_header : ℕ
report_header = 44

abbrev pub report_line : ℕ
report_line = 24

abbrev pub report_last : ℕ
report_last = 15

unfoldable pub report_room : Network → ℕ
report_room h = report_header + h.n * (h.n - 1) * report_line + report_last

-- the largest counts, and the longest file (9,192 bytes), tables, trail and report
abbrev pub largest : Network
largest = record { n = 32; m = 128; k = 32; wmax = 65535 }

unfoldable pub longest : Longest
longest =
    record {
      file = file_length largest;
      tables = tables_length largest;
      trail = trail_room largest;
      report = report_room largest;
    }
