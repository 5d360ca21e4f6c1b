-- Demand 3, of the entry `report`: what it accepts, what it then answers and leaves, and that its lines cover every detection. Then 02's request a: the extra hops
-- of its lines.
use Rattle.std.specs.Prelude.{◌≡◌, ◌⊎◌, List, ◌∷◌, ◌++◌, ℕ, suc, ◌-◌, ◌*◌, ◌/◌, ◌%◌, ◌≤◌, ◌<◌, ltb, pos, neg_ℤ, nat_abs, ◌+ℤ◌, length, ◌≤ℤ◌, ◌<ℤ◌, if◌then◌else◌, Ok}
use Rattle.rules.specs.declared.Kind.TheVariants as change
use Rattle.rules.specs.declared.Step.TheVariants.{Moved}
use Rattle.rules.specs.Basics.{flat}
use Rattle.rules.specs.Limits.{longest}
use Rattle.rules.specs.File.{Set}
use Rattle.rules.specs.Forwarding.{link, packet, Run, run_under}
use Rattle.rules.specs.Report.{decimal, signed, newline, kind_of, detected_link, detection, backup_hops, plain_hops, extra_hops, detection_line, detection_lines, report_text}
use Rattle.rules.specs.Sets.{at, AcceptedSet, AcceptedFile}
use Rattle.rules.specs.Answers.{LengthAnswer}
use Rattle.rules.specs.Demands.Form.{Front}

-- report accepts exactly when the bytes are an accepted set's and its text has room
pub record ReportMeets (S : Set) (s lent : List ℕ) : Type 0 where
  pub file : AcceptedFile S s
  pub room : length (report_text S) ≤ length lent

-- and then it answers the text's length and leaves the text at the front of the room
pub record ReportGives (S : Set) (s before : List ℕ) (r : LengthAnswer) (after : List ℕ) : Type 0 where
  pub answer : r ≡ Ok (length (report_text S))
  pub text : Front (report_text S) before after

-- room for the longest report is room for every accepted set's
abbrev pub ReportFits : Type 0
ReportFits = (S : Set) → AcceptedSet S → length (report_text S) ≤ longest.report

-- each line of the report is what the run does: the detecting node's step is the run's first hop and its one change of topology
pub record LineIsRun (S : Set) (u t : ℕ) (r : Run) : Type 0 where
  pub neighbour : ℕ
  pub rest : List ℕ
  pub moved : detection S u t ≡ Moved (packet neighbour t r.topology) r.kind
  pub visited : r.visited ≡ neighbour ∷ rest
  pub changed : r.changes ≡ 1

-- every line of an accepted set's report is of that kind
abbrev pub LinesAreRuns : Type 0
LinesAreRuns =
    (S : Set) → AcceptedSet S → (u t : ℕ) → u < S.net.n → t < S.net.n → (u ≡ t → ⊥)
    → LineIsRun S u t (run_under S (link (detected_link S u t)) u t)

-- destination number j of node u: every node but u
unfoldable pub other : ℕ → ℕ → ℕ
other u j = if ltb j u then j else suc j

-- pair x of the ordered pairs of different nodes, numbered by node, then destination: its node
unfoldable pub node_at : ℕ → ℕ → ℕ
node_at n x = x / (n - 1)

-- and its destination
unfoldable pub end_at : ℕ → ℕ → ℕ
end_at n x = other (node_at n x) (x % (n - 1))

-- the pair (u, t) has a number
pub record Listed (n u t : ℕ) : Type 0 where
  pub number : ℕ
  pub low : number < n * (n - 1)
  pub node : node_at n number ≡ u
  pub end : end_at n number ≡ t

-- what the lines of a report cover
pub record Coverage (S : Set) : Type 0 where
  -- one line for each number below n × (n - 1), in order
  pub lines : detection_lines S ≡ flat (λ x. detection_line S (node_at S.net.n x) (end_at S.net.n x)) (S.net.n * (S.net.n - 1))
  -- each is a pair of different nodes
  pub pairs : (x : ℕ) → x < S.net.n * (S.net.n - 1)
      → (node_at S.net.n x < S.net.n) × (end_at S.net.n x < S.net.n) × (node_at S.net.n x ≡ end_at S.net.n x → ⊥)
  -- none is missing
  pub each : (u t : ℕ) → u < S.net.n → t < S.net.n → (u ≡ t → ⊥) → Listed S.net.n u t
  -- by node, then destination: none stands twice
  pub order : (x y : ℕ) → x < y → y < S.net.n * (S.net.n - 1)
      → (node_at S.net.n x < node_at S.net.n y) ⊎ ((node_at S.net.n x ≡ node_at S.net.n y) × (end_at S.net.n x < end_at S.net.n y))
  -- each line is what the run does with the link to the next hop down
  pub runs : (x : ℕ) → x < S.net.n * (S.net.n - 1)
      → LineIsRun S (node_at S.net.n x) (end_at S.net.n x) (run_under S (link (detected_link S (node_at S.net.n x) (end_at S.net.n x))) (node_at S.net.n x) (end_at S.net.n x))
  -- both ends of every link have theirs
  pub ends : (l : ℕ) → l < S.net.m → Listed S.net.n (at S.a l) (at S.b l) × Listed S.net.n (at S.b l) (at S.a l)

-- the report of every accepted set covers every detection
abbrev pub Covered : Type 0
Covered = (S : Set) → AcceptedSet S → Coverage S

-- 02, a: the extra hops that the line of node u for destination t ends in
pub record ExtraIs (S : Set) (u t : ℕ) : Type 0 where
  -- the line's last field, signed
  pub field : (fields : List ℕ) × (detection_line S u t ≡ fields ++ (signed (extra_hops S u t) ++ newline))
  -- "printed with a minus sign where it is below zero"
  pub below_zero : extra_hops S u t <ℤ pos 0 → signed (extra_hops S u t) ≡ 45 ∷ decimal (nat_abs (extra_hops S u t))
  pub not_below : pos 0 ≤ℤ extra_hops S u t → signed (extra_hops S u t) ≡ decimal (nat_abs (extra_hops S u t))
  -- "backup hops minus hops in topology 0": with these they make the backup hops
  pub sum : extra_hops S u t +ℤ pos (plain_hops S u t) ≡ pos (backup_hops S u t)
  -- they lie between -(n - 2) and n - 2
  pub least : neg_ℤ (pos (S.net.n - 2)) ≤ℤ extra_hops S u t
  pub most : extra_hops S u t ≤ℤ pos (S.net.n - 2)
  -- and are above zero in every S and D line
  pub above_in_s : kind_of (detection S u t) ≡ change.S → pos 0 <ℤ extra_hops S u t
  pub above_in_d : kind_of (detection S u t) ≡ change.D → pos 0 <ℤ extra_hops S u t

-- so are those of every line of an accepted set's report
abbrev pub ExtrasAre : Type 0
ExtrasAre = (S : Set) → AcceptedSet S → (u t : ℕ) → u < S.net.n → t < S.net.n → (u ≡ t → ⊥) → ExtraIs S u t
