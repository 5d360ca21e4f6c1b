-- 01, 'Refusal numbers': the table row by row, as propositions. What the number and the place of a refusal say is so.
use Rattle.std.specs.Prelude.{◌≡◌, ◌⊎◌, true, ◌&&◌, List, ℕ, suc, ◌+◌, ◌≤◌, ◌<◌, length}
use Rattle.rules.specs.declared.Network.{Network}
use Rattle.rules.specs.declared.Packet.{Packet}
use Rattle.rules.specs.declared.Failure.{Failure}
use Rattle.rules.specs.Limits.{header_length, home_records, link_place, home_place, row_place, file_length, tables_length, trail_room}
use Rattle.rules.specs.File.{Set, encode, header_of, end_a, end_b, link_weight, home_node, home_topology, row_topology, row_weight, set_of}
use Rattle.rules.specs.Isolation.{neighbours, isolated, backbone, normal_hop}
use Rattle.rules.specs.Forwarding.{fault_of, up, lent_tables, packet}
use Rattle.rules.specs.Report.{report_text}
use Rattle.rules.specs.Answers.{refused}
use Rattle.rules.specs.Entries.Entry.{Entry, Promise}
use Rattle.rules.specs.Entries.Lists.{Lists, LongLists}
use Rattle.rules.specs.Entries.Read.{read_entry}
use Rattle.rules.specs.Entries.Write.{WriteInput, set_with, write_entry}
use Rattle.rules.specs.Entries.Build.{BuildInput, build_entry}
use Rattle.rules.specs.Entries.Tables.{tables_entry}
use Rattle.rules.specs.Entries.Step.{StepInput, step_entry}
use Rattle.rules.specs.Entries.Run.{RunInput, RunLent, run_entry}
use Rattle.rules.specs.Entries.Report.{report_entry}
use Rattle.rules.specs.Sets.{WithinLimits, at, MeetsRules, Walk, Two}
use Rattle.rules.specs.Demands.Step.{InRange, Standing, LooksUp}
use Rattle.rules.specs.Demands.Building.{Removable, topologies_needed, with_topologies}

-- ---- 1 to 6: of bytes s, by the counts of their header

-- the two bytes of a mark stand at this place
abbrev pub HasMark : List ℕ → ℕ → ℕ → ℕ → Type 0
HasMark s place x y = (at s place ≡ x) × (at s (place + 1) ≡ y)

-- "Links have a < b < n and rise strictly by a, then b."
pub record EndsInOrder (s : List ℕ) (l : ℕ) : Type 0 where
  pub ends : (end_a s l < end_b s l) × (end_b s l < (header_of s).n)
  pub order : (before : ℕ) → l ≡ suc before → (end_a s before < end_a s l) ⊎ ((end_a s before ≡ end_a s l) × (end_b s before < end_b s l))

-- a weight of 1 to wmax
abbrev pub InWeights : List ℕ → ℕ → Type 0
InWeights s w = (1 ≤ w) × (w ≤ (header_of s).wmax)

-- "Home records go by node from 0; each home is 1 to k."
abbrev pub HomeFits : List ℕ → ℕ → Type 0
HomeFits s v = (home_node s (header_of s) v ≡ v) × (1 ≤ home_topology s (header_of s) v) × (home_topology s (header_of s) v ≤ (header_of s).k)

-- node v's home is topology j + 1
abbrev pub AtHome : List ℕ → ℕ → ℕ → Type 0
AtHome s j v = home_topology s (header_of s) v ≡ suc j

-- "Row i holds 0 for each link that isn't normal in i, and 1 to wmax for each that is."
pub record RowFits (s : List ℕ) (j : ℕ) : Type 0 where
  pub normal : (l : ℕ) → l < (header_of s).m → (AtHome s j (end_a s l) → ⊥) → (AtHome s j (end_b s l) → ⊥) → InWeights s (row_weight s (header_of s) j l)
  pub other : (l : ℕ) → l < (header_of s).m → AtHome s j (end_a s l) ⊎ AtHome s j (end_b s l) → row_weight s (header_of s) j l ≡ 0

-- what numbers 2, 4, 5 and 6 say of a record, at its first byte
pub data RecordFault (s : List ℕ) : ℕ → ℕ → Type 0 where
  -- 2: "wrong mark"
  link_mark : (l : ℕ) → l < (header_of s).m → (HasMark s (link_place l) 0x4C 0x4B → ⊥) → RecordFault s 2 (link_place l)
  home_mark : (v : ℕ) → v < home_records (header_of s) → (HasMark s (home_place (header_of s) v) 0x48 0x4D → ⊥) → RecordFault s 2 (home_place (header_of s) v)
  row_mark : (j : ℕ) → j < (header_of s).k → (HasMark s (row_place (header_of s) j) 0x42 0x57 → ⊥) → RecordFault s 2 (row_place (header_of s) j)
  -- 4: "link ends or order wrong"
  link_ends : (l : ℕ) → l < (header_of s).m → (EndsInOrder s l → ⊥) → RecordFault s 4 (link_place l)
  -- 5: "weight against its rule"
  link_weight_wrong : (l : ℕ) → l < (header_of s).m → (InWeights s (link_weight s l) → ⊥) → RecordFault s 5 (link_place l)
  row_weight_wrong : (j : ℕ) → j < (header_of s).k → (RowFits s j → ⊥) → RecordFault s 5 (row_place (header_of s) j)
  -- 6: "home's node or topology, or row's topology, wrong"
  home_wrong : (v : ℕ) → v < home_records (header_of s) → (HomeFits s v → ⊥) → RecordFault s 6 (home_place (header_of s) v)
  row_topology_wrong : (j : ℕ) → j < (header_of s).k → (row_topology s (header_of s) j ≡ suc j → ⊥) → RecordFault s 6 (row_place (header_of s) j)

-- what numbers 1 to 6 say of a file; a record is judged where the counts are within their ranges
pub data FileFault (s : List ℕ) : ℕ → ℕ → Type 0 where
  -- 1: "under 8 bytes, or length not the one the counts give"; place 0
  under : length s < header_length → FileFault s 1 0
  other_length : (length s ≡ file_length (header_of s) → ⊥) → FileFault s 1 0
  -- 2: "wrong mark", of the header
  header_mark : (HasMark s 0 0x4E 0x57 → ⊥) → FileFault s 2 0
  -- 3: "n, m, k or wmax outside its range"; place 0
  counts : (WithinLimits (header_of s) → ⊥) → FileFault s 3 0
  in_record : {number place : ℕ} → WithinLimits (header_of s) → RecordFault s number place → FileFault s number place

-- ---- 7 and 8: of a set's topologies

-- some node is in the backbone of i, and normal links join any two that are
pub record BackboneJoined (S : Set) (i : ℕ) : Type 0 where
  pub some : (v : ℕ) × (backbone S i v ≡ true)
  pub joined : (u w : ℕ) → backbone S i u ≡ true → backbone S i w ≡ true → Walk (normal_hop S i) u w

-- what 7 and 8 say at their topology
pub data TopologyFault (S : Set) : ℕ → ℕ → Type 0 where
  -- 7: "backbone empty or not connected"
  backbone_apart : (i : ℕ) → 1 ≤ i → i ≤ S.net.k → (BackboneJoined S i → ⊥) → TopologyFault S 7 i
  -- 8: "an isolated node with fewer than two restricted links"
  too_few : (i v : ℕ) → 1 ≤ i → i ≤ S.net.k → v < S.net.n → isolated S i v ≡ true → (Two (λ w. neighbours S v w && backbone S i w) → ⊥) → TopologyFault S 8 i

-- ---- what the refusals of each entry say; every place that is not a record's or a topology's is 0

-- a packet and a failure within a set's counts
pub record Known (h : Network) (p : Packet) (f : Failure) : Type 0 where
  pub place : p.place < h.n
  pub destination : p.destination < h.n
  pub topology : p.topology ≤ h.k
  pub failure : InRange h f

-- bytes that are not taken in: 1 to 6 of the file; then 7 and 8 of its topologies, where it meets its own rules
pub data IntakeFault (s : List ℕ) : ℕ → ℕ → Type 0 where
  file : {number place : ℕ} → FileFault s number place → IntakeFault s number place
  topology : {number place : ℕ} → MeetsRules (set_of s) → TopologyFault (set_of s) number place → IntakeFault s number place

-- the same where a set is needed
pub data SetFault (s : List ℕ) : ℕ → ℕ → Type 0 where
  intake : {number place : ℕ} → IntakeFault s number place → SetFault s number place
  -- 13: "graph alone where a set is needed"
  graph : (header_of s).k ≡ 0 → SetFault s 13 0

-- read
pub data ReadFault (s : List ℕ) (d : Lists) : ℕ → ℕ → Type 0 where
  intake : {number place : ℕ} → IntakeFault s number place → ReadFault s d number place
  -- 14: "lent room too short"
  room : (LongLists (header_of s) d → ⊥) → ReadFault s d 14 0

-- write: "The writer gives the number and place the reader would give for what it would write; [..] a list shorter than the counts need is 1"
pub data WriteFault (i : WriteInput) (lent : List ℕ) : ℕ → ℕ → Type 0 where
  counts : (WithinLimits i.net → ⊥) → WriteFault i lent 3 0
  lists : (LongLists i.net i.lists → ⊥) → WriteFault i lent 1 0
  intake : {number place : ℕ} → IntakeFault (encode (set_with i.net i.lists)) number place → WriteFault i lent number place
  room : length lent < file_length i.net → WriteFault i lent 14 0

-- build
pub data BuildFault (i : BuildInput) (lent : List ℕ) : ℕ → ℕ → Type 0 where
  intake : {number place : ℕ} → IntakeFault i.file number place → BuildFault i lent number place
  -- 13: "a set given to the builder"
  set : ((header_of i.file).k ≡ 0 → ⊥) → BuildFault i lent 13 0
  -- 11: "[..] cap outside its range"
  cap : ((1 ≤ i.cap) × (i.cap ≤ 32) → ⊥) → BuildFault i lent 11 0
  -- 9: "removing some one node disconnects the others"
  nine : (Removable (set_of i.file) → ⊥) → BuildFault i lent 9 0
  -- 10: "first fit needs more than the cap"
  ten : i.cap < topologies_needed (set_of i.file) → BuildFault i lent 10 0
  room : length lent < file_length (with_topologies (header_of i.file) (topologies_needed (set_of i.file))) → BuildFault i lent 14 0

-- tables
pub data TablesFault (s lent : List ℕ) : ℕ → ℕ → Type 0 where
  set : {number place : ℕ} → SetFault s number place → TablesFault s lent number place
  room : length lent < tables_length (header_of s) → TablesFault s lent 14 0

-- step
pub data StepFault (i : StepInput) : ℕ → ℕ → Type 0 where
  file : {number place : ℕ} → FileFault i.file number place → StepFault i number place
  graph : (header_of i.file).k ≡ 0 → StepFault i 13 0
  -- 11: "node, destination, topology, failure [..] outside its range"
  range : (Known (header_of i.file) i.packet i.failure → ⊥) → StepFault i 11 0
  -- 12: "[..] the packet's present node, is the failed node"
  stopped : (Standing i.packet.place i.failure → ⊥) → StepFault i 12 0
  room : length i.tables < tables_length (header_of i.file) → StepFault i 14 0
  -- 15: "a table entry it looks up isn't a neighbour"
  lookup : (LooksUp (set_of i.file) (lent_tables (header_of i.file) i.tables) (up (set_of i.file) (fault_of i.failure)) i.packet → ⊥) → StepFault i 15 0

-- run
pub data RunFault (i : RunInput) (d : RunLent) : ℕ → ℕ → Type 0 where
  set : {number place : ℕ} → SetFault i.file number place → RunFault i d number place
  range : (Known (header_of i.file) (packet i.source i.destination 0) i.failure → ⊥) → RunFault i d 11 0
  -- 12: "the source [..] is the failed node"
  stopped : (Standing i.source i.failure → ⊥) → RunFault i d 12 0
  tables : length d.tables < tables_length (header_of i.file) → RunFault i d 14 0
  trail : length d.trail < trail_room (header_of i.file) → RunFault i d 14 0

-- report
pub data ReportFault (s lent : List ℕ) : ℕ → ℕ → Type 0 where
  set : {number place : ℕ} → SetFault s number place → ReportFault s lent number place
  room : length lent < length (report_text (set_of s)) → ReportFault s lent 14 0

-- where an entry's answer tells a refusal, what its number and place say is so
abbrev pub SaysSo : {Input Lent Answer : Type 0} → Entry Input Lent Answer → (Input → Lent → ℕ → ℕ → Type 0) → Type 0
SaysSo {Input} {Lent} {Answer} E Fault =
    (i : Input) (before after : Lent) (r : Answer) (number place : ℕ) → Promise E i before r after → E.tells r ≡ refused number place → Fault i before number place

-- of each entry
pub record RefusalsSaySo : Type 0 where
  pub read : SaysSo read_entry ReadFault
  pub write : SaysSo write_entry WriteFault
  pub build : SaysSo build_entry BuildFault
  pub tables : SaysSo tables_entry TablesFault
  pub step : SaysSo step_entry (λ i d. StepFault i)
  pub run : SaysSo run_entry RunFault
  pub report : SaysSo report_entry ReportFault
