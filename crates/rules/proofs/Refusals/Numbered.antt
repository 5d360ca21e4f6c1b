-- A refusal's number is one of 01's fifteen, and its place lies within the longest file: of every entry, whatever it is given and lent.
use mathlib.Core.Path.{◌≡◌, refl}
use mathlib.Core.List.{List}
use Prim.Native.Nat.{ℕ, suc, ◌≤◌, ◌<◌}
use native.Mathlib.Nat.{suc-mul, mul-le-mul_right}
use native.Mathlib.Omega.{arith}
use Rattle.rules.specs.declared.Network.{Network}
use Rattle.rules.specs.Verdict.{Verdict}
use Rattle.rules.specs.Basics.{need}
use Rattle.rules.specs.Limits.{row_weights, row_length, home_records, link_place, home_place, row_place, file_length, longest}
use Rattle.rules.specs.File.{Set, header_of, set_of}
use Rattle.rules.specs.Entries.Entry.{NothingLent}
use Rattle.rules.specs.Entries.Lists.{Lists}
use Rattle.rules.specs.Entries.Read.{read_entry}
use Rattle.rules.specs.Entries.Write.{WriteInput, write_entry}
use Rattle.rules.specs.Entries.Build.{BuildInput, build_entry}
use Rattle.rules.specs.Entries.Tables.{tables_entry}
use Rattle.rules.specs.Entries.Step.{StepInput, step_entry}
use Rattle.rules.specs.Entries.Run.{RunInput, RunLent, run_entry}
use Rattle.rules.specs.Entries.Report.{report_entry}
use Rattle.rules.specs.Sets.{WithinLimits}
use Rattle.rules.specs.Demands.One.{InTable, Numbered}
use Rattle.rules.specs.Refusals.{RecordFault, link_mark, home_mark, row_mark, link_ends, link_weight_wrong, row_weight_wrong, home_wrong, row_topology_wrong, FileFault, under, other_length, header_mark, counts, in_record, TopologyFault, backbone_apart, too_few, IntakeFault, SetFault, ReadFault, WriteFault, BuildFault, TablesFault, StepFault, RunFault, ReportFault}
use Rattle.rules.proofs.File.Accepted.{length_bound}
use Rattle.rules.proofs.Refusals.Refusing.{Says, read_refuses, write_refuses, tables_refuses, report_refuses, run_refuses, step_refuses, build_refuses}

pub longest_is : longest.file ≡ 9192
unfolding longest file_length row_place home_place link_place home_records row_length row_weights need
longest_is = refl

-- ---- places

module _ (h : Network) (w : WithinLimits h) where
  inside_file : (place : ℕ) → place < file_length h → place < longest.file
  inside_file place l = omega (arith, longest_is, length_bound h w)

  link_inside : (l : ℕ) → l < h.m → link_place l < longest.file
  unfolding file_length row_place home_place link_place row_length
  link_inside l p = inside_file (link_place l) within
    where
      within : link_place l < file_length h
      within = omega arith

  home_inside : (v : ℕ) → v < home_records h → home_place h v < longest.file
  unfolding file_length row_place home_place link_place row_length
  home_inside v p = inside_file (home_place h v) within
    where
      within : home_place h v < file_length h
      within = omega arith

  row_inside : (j : ℕ) → j < h.k → row_place h j < longest.file
  unfolding file_length row_place home_place link_place row_length
  row_inside j p = inside_file (row_place h j) within
    where
      within : row_place h j < file_length h
      within = omega (arith, suc-mul j (row_length h), mul-le-mul_right {m = suc j} {n = h.k} (row_length h) p)

-- ---- every row of the table

-- a number of the whole input
whole : (number : ℕ) → 1 ≤ number → number ≤ 15 → InTable number 0
whole number low high = record { low = low; high = high; inside = omega (arith, longest_is) }

record_listed : (s : List ℕ) → WithinLimits (header_of s) → (number place : ℕ) → RecordFault s number place → InTable number place
record_listed s w number place (link_mark l b f) = record { low = omega arith; high = omega arith; inside = link_inside (header_of s) w l b }
record_listed s w number place (home_mark v b f) = record { low = omega arith; high = omega arith; inside = home_inside (header_of s) w v b }
record_listed s w number place (row_mark j b f) = record { low = omega arith; high = omega arith; inside = row_inside (header_of s) w j b }
record_listed s w number place (link_ends l b f) = record { low = omega arith; high = omega arith; inside = link_inside (header_of s) w l b }
record_listed s w number place (link_weight_wrong l b f) = record { low = omega arith; high = omega arith; inside = link_inside (header_of s) w l b }
record_listed s w number place (row_weight_wrong j b f) = record { low = omega arith; high = omega arith; inside = row_inside (header_of s) w j b }
record_listed s w number place (home_wrong v b f) = record { low = omega arith; high = omega arith; inside = home_inside (header_of s) w v b }
record_listed s w number place (row_topology_wrong j b f) = record { low = omega arith; high = omega arith; inside = row_inside (header_of s) w j b }

file_listed : (s : List ℕ) (number place : ℕ) → FileFault s number place → InTable number place
file_listed s number place (under f) = whole 1 (omega arith) (omega arith)
file_listed s number place (other_length f) = whole 1 (omega arith) (omega arith)
file_listed s number place (header_mark f) = whole 2 (omega arith) (omega arith)
file_listed s number place (counts f) = whole 3 (omega arith) (omega arith)
file_listed s number place (in_record w f) = record_listed s w number place f

topology_listed : (S : Set) → S.net.k ≤ 32 → (number place : ℕ) → TopologyFault S number place → InTable number place
topology_listed S k number place (backbone_apart i one high f) = record { low = omega arith; high = omega arith; inside = omega (arith, longest_is) }
topology_listed S k number place (too_few i v one high l e f) = record { low = omega arith; high = omega arith; inside = omega (arith, longest_is) }

intake_listed : (s : List ℕ) (number place : ℕ) → IntakeFault s number place → InTable number place
intake_listed s number place (IntakeFault.file f) = file_listed s number place f
intake_listed s number place (IntakeFault.topology R f) = topology_listed (set_of s) R.limits.topologies.0 number place f

set_listed : (s : List ℕ) (number place : ℕ) → SetFault s number place → InTable number place
set_listed s number place (SetFault.intake f) = intake_listed s number place f
set_listed s number place (SetFault.graph f) = whole 13 (omega arith) (omega arith)

-- ---- the entries

-- what a verdict says lies in the table
numbered : (v : Verdict) (P : ℕ → ℕ → Type 0) → Says v P → ((number place : ℕ) → P number place → InTable number place) → Numbered v
numbered v P f g number place e = g number place (f number place e)

pub read_numbered : (s : List ℕ) (before : Lists) → Numbered (read_entry.verdict s before)
read_numbered s before = numbered _ (ReadFault s before) (read_refuses s before) listed
  where
    listed : (number place : ℕ) → ReadFault s before number place → InTable number place
    listed number place (ReadFault.intake f) = intake_listed s number place f
    listed number place (ReadFault.room f) = whole 14 (omega arith) (omega arith)

pub write_numbered : (i : WriteInput) (before : List ℕ) → Numbered (write_entry.verdict i before)
write_numbered i before = numbered _ (WriteFault i before) (write_refuses i before) listed
  where
    listed : (number place : ℕ) → WriteFault i before number place → InTable number place
    listed number place (WriteFault.counts f) = whole 3 (omega arith) (omega arith)
    listed number place (WriteFault.lists f) = whole 1 (omega arith) (omega arith)
    listed number place (WriteFault.intake f) = intake_listed _ number place f
    listed number place (WriteFault.room f) = whole 14 (omega arith) (omega arith)

pub build_numbered : (i : BuildInput) (before : List ℕ) → Numbered (build_entry.verdict i before)
build_numbered i before = numbered _ (BuildFault i before) (build_refuses i before) listed
  where
    listed : (number place : ℕ) → BuildFault i before number place → InTable number place
    listed number place (BuildFault.intake f) = intake_listed i.file number place f
    listed number place (BuildFault.set f) = whole 13 (omega arith) (omega arith)
    listed number place (BuildFault.cap f) = whole 11 (omega arith) (omega arith)
    listed number place (BuildFault.nine f) = whole 9 (omega arith) (omega arith)
    listed number place (BuildFault.ten f) = whole 10 (omega arith) (omega arith)
    listed number place (BuildFault.room f) = whole 14 (omega arith) (omega arith)

pub tables_numbered : (s before : List ℕ) → Numbered (tables_entry.verdict s before)
tables_numbered s before = numbered _ (TablesFault s before) (tables_refuses s before) listed
  where
    listed : (number place : ℕ) → TablesFault s before number place → InTable number place
    listed number place (TablesFault.set f) = set_listed s number place f
    listed number place (TablesFault.room f) = whole 14 (omega arith) (omega arith)

pub step_numbered : (i : StepInput) (before : NothingLent) → Numbered (step_entry.verdict i before)
step_numbered i before = numbered _ (StepFault i) (step_refuses i before) listed
  where
    listed : (number place : ℕ) → StepFault i number place → InTable number place
    listed number place (StepFault.file f) = file_listed i.file number place f
    listed number place (StepFault.graph f) = whole 13 (omega arith) (omega arith)
    listed number place (StepFault.range f) = whole 11 (omega arith) (omega arith)
    listed number place (StepFault.stopped f) = whole 12 (omega arith) (omega arith)
    listed number place (StepFault.room f) = whole 14 (omega arith) (omega arith)
    listed number place (StepFault.lookup f) = whole 15 (omega arith) (omega arith)

pub run_numbered : (i : RunInput) (before : RunLent) → Numbered (run_entry.verdict i before)
run_numbered i before = numbered _ (RunFault i before) (run_refuses i before) listed
  where
    listed : (number place : ℕ) → RunFault i before number place → InTable number place
    listed number place (RunFault.set f) = set_listed i.file number place f
    listed number place (RunFault.range f) = whole 11 (omega arith) (omega arith)
    listed number place (RunFault.stopped f) = whole 12 (omega arith) (omega arith)
    listed number place (RunFault.tables f) = whole 14 (omega arith) (omega arith)
    listed number place (RunFault.trail f) = whole 14 (omega arith) (omega arith)

pub report_numbered : (s before : List ℕ) → Numbered (report_entry.verdict s before)
report_numbered s before = numbered _ (ReportFault s before) (report_refuses s before) listed
  where
    listed : (number place : ℕ) → ReportFault s before number place → InTable number place
    listed number place (ReportFault.set f) = set_listed s number place f
    listed number place (ReportFault.room f) = whole 14 (omega arith) (omega arith)
