-- Demand 1: what an accepted call leaves in lent room is as long as the room was.
use mathlib.Core.Path.{◌≡◌, ap, ap₂}
use mathlib.Core.List.{List, [], ◌∷◌}
use Prim.Native.Nat.{ℕ, ◌≤◌, ◌<◌}
use native.Mathlib.Omega.{arith}
use lib.ListN.{length}
use Rattle.rules.specs.Verdict.{Accepted}
use Rattle.rules.specs.Basics.{laid}
use Rattle.rules.specs.Limits.{file_length, tables_length, most_hops, trail_room}
use Rattle.rules.specs.File.{Set, encode, header_of, set_of}
use Rattle.rules.specs.Distance.{table_bytes}
use Rattle.rules.specs.Forwarding.{fault_of, up, hops, trail, run_under}
use Rattle.rules.specs.Judgement.{take_set}
use Rattle.rules.specs.Report.{report_text}
use Rattle.rules.specs.Entries.Lists.{Lists}
use Rattle.rules.specs.Entries.Read.{lists_with, read_entry}
use Rattle.rules.specs.Entries.Write.{WriteInput, set_with, write_entry}
use Rattle.rules.specs.Entries.Build.{BuildInput, built_from, build_entry}
use Rattle.rules.specs.Entries.Tables.{tables_entry}
use Rattle.rules.specs.Entries.Run.{RunInput, RunLent, run_of, run_entry}
use Rattle.rules.specs.Entries.Report.{report_entry}
use Rattle.rules.specs.Demands.One.{its_length, list_lengths, run_lengths}
use Rattle.rules.proofs.Ground.Choices.{then_first, then_second}
use Rattle.rules.proofs.Ground.Rows.{length_laid}
use Rattle.rules.proofs.File.Encoded.{encode_long}
use Rattle.rules.proofs.File.SetOfBytes.{a_long, b_long, weights_long, homes_long, rows_long}
use Rattle.rules.proofs.File.TakenIn.{set_accepted}
use Rattle.rules.proofs.Forwarding.Runs.{always_bounded}
use Rattle.rules.proofs.Forwarding.LentTables.{bytes_long}
use Rattle.rules.proofs.Refusals.Needs.{lists_long, room_long, packet_needed}

-- room that is long enough keeps its length
laid_long : (new old : List ℕ) (count : ℕ) → length new ≡ count → count ≤ length old → length (laid new old) ≡ length old
laid_long new old count e h = length_laid new old (omega arith)

-- the same of a file, by its counts
file_kept : (S : Set) (room : List ℕ) → file_length S.net ≤ length room → its_length (laid (encode S) room) ≡ its_length room
file_kept S room h = ap (λ (x : ℕ). x ∷ []) (laid_long (encode S) room (file_length S.net) (encode_long S) h)

tables_kept_by : (s room : List ℕ) → tables_length (header_of s) ≤ length room → length (laid (table_bytes (set_of s)) room) ≡ length room
unfolding set_of
tables_kept_by s room h = laid_long (table_bytes (set_of s)) room (tables_length (header_of s)) (bytes_long (set_of s)) h

pub read_kept : (s : List ℕ) (d : Lists) → read_entry.verdict s d ≡ Accepted → list_lengths (read_entry.leaves s d) ≡ list_lengths d
unfolding read_entry lists_with
read_kept s d e =
    let l = lists_long 13 (header_of s) d (then_second _ _ e) in
    let a = laid_long (set_of s).a d.a _ (a_long s) l.a in
    let b = laid_long (set_of s).b d.b _ (b_long s) l.b in
    let w = laid_long (set_of s).weights d.weights _ (weights_long s) l.weights in
    let h = laid_long (set_of s).homes d.homes _ (homes_long s) l.homes in
    let r = laid_long (set_of s).rows d.rows _ (rows_long s) l.rows in
    λ i. a i ∷ b i ∷ w i ∷ h i ∷ r i ∷ []

pub write_kept : (i : WriteInput) (room : List ℕ) → write_entry.verdict i room ≡ Accepted → its_length (write_entry.leaves i room) ≡ its_length room
unfolding write_entry set_with
write_kept i room e = file_kept (set_with i.net i.lists) room (room_long (file_length i.net) room (then_second _ _ (then_second _ _ (then_second _ _ e))))

pub build_kept : (i : BuildInput) (room : List ℕ) → build_entry.verdict i room ≡ Accepted → its_length (build_entry.leaves i room) ≡ its_length room
unfolding build_entry
build_kept i room e = file_kept (built_from i) room (room_long (file_length (built_from i).net) room (then_second _ _ (then_second _ _ (then_second _ _ (then_second _ _ e)))))

pub tables_kept : (s room : List ℕ) → tables_entry.verdict s room ≡ Accepted → its_length (tables_entry.leaves s room) ≡ its_length room
unfolding tables_entry
tables_kept s room e = ap (λ (x : ℕ). x ∷ []) (tables_kept_by s room (room_long (tables_length (header_of s)) room (then_second _ _ e)))

pub report_kept : (s room : List ℕ) → report_entry.verdict s room ≡ Accepted → its_length (report_entry.leaves s room) ≡ its_length room
unfolding report_entry
report_kept s room e = ap (λ (x : ℕ). x ∷ []) (length_laid (report_text (set_of s)) room (room_long (length (report_text (set_of s))) room (then_second _ _ e)))

-- a run visits at most 2n - 2 nodes
trail_few : (i : RunInput) → take_set i.file ≡ Accepted → i.source < (header_of i.file).n → i.destination < (header_of i.file).n
    → length (trail i.source (run_of i)) ≤ trail_room (header_of i.file)
unfolding set_of run_of run_under trail hops most_hops trail_room
trail_few i e u t =
    let A = set_accepted i.file e in
    let b = (always_bounded (set_of i.file) A (up (set_of i.file) (fault_of i.failure)) i.source i.destination u t).few in
    let n = A.rules.limits.nodes.0 in
    omega arith

pub run_kept : (i : RunInput) (d : RunLent) → run_entry.verdict i d ≡ Accepted → run_lengths (run_entry.leaves i d) ≡ run_lengths d
unfolding run_entry
run_kept i d e =
    let packet = then_second _ _ e in
    let known = packet_needed (header_of i.file) _ i.failure (then_first _ _ packet) in
    let room = then_second _ _ (then_second _ _ packet) in
    let few = trail_few i (then_first _ _ e) known.place known.destination in
    let long = room_long (trail_room (header_of i.file)) d.trail (then_second _ _ room) in
    ap₂ (λ (x y : ℕ). x ∷ y ∷ [])
    (tables_kept_by i.file d.tables (room_long (tables_length (header_of i.file)) d.tables (then_first _ _ room)))
    (length_laid (trail i.source (run_of i)) d.trail (omega arith))
