-- From the answer of the entry `tables` to that of `report`: the room for the longest tables is always enough, so both refuse the same files.
use Rattle.std.specs.Prelude.{Ok, Err}
use mathlib.Core.Path.{◌≡◌, refl, sym, ap, ap₂, subst, ◌∙◌}
use mathlib.Core.List.{List, [], ◌∷◌, ◌++◌}
use Prim.Native.Nat.{ℕ, ◌+◌, ◌≤◌}
use native.Mathlib.Nat.{zero-add}
use native.Mathlib.Omega.{arith}
use lib.ListN.{length, take}
use lib.Seq.{length-take-le}
use Rattle.rules.specs.declared.Network.{Network}
use Rattle.rules.specs.declared.Refusal.{Refusal}
use Rattle.rules.specs.Verdict.{Verdict, Accepted, Refused, number_of}
use Rattle.rules.specs.Basics.{laid}
use Rattle.rules.specs.Limits.{tables_length, report_room, longest}
use Rattle.rules.specs.File.{header_of, set_of}
use Rattle.rules.specs.Distance.{table_bytes}
use Rattle.rules.specs.Judgement.{and_then, take_set, need_room}
use Rattle.rules.specs.Report.{decimal, newline, report_text, refusal_line, printed}
use Rattle.rules.specs.Answers.{LengthAnswer, accepted, tell, length_tells, tells}
use Rattle.rules.specs.Entries.Entry.{on_accept, Promise}
use Rattle.rules.specs.Entries.Tables.{tables_entry}
use Rattle.rules.specs.Entries.Report.{report_entry}
use Rattle.rules.specs.Sets.{WithinLimits}
use Rattle.rules.proofs.Ground.Choices.{then_ok, then_no, then_first, then_second}
use Rattle.rules.proofs.Ground.Rows.{length_laid, laid_front}
use Rattle.rules.proofs.File.SetOfBytes.{net_held}
use Rattle.rules.proofs.File.TakenIn.{set_accepted}
use Rattle.rules.proofs.Entries.Answering.{tells_accepted}
use Rattle.rules.proofs.Entries.Determined.{tells_refused}
use Rattle.rules.proofs.Entries.Report.{report_fits}
use Rattle.rules.proofs.Report.TextLength.{report_fits as text_fits}
use Rattle.rules.proofs.Entries.Values.{longest_tables}
use Rattle.rules.proofs.Refusals.Needs.{room_ok, room_long}
use Rattle.rooms.specs.Rooms.{few_tables, Room}
use Rattle.rooms.proofs.Longest as figures
use Rattle.anyroom.specs.Laying.{Copied}
use Rattle.text.specs.declared.Pen.{Pen}
use Rattle.text.specs.Text.{Wrote, labelled_room}
use Rattle.text.specs.Pen.{Writes}
use Rattle.detections.specs.Detection.{Ready}
use Rattle.detections.proofs.Seens.{ready_own, nodes_least, nodes_most}
use Rattle.lines.specs.Lines.{text_room}
use Rattle.report.specs.Answer.{refusal_room, Made, Says, it, line, Printed}
use Rattle.text.proofs.Texts.{put_front, wrote_laid, writes_then}

-- ---- room for the longest tables, and for the longest report

-- the array that a report is written into, by its type
pub array_long : (text : List ℕ) → length text ≡ longest.report → longest.report ≡ length text
array_long text e = sym e

-- every refusal's line is shorter
refusal_short : refusal_room ≤ longest.report
unfolding report_room longest
refusal_short = omega arith

module _ (s : List ℕ) where
  -- room that is enough for every accepted file leaves the verdict to taking in
  only_taken : (long : ℕ) (lent : List ℕ) → (take_set s ≡ Accepted → long ≤ length lent) → and_then (take_set s) (need_room long lent) ≡ take_set s
  only_taken long lent l = go (take_set s) refl
    where
      go : (v : Verdict) → take_set s ≡ v → and_then (take_set s) (need_room long lent) ≡ take_set s
      go Accepted c = then_ok (take_set s) (need_room long lent) c ∙ room_ok long lent (l c) ∙ sym c
      go (Refused number place) c = then_no (take_set s) (need_room long lent) number place c ∙ sym c

  -- room that is enough for the tables of an accepted file
  tables_verdict : (before : List ℕ) → (take_set s ≡ Accepted → tables_length (header_of s) ≤ length before) → and_then (take_set s) (need_room (tables_length (header_of s)) before) ≡ take_set s
  tables_verdict before enough = only_taken (tables_length (header_of s)) before enough

  pub made_in : (before tables : List ℕ) (answer : LengthAnswer) → (take_set s ≡ Accepted → tables_length (header_of s) ≤ length before)
      → Promise tables_entry s before answer tables → Made s answer tables
  made_in before tables answer fit P = record { before = before; enough = fit; kept = P }

  -- the longest tables are room for all, and few for a small set
  pub all_enough : (before : List ℕ) → Room 34816 before → take_set s ≡ Accepted → tables_length (header_of s) ≤ length before
  all_enough before room c =
      let w : WithinLimits (header_of s) = rw (net_held s) at (set_accepted s c).rules.limits in
      omega (arith, room.long, longest_tables (header_of s) w, figures.longest_tables)

  pub few_enough : (h : Network) (r : ℕ) (before : List ℕ) → r ≡ tables_length h → h ≡ header_of s → r ≤ few_tables → Room few_tables before → take_set s ≡ Accepted
      → tables_length (header_of s) ≤ length before
  few_enough h r before e d l room c = subst (λ (g : Network). tables_length g ≤ length before) d (omega (arith, room.long))

  pub made_all : (before tables : List ℕ) (answer : LengthAnswer) → Room 34816 before → Promise tables_entry s before answer tables → Made s answer tables
  made_all before tables answer room P = made_in before tables answer (all_enough before room) P

  pub made_few : (h : Network) (r : ℕ) (before tables : List ℕ) (answer : LengthAnswer) → r ≡ tables_length h → h ≡ header_of s → r ≤ few_tables → Room few_tables before
      → Promise tables_entry s before answer tables → Made s answer tables
  made_few h r before tables answer e d l room P = made_in before tables answer (few_enough h r before e d l room) P

  -- room for the longest report is enough for every file
  pub report_verdict : (old : List ℕ) → longest.report ≡ length old → and_then (take_set s) (need_room (length (report_text (set_of s))) old) ≡ take_set s
  report_verdict old e = only_taken (length (report_text (set_of s))) old (λ c. omega (arith, report_fits (set_of s) (set_accepted s c)))

  -- ---- an accepted file

  pub made_ready : (answer : LengthAnswer) (tables : List ℕ) (bytes : ℕ) (net : Network) → Made s answer tables → answer ≡ Ok bytes → net ≡ header_of s → Ready s net tables
  unfolding tables_entry tells on_accept
  made_ready answer tables bytes net M e h =
      let v : and_then (take_set s) (need_room (tables_length (header_of s)) M.before) ≡ Accepted = tells_accepted _ (tables_length (header_of s) ∷ []) (bytes ∷ []) (sym (ap length_tells e) ∙ M.kept.answer) in
      let c = then_first (take_set s) (need_room (tables_length (header_of s)) M.before) v in
      let A = (set_accepted s c).rules.limits in
      record {
        accepted = c;
        header = h;
        before = M.before;
        made = M.kept.lent ∙ ap (λ (x : Verdict). on_accept x (laid (table_bytes (set_of s)) M.before) M.before) v;
        least = rw (h, ← net_held s) A.nodes.0;
        most = rw (h, ← net_held s) A.nodes.1;
      }

  pub made_taken : (answer : LengthAnswer) (tables : List ℕ) (bytes : ℕ) → Made s answer tables → answer ≡ Ok bytes → take_set s ≡ Accepted
  made_taken answer tables bytes M e = (made_ready answer tables bytes (header_of s) M e refl).accepted

  pub made_own : (answer : LengthAnswer) (tables : List ℕ) (bytes : ℕ) → Made s answer tables → answer ≡ Ok bytes → laid (table_bytes (set_of s)) tables ≡ tables
  made_own answer tables bytes M e = ready_own s tables (header_of s) (made_ready answer tables bytes (header_of s) M e refl)

  -- ---- its text into lent room

  pub fits : take_set s ≡ Accepted → length (report_text (set_of s)) ≤ report_room (header_of s)
  fits c = subst (λ (h : Network). length (report_text (set_of s)) ≤ report_room h) (net_held s) (text_fits (set_of s) (set_accepted s c))

  -- a text that was written where there is room for it
  wrote_copied : (old new : List ℕ) (r : ℕ) → length (report_text (set_of s)) ≤ length old → Wrote old 0 (report_text (set_of s)) text_room r new → Copied (report_text (set_of s)) old (Ok r) new
  unfolding tells tell on_accept
  wrote_copied old new r l w =
      let v = room_ok (length (report_text (set_of s))) old l in
      record {
        answer = rw v (ap (λ (x : ℕ). accepted (x ∷ [])) (w.on ∙ zero-add (length (report_text (set_of s)))));
        lent = rw v (wrote_laid old new (report_text (set_of s)) text_room r w l);
      }

  module _ (net : Network) (c : take_set s ≡ Accepted) (g : net ≡ header_of s) where
    pub written_whole : (old new : List ℕ) (r enough : ℕ) → enough ≡ report_room net → enough ≤ length old → Wrote old 0 (report_text (set_of s)) text_room r new → Copied (report_text (set_of s)) old (Ok r) new
    written_whole old new r enough e l w =
        let h : report_room net ≡ report_room (header_of s) = ap report_room g in
        wrote_copied old new r (omega (arith, fits c)) w

    module _ (zeros own : List ℕ) (r : ℕ) (room : Room 23867 zeros) (w : Wrote zeros 0 (report_text (set_of s)) text_room r own) where
      whole : length (report_text (set_of s)) ≤ length zeros
      whole = omega (arith, room.long, figures.longest_report, report_fits (set_of s) (set_accepted s c))

      pub apart_inside : r ≤ length own
      apart_inside = omega (arith, whole, w.on, w.long)

      pub apart_counted : r ≡ length (take r own)
      apart_counted = sym (length-take-le r own apart_inside)

      front : take r own ≡ report_text (set_of s)
      front =
          ap₂ take (w.on ∙ zero-add (length (report_text (set_of s)))) (wrote_laid zeros own (report_text (set_of s)) text_room r w whole)
          ∙ laid_front (report_text (set_of s)) zeros

      pub apart_copied : (text after : List ℕ) (x : LengthAnswer) → Copied (take r own) text x after → Copied (report_text (set_of s)) text x after
      apart_copied text after x C = subst (λ (l : List ℕ). Copied l text x after) front C

  pub reported : (answer x : LengthAnswer) (tables old new : List ℕ) (bytes : ℕ) → Made s answer tables → answer ≡ Ok bytes → Copied (report_text (set_of s)) old x new → Promise report_entry s old x new
  unfolding report_entry
  reported answer x tables old new bytes M d C =
      let c = (made_ready answer tables bytes (header_of s) M d refl).accepted in
      let v = then_ok (take_set s) (need_room (length (report_text (set_of s))) old) c in
      record { answer = C.answer ∙ rw v; lent = C.lent ∙ rw v }

  -- ---- a refused file

  pub made_refused : (answer : LengthAnswer) (tables old : List ℕ) (r : Refusal) → Made s answer tables → answer ≡ Err r → Promise report_entry s old (Err r) old
  unfolding tables_entry report_entry tells tell on_accept
  made_refused answer tables old r M e =
      let t : and_then (take_set s) (need_room (tables_length (header_of s)) M.before) ≡ Refused (number_of r.rule) r.place =
      tells_refused _ (tables_length (header_of s) ∷ []) (number_of r.rule) r.place (sym (ap length_tells e) ∙ M.kept.answer) in
      let v = then_no (take_set s) (need_room (length (report_text (set_of s))) old) (number_of r.rule) r.place (sym (tables_verdict M.before M.enough) ∙ t) in
      record { answer = rw v; lent = rw v }

-- ---- what the program prints

pub refusal_of : (old o₁ o₂ new : Pen) (number place x y : ℕ) → x ≡ y → y ≡ number → Writes old ((114 ∷ 101 ∷ 102 ∷ 117 ∷ 115 ∷ 101 ∷ 100 ∷ 32 ∷ []) ++ decimal x) labelled_room o₁
    → Writes o₁ ((32 ∷ 97 ∷ 116 ∷ 32 ∷ []) ++ decimal place) labelled_room o₂ → Writes o₂ (10 ∷ []) 1 new → Writes old (refusal_line number place) refusal_room new
unfolding refusal_line
refusal_of old o₁ o₂ new number place x y d e a b c =
    writes_then old o₁ new labelled_room (labelled_room + 1) refusal_room ((114 ∷ 101 ∷ 102 ∷ 117 ∷ 115 ∷ 101 ∷ 100 ∷ 32 ∷ []) ++ decimal number) (((32 ∷ 97 ∷ 116 ∷ 32 ∷ []) ++ decimal place) ++ newline)
    (subst (λ (y : ℕ). Writes old ((114 ∷ 101 ∷ 102 ∷ 117 ∷ 115 ∷ 101 ∷ 100 ∷ 32 ∷ []) ++ decimal y) labelled_room o₁) (d ∙ e) a)
    (writes_then o₁ o₂ new labelled_room 1 (labelled_room + 1) ((32 ∷ 97 ∷ 116 ∷ 32 ∷ []) ++ decimal place) newline b c (omega arith)) (omega arith)

module _ (s : List ℕ) where
  -- a report keeps the length of its room
  same_room : (old mid : List ℕ) (answer : LengthAnswer) → Promise report_entry s old answer mid → length mid ≡ length old
  unfolding report_entry on_accept
  same_room old mid answer P = go (and_then (take_set s) (need_room (length (report_text (set_of s))) old)) refl P.lent
    where
      go : (v : Verdict) → and_then (take_set s) (need_room (length (report_text (set_of s))) old) ≡ v → mid ≡ on_accept v (laid (report_text (set_of s)) old) old → length mid ≡ length old
      go Accepted e m =
          let r = room_long (length (report_text (set_of s))) old (then_second (take_set s) (need_room (length (report_text (set_of s))) old) e) in
          ap length m ∙ length_laid (report_text (set_of s)) old r
      go (Refused number place) e m = ap length m

  -- the bytes of an answer lie in the room
  pub report_inside : (old mid : List ℕ) (answer : LengthAnswer) (bytes : ℕ) → Promise report_entry s old answer mid → answer ≡ Ok bytes → bytes ≤ length mid
  unfolding report_entry tells tell
  report_inside old mid answer bytes P e =
      let v : and_then (take_set s) (need_room (length (report_text (set_of s))) old) ≡ Accepted = tells_accepted _ (length (report_text (set_of s)) ∷ []) (bytes ∷ []) (sym (ap length_tells e) ∙ P.answer) in
      let a : accepted (bytes ∷ []) ≡ accepted (length (report_text (set_of s)) ∷ []) = sym (ap length_tells e) ∙ P.answer ∙ ap (λ (x : Verdict). tell x (length (report_text (set_of s)) ∷ [])) v in
      let z : bytes ≡ length (report_text (set_of s)) = cc in
      let r = room_long (length (report_text (set_of s))) old (then_second (take_set s) (need_room (length (report_text (set_of s))) old) v) in
      omega (arith, same_room old mid answer P)

  pub printed_of : (old mid new : List ℕ) (answer : LengthAnswer) (r : ℕ) → Promise report_entry s old answer mid → Says answer mid r new → longest.report ≡ length mid → Printed s old r new
  unfolding report_entry tells tell on_accept printed
  printed_of old mid new answer r P (it e m) l =
      let o = l ∙ same_room old mid answer P in
      let v : and_then (take_set s) (need_room (length (report_text (set_of s))) old) ≡ Accepted = tells_accepted _ (length (report_text (set_of s)) ∷ []) (r ∷ []) (sym (ap length_tells e) ∙ P.answer) in
      let c : take_set s ≡ Accepted = sym (report_verdict s old o) ∙ v in
      let a : accepted (r ∷ []) ≡ accepted (length (report_text (set_of s)) ∷ []) = sym (ap length_tells e) ∙ P.answer ∙ ap (λ (x : Verdict). tell x (length (report_text (set_of s)) ∷ [])) v in
      let z : r ≡ length (report_text (set_of s)) = cc in
      record { is = m ∙ P.lent ∙ rw (v, c); long = z ∙ rw c; fits = omega (arith, ap length m, report_fits (set_of s) (set_accepted s c)) }
  printed_of old mid new answer r P (line refusal e w) l =
      let number : ℕ = number_of refusal.rule in
      let place : ℕ = refusal.place in
      let o = l ∙ same_room old mid answer P in
      let v : and_then (take_set s) (need_room (length (report_text (set_of s))) old) ≡ Refused number place = tells_refused _ (length (report_text (set_of s)) ∷ []) number place (sym (ap length_tells e) ∙ P.answer) in
      let c : take_set s ≡ Refused number place = sym (report_verdict s old o) ∙ v in
      let m : mid ≡ old = P.lent ∙ ap (λ (x : Verdict). on_accept x (laid (report_text (set_of s)) old) old) v in
      let z : r ≡ length (refusal_line number place) = w.on ∙ zero-add (length (refusal_line number place)) in
      record {
        is = wrote_laid mid new (refusal_line number place) refusal_room r w (omega (arith, w.few, refusal_short)) ∙ ap (laid (refusal_line number place)) m ∙ rw c;
        long = z ∙ rw c;
        fits = omega (arith, w.few, w.long, refusal_short);
      }

pub says_report : (answer : LengthAnswer) (old : List ℕ) (bytes : ℕ) → answer ≡ Ok bytes → Says answer old bytes old
says_report answer old bytes e = it e refl

pub says_refusal : (answer : LengthAnswer) (old new : List ℕ) (refusal : Refusal) (r : ℕ) → answer ≡ Err refusal → Wrote old 0 (refusal_line (number_of refusal.rule) refusal.place) refusal_room r new
    → Says answer old r new
says_refusal answer old new refusal r e w = line refusal e w

-- the whole result, and every byte of the text
pub one_print : (s old new new' : List ℕ) (r r' : ℕ) → Printed s old r new → Printed s old r' new' → (r ≡ r') × (new ≡ new')
one_print s old new new' r r' p q = (p.long ∙ sym q.long, p.is ∙ sym q.is)

-- a text that fits the lent room: what the answer then tells, and what the room then has
pub copied_tells : (bytes : ℕ) (old : List ℕ) → bytes ≤ length old → tell (need_room bytes old) (bytes ∷ []) ≡ length_tells (Ok bytes)
unfolding tells tell
copied_tells bytes old l = rw (room_ok bytes old l)

pub copied_leaves : (bytes old : List ℕ) → length bytes ≤ length old → on_accept (need_room (length bytes) old) (laid bytes old) old ≡ laid bytes old
unfolding on_accept
copied_leaves bytes old l = rw (room_ok (length bytes) old l)

-- a text that is written straight into lent room
pub ruleset straight = (fits, copied_tells, copied_leaves, put_front)

pub ruleset answers = (array_long, made_in, all_enough, few_enough, made_all, made_few, made_taken, made_own, nodes_least, nodes_most, written_whole, apart_inside, apart_counted, apart_copied, reported, made_refused, refusal_of, printed_of, says_report, says_refusal)
