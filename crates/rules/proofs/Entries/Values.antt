-- How large the values of an accepted call are: of every entry, whatever it is given and lent.
use Rattle.std.specs.Prelude.{if◌then◌else◌}
use mathlib.Core.Path.{◌≡◌, refl, sym, ◌∙◌}
use mathlib.Core.Bool.{Bool, true, false, not, ◌||◌}
use mathlib.Core.List.{List, [], ◌∷◌}
use Prim.Native.Nat.{ℕ, zero, suc, ◌+◌, ◌*◌, ◌≤◌, ◌<◌}
use native.Mathlib.Nat.{mul-le-mul}
use native.Mathlib.Omega.{arith}
use lib.Dec.{eqb}
use lib.ListN.{length}
use Rattle.rules.specs.declared.Network.{Network}
use Rattle.rules.specs.declared.Packet.{Packet}
use Rattle.rules.specs.declared.Failure.{Failure}
use Rattle.rules.specs.declared.Kind.{Kind}
use Rattle.rules.specs.declared.Kind.TheVariants as change
use Rattle.rules.specs.declared.Outcome.{Outcome}
use Rattle.rules.specs.declared.Outcome.TheVariants as ended
use Rattle.rules.specs.declared.Step.{Step}
use Rattle.rules.specs.declared.Step.TheVariants.{Delivered, Moved, Dropped}
use Rattle.rules.specs.Verdict.{Accepted}
use Rattle.rules.specs.Limits.{need_counts, file_length, tables_length, most_hops, report_room}
use Rattle.rules.specs.File.{Set, header_of, set_of}
use Rattle.rules.specs.Isolation.{neighbours, home}
use Rattle.rules.specs.Forwarding.{fault_of, up, Tables, tables_of, packet, move_or_drop, change_to, blocked, toward, step, alternate_number, change_number, toward_number, lookup_number, Run, stop, letter, onward, after_step, run, run_under}
use Rattle.rules.specs.Building.{built}
use Rattle.rules.specs.Judgement.{refuse, judge, take_in, need_set, take_set, need_packet, need_source, need_room}
use Rattle.rules.specs.Report.{report_text}
use Rattle.rules.specs.Answers.{header_values, outcome_value, packet_values, step_values}
use Rattle.rules.specs.Entries.Entry.{NothingLent}
use Rattle.rules.specs.Entries.Lists.{Lists}
use Rattle.rules.specs.Entries.Read.{read_entry}
use Rattle.rules.specs.Entries.Write.{WriteInput, write_entry}
use Rattle.rules.specs.Entries.Build.{BuildInput, built_from, build_entry}
use Rattle.rules.specs.Entries.Tables.{tables_entry}
use Rattle.rules.specs.Entries.Step.{StepInput, lookups_of, step_of, step_entry}
use Rattle.rules.specs.Entries.Run.{RunInput, RunLent, run_of, run_values, run_entry}
use Rattle.rules.specs.Entries.Report.{report_entry}
use Rattle.rules.specs.Sets.{WithinLimits, MeetsRules, AcceptedSet}
use Rattle.rules.proofs.Ground.Choices.{if_yes, if_no, need_ok, refuse_zero, then_first, then_second}
use Rattle.rules.proofs.File.SetOfBytes.{net_held}
use Rattle.rules.proofs.File.Records.{counts_ok}
use Rattle.rules.proofs.File.Accepted.{judged, length_bound}
use Rattle.rules.proofs.File.TakenIn.{taken_published, set_accepted}
use Rattle.rules.proofs.Isolation.HomesAndRows.{homes_all}
use Rattle.rules.proofs.Isolation.Links.{neighbours_below}
use Rattle.rules.proofs.Forwarding.Runs.{Within, Advance, Good, good_step, always_bounded}
use Rattle.rules.proofs.Building.BuiltAccepted.{built_accepted}
use Rattle.rules.proofs.Report.TextLength.{report_longest}
use Rattle.rules.proofs.Entries.Build.{asked}
use Rattle.rules.proofs.Refusals.Needs.{set_needed, packet_needed}

-- as many values as ranges, each below its own
unfoldable pub Below : List ℕ → List ℕ → Type 0
Below [] [] = Unit
Below [] (x ∷ values) = ⊥
Below (range ∷ ranges) [] = ⊥
Below (range ∷ ranges) (x ∷ values) = (x < range) × Below ranges values

-- a length that fits 63 bits
length_below : (bytes : ℕ) → bytes ≤ 34816 → Below (9223372036854775808 ∷ []) (bytes ∷ [])
unfolding Below
length_below bytes l = (omega arith, tt)

-- ---- read, write, build, tables, report

pub read_below : (s : List ℕ) (before : Lists) → read_entry.verdict s before ≡ Accepted → Below (256 ∷ 65536 ∷ 256 ∷ 65536 ∷ []) (read_entry.gives s before)
unfolding read_entry Below header_values
read_below s before e =
    let L = (taken_published s (then_first (take_in s) _ e)).rules.limits in
    let n : (header_of s).n ≤ 32 = rw (net_held s) at L.nodes.1 in
    let m : (header_of s).m ≤ 128 = rw (net_held s) at L.links.1 in
    let k : (header_of s).k ≤ 32 = rw (net_held s) at L.topologies.0 in
    let w : (header_of s).wmax ≤ 65535 = rw (net_held s) at L.weights.1 in
    (omega arith, (omega arith, (omega arith, (omega arith, tt))))

pub write_below : (i : WriteInput) (before : List ℕ) → write_entry.verdict i before ≡ Accepted → Below (9223372036854775808 ∷ []) (write_entry.gives i before)
unfolding write_entry
write_below i before e =
    let W = (counts_ok i.net 0 (refuse_zero (need_counts i.net 0) 0 (then_first (refuse (need_counts i.net 0) 0) _ e))).0 in
    length_below (file_length i.net) (omega (arith, length_bound i.net W))

pub build_below : (i : BuildInput) (before : List ℕ) → build_entry.verdict i before ≡ Accepted → Below (9223372036854775808 ∷ []) (build_entry.gives i before)
unfolding build_entry built_from
build_below i before e =
    let a = asked i before e in
    let R = (judged i.file a.file).rules in
    let A = built_accepted (set_of i.file) i.cap R a.cap.1 a.fit in
    length_below _ (omega (arith, length_bound (built (set_of i.file) i.cap).net A.rules.limits))

-- the longest tables
pub longest_tables : (h : Network) → WithinLimits h → tables_length h ≤ 34816
unfolding tables_length
longest_tables h w =
    let n = w.nodes.1 in
    let k = w.topologies.0 in
    let a : h.n * h.n ≤ 1024 = mul-le-mul {n₁ = h.n} {m₁ = h.n} {n₂ = 32} {m₂ = 32} n n in
    omega (arith, mul-le-mul {n₁ = h.k + 1} {m₁ = h.n * h.n} {n₂ = 33} {m₂ = 1024} (omega arith) a)

pub tables_below : (s before : List ℕ) → tables_entry.verdict s before ≡ Accepted → Below (9223372036854775808 ∷ []) (tables_entry.gives s before)
unfolding tables_entry
tables_below s before e =
    let w : WithinLimits (header_of s) = rw (net_held s) at (set_accepted s (then_first (take_set s) _ e)).rules.limits in
    length_below (tables_length (header_of s)) (longest_tables (header_of s) w)

pub report_below : (s before : List ℕ) → report_entry.verdict s before ≡ Accepted → Below (9223372036854775808 ∷ []) (report_entry.gives s before)
unfolding report_entry report_room
report_below s before e =
    length_below (length (report_text (set_of s))) (omega (arith, report_longest (set_of s) (set_accepted s (then_first (take_set s) _ e))))

-- ---- step

letter_below : (kind : Kind) → letter kind < 256
unfolding letter
letter_below change.Unchanged = omega arith
letter_below change.T = omega arith
letter_below change.S = omega arith
letter_below change.D = omega arith

outcome_below : (o : Outcome) → outcome_value o < 256
unfolding outcome_value
outcome_below ended.UnderWay = omega arith
outcome_below ended.Delivered = omega arith
outcome_below ended.Dropped = omega arith

-- a packet of bytes
record Small (p : Packet) : Type 0 where
  pub place : p.place < 256
  pub destination : p.destination < 256
  pub topology : p.topology < 256

-- a step whose values are bytes
StepBelow : Step → Type 0
StepBelow s = Below (256 ∷ 256 ∷ 256 ∷ 256 ∷ 256 ∷ []) (step_values s)

delivered_below : (p : Packet) → Small p → StepBelow (Delivered p)
unfolding StepBelow Below step_values packet_values
delivered_below p m = (omega arith, (omega arith, (m.place, (m.destination, (m.topology, tt)))))

moved_below : (p : Packet) (kind : Kind) → Small p → StepBelow (Moved p kind)
unfolding StepBelow Below step_values packet_values
moved_below p kind m = (omega arith, (letter_below kind, (m.place, (m.destination, (m.topology, tt)))))

dropped_below : (p : Packet) → Small p → StepBelow (Dropped p)
unfolding StepBelow Below step_values packet_values
dropped_below p m = (omega arith, (omega arith, (m.place, (m.destination, (m.topology, tt)))))

choose_below : (x y : Step) (b : Bool) → (b ≡ true → StepBelow x) → (b ≡ false → StepBelow y) → StepBelow (if b then x else y)
choose_below x y true f g = f refl
choose_below x y false f g = g refl

module _ (S : Set) (R : MeetsRules S) (some : 1 ≤ S.net.k) (tables : Tables) (on : ℕ → ℕ → Bool) (p : Packet) (W : Within S p) where
  small : Small p
  small =
      let n = R.limits.nodes.1 in
      let k = R.limits.topologies.0 in
      record { place = omega (arith, W.node); destination = omega (arith, W.end); topology = omega (arith, W.known) }

  home_below : (v : ℕ) → v < S.net.n → home S v < 256
  home_below v l =
      let k = R.limits.topologies.0 in
      let h = (R.homes v (omega (arith, homes_all S.net some))).1 in
      omega arith

  neighbour_small : (w j : ℕ) → neighbours S p.place w ≡ true → j < 256 → Small (packet w p.destination j)
  neighbour_small w j e l =
      let n = R.limits.nodes.1 in
      let b = (neighbours_below S R p.place w e).1 in
      record { place = omega arith; destination = small.destination; topology = l }

  move_below : (w j : ℕ) (kind : Kind) → neighbours S p.place w ≡ true → j < 256 → StepBelow (move_or_drop on p w j kind)
  unfolding move_or_drop
  move_below w j kind e l =
      choose_below _ _ (on p.place w) (λ o. moved_below (packet w p.destination j) kind (neighbour_small w j e l)) (λ o. dropped_below p small)

  change_below : (v w : ℕ) → v < S.net.n → change_number S tables p v w ≡ 0 → StepBelow (change_to S tables on p v w)
  unfolding change_to change_number alternate_number
  change_below v w l e =
      let a = need_ok (neighbours S p.place w) 14 _ e in
      choose_below _ _ (eqb w v)
      (λ t. move_below (tables.alternate p.place v) (home S p.place) change.D
      (need_ok (neighbours S p.place (tables.alternate p.place v)) 14 0 (sym (if_yes (eqb w v) _ 0 t) ∙ a.1)).0 (home_below p.place W.node))
      (λ f. move_below w (home S v) (if eqb p.destination v then change.S else change.T) a.0 (home_below v l))

  toward_below : (v : ℕ) → toward_number S tables on p v ≡ 0 → StepBelow (toward S tables on p v)
  unfolding toward blocked toward_number
  toward_below v e =
      let a = need_ok (neighbours S p.place v) 14 _ e in
      choose_below _ _ (on p.place v) (λ o. moved_below (packet v p.destination p.topology) change.Unchanged (neighbour_small v p.topology a.0 small.topology))
      (λ o. choose_below _ _ (eqb p.topology 0)
      (λ z. change_below v _ (neighbours_below S R p.place v a.0).1
      (sym (if_no (on p.place v || not (eqb p.topology 0)) 0 _ (rw (o, z))) ∙ a.1))
      (λ z. dropped_below p small))

  taken_below : lookup_number S tables on p ≡ 0 → StepBelow (step S tables on p)
  unfolding step lookup_number
  taken_below e =
      choose_below _ _ (eqb p.place p.destination) (λ t. delivered_below p small)
      (λ f. toward_below _ (sym (if_no (eqb p.place p.destination) 0 _ f) ∙ e))

packet_within : (s : List ℕ) (p : Packet) (f : Failure) → need_packet (header_of s) p f ≡ Accepted → Within (set_of s) p
unfolding set_of
packet_within s p f e = let k = packet_needed (header_of s) p f e in record { node = k.place; end = k.destination; known = k.topology }

pub step_below : (i : StepInput) (before : NothingLent) → step_entry.verdict i before ≡ Accepted → Below (256 ∷ 256 ∷ 256 ∷ 256 ∷ 256 ∷ []) (step_entry.gives i before)
unfolding step_entry step_of lookups_of StepBelow
step_below i before e =
    let R = (judged i.file (then_first (judge i.file) _ e)).rules in
    let a = then_second (judge i.file) _ e in
    let some : 1 ≤ (set_of i.file).net.k = rw (net_held i.file) (set_needed (header_of i.file) (then_first (need_set (header_of i.file)) _ a)) in
    let b = then_second (need_set (header_of i.file)) _ a in
    let W = packet_within i.file i.packet i.failure (then_first (need_packet (header_of i.file) i.packet i.failure) _ b) in
    let c = then_second (need_packet (header_of i.file) i.packet i.failure) _ b in
    let d = then_second (need_room (tables_length (header_of i.file)) i.tables) _ (then_second (need_source i.packet.place i.failure) _ c) in
    taken_below (set_of i.file) R some _ _ i.packet W (refuse_zero _ 0 d)

-- ---- run

module _ (S : Set) (A : AcceptedSet S) (on : ℕ → ℕ → Bool) where
  after_known : (p : Packet) (W : Within S p) (s : Step) (moved : Packet → Kind → Run) → Good S A on p W s
      → ((q : Packet) (kind : Kind) → Advance S on p q kind → (moved q kind).topology ≤ S.net.k) → (after_step s moved).topology ≤ S.net.k
  unfolding after_step stop
  after_known p W (Delivered q) moved g h = rw g.0 W.known
  after_known p W (Dropped q) moved g h = rw g W.known
  after_known p W (Moved q kind) moved g h = h q kind g

  -- the last topology of a run is one of the set's
  run_known : (h : ℕ) (p : Packet) → Within S p → (run S (tables_of S) on h p).topology ≤ S.net.k
  unfolding run stop onward
  run_known zero p W = after_known p W (step S (tables_of S) on p) _ (good_step S A on p W) (λ q kind a. W.known)
  run_known (suc h) p W = after_known p W (step S (tables_of S) on p) _ (good_step S A on p W) (λ q kind a. run_known h q a.within)

pub run_below : (i : RunInput) (before : RunLent) → run_entry.verdict i before ≡ Accepted → Below (256 ∷ 256 ∷ 256 ∷ 256 ∷ []) (run_entry.gives i before)
unfolding run_entry run_of run_under run_values most_hops Below
run_below i before e =
    let S : Set = set_of i.file in
    let A = set_accepted i.file (then_first (take_set i.file) _ e) in
    let a = then_second (take_set i.file) _ e in
    let W = packet_within i.file (packet i.source i.destination 0) i.failure (then_first (need_packet (header_of i.file) (packet i.source i.destination 0) i.failure) _ a) in
    let on = up S (fault_of i.failure) in
    let n = A.rules.limits.nodes.1 in
    let k = A.rules.limits.topologies.0 in
    let few = (always_bounded S A on i.source i.destination W.node W.end).few in
    let known = run_known S A on (most_hops S.net) (packet i.source i.destination 0) W in
    (outcome_below _, (omega arith, (omega arith, (letter_below _, tt))))
