-- The entry `run`.
use Rattle.std.specs.Prelude.{Ok, Err}
use mathlib.Core.Path.{◌≡◌, refl, sym, ap, ap₂, ◌∙◌}
use mathlib.Core.List.{List, ◌++◌}
use Prim.Native.Nat.{ℕ, ◌≤◌, ◌<◌}
use native.Mathlib.Omega.{arith}
use lib.Dec.{leb}
use lib.ListN.{length, take, drop}
use lib.Seq.{length-take-le}
use borrow.Author.Tests.{leb-true, ltb-true}
use Rattle.rules.specs.declared.Network.{Network}
use Rattle.rules.specs.declared.Refusal.{Refusal}
use Rattle.rules.specs.declared.Packet.{Packet}
use Rattle.rules.specs.declared.Failure.{Failure}
use Rattle.rules.specs.declared.Journey.{Journey}
use Rattle.rules.specs.Verdict.{Verdict, Accepted, Refused, number_of}
use Rattle.rules.specs.Basics.{need, laid}
use Rattle.rules.specs.Limits.{tables_length, most_hops, trail_room}
use Rattle.rules.specs.File.{header_of, set_of}
use Rattle.rules.specs.Distance.{table_bytes}
use Rattle.rules.specs.Forwarding.{fault_of, tables_of, lent_tables, packet, Run, trail, run, run_under}
use Rattle.rules.specs.Judgement.{judge, refuse, and_then, take_set, need_packet, need_source, need_room}
use Rattle.rules.specs.Answers.{accepted, tell, tells, journey_values}
use Rattle.rules.specs.Entries.Entry.{on_accept}
use Rattle.rules.specs.Entries.Run.{RunLent, run_of, run_values, run_entry}
use Rattle.rules.specs.Sets.{WithinLimits}
use Rattle.rules.proofs.Ground.Choices.{need_ok, refuse_zero, then_first, then_second}
use Rattle.rules.proofs.Ground.Rows.{prefix_long}
use Rattle.rules.proofs.File.SetOfBytes.{net_held}
use Rattle.rules.proofs.File.TakenIn.{set_file, set_accepted}
use Rattle.rules.proofs.Forwarding.Runs.{Within}
use Rattle.rules.proofs.Forwarding.LentTables.{bytes_long, lent_agree, run_same}
use Rattle.linkstate.specs.Links.{on}
use Rattle.travel.specs.Trip.{run_at, journey_of, RunsAs}
use Rattle.forwarding.specs.Runs.{run_input, run_lent, run_verdict, Ready, Ran}

-- ---- the run by a set's own tables

limits : (s : List ℕ) → take_set s ≡ Accepted → WithinLimits (header_of s)
limits s c = rw (← net_held s) (set_accepted s c).rules.limits

module _ (s : List ℕ) (start : Packet) (tables nodes : List ℕ) (R : Ready s start tables nodes) where
  within : Within (set_of s) start
  within = record { node = rw (net_held s) R.node; end = rw (net_held s) R.end; known = omega (arith, R.first) }

  -- by bytes that begin with the set's tables
  made : (f : Failure) → run_at s (laid (table_bytes (set_of s)) tables) f (most_hops (header_of s)) start ≡ run_under (set_of s) (fault_of f) start.place start.destination
  unfolding run_at run_under
  made f =
      let e : start ≡ packet start.place start.destination 0 = λ i. record { place = start.place; destination = start.destination; topology = R.first i } in
      ap (λ (h : Network). run (set_of s) (lent_tables h (laid (table_bytes (set_of s)) tables)) (on s f) (most_hops h) start) (sym (net_held s))
      ∙ run_same (set_of s) (set_accepted s R.set) (on s f) (lent_tables (set_of s).net (laid (table_bytes (set_of s)) tables)) (lent_agree (set_of s) tables) (most_hops (set_of s).net) start within
      ∙ ap (run (set_of s) (tables_of (set_of s)) (on s f) (most_hops (set_of s).net)) e

pub nodes_low : (s : List ℕ) (start : Packet) (tables nodes : List ℕ) (h : Network) → h ≡ header_of s → Ready s start tables nodes → 3 ≤ h.n
nodes_low s start tables nodes h n R = rw n (limits s R.set).nodes.0

pub nodes_high : (s : List ℕ) (start : Packet) (tables nodes : List ℕ) (h : Network) → h ≡ header_of s → Ready s start tables nodes → h.n ≤ 32
nodes_high s start tables nodes h n R = rw n (limits s R.set).nodes.1

pub tables_fit : (s : List ℕ) (start : Packet) (tables nodes : List ℕ) (h : Network) (bytes : ℕ) → bytes ≡ tables_length h → h ≡ header_of s → Ready s start tables nodes → bytes ≤ length tables
tables_fit s start tables nodes h bytes e n R = rw (e, n) R.long

pub tables_part : (s : List ℕ) (start : Packet) (tables nodes : List ℕ) (h : Network) (bytes : ℕ) → bytes ≡ tables_length h → h ≡ header_of s → Ready s start tables nodes → length (take bytes tables) ≡ tables_length h
tables_part s start tables nodes h bytes e n R = length-take-le bytes tables (tables_fit s start tables nodes h bytes e n R) ∙ e

pub run_judged : (s : List ℕ) (start : Packet) (tables nodes : List ℕ) → Ready s start tables nodes → judge s ≡ Accepted
run_judged s start tables nodes R = set_file s R.set

pub is_set : (s : List ℕ) (start : Packet) (tables nodes : List ℕ) → Ready s start tables nodes → take_set s ≡ Accepted
is_set s start tables nodes R = R.set

pub trail_fits : (s : List ℕ) (start : Packet) (tables nodes : List ℕ) (h : Network) (most : ℕ) → most ≡ most_hops h → h ≡ header_of s → Ready s start tables nodes → most < length nodes
unfolding most_hops trail_room
trail_fits s start tables nodes h most e n R =
    let l = (limits s R.set).nodes.0 in
    rw (e, n) (omega (arith, R.room))

pub run_made : (s : List ℕ) (start : Packet) (tables nodes t nodes' : List ℕ) (h : Network) (bytes most : ℕ) (f : Failure) (j : Journey) → h ≡ header_of s → bytes ≡ tables_length h → most ≡ most_hops h → Ready s start tables nodes
    → t ≡ table_bytes (set_of s) → RunsAs s (t ++ drop bytes tables) f start most nodes j nodes' → Ran s start f (run_lent tables nodes) j (run_lent (t ++ drop bytes tables) nodes')
unfolding laid
run_made s start tables nodes t nodes' h bytes most f j n b m R g G =
    let l : bytes ≡ length (table_bytes (set_of s)) = b ∙ ap tables_length (n ∙ sym (net_held s)) ∙ sym (bytes_long (set_of s)) in
    let d : t ++ drop bytes tables ≡ laid (table_bytes (set_of s)) tables = ap₂ (λ (x : List ℕ) (y : ℕ). x ++ drop y tables) g l in
    let r : run_at s (t ++ drop bytes tables) f most start ≡ run_under (set_of s) (fault_of f) start.place start.destination =
    ap₂ (λ (x : List ℕ) (y : ℕ). run_at s x f y start) d (m ∙ ap most_hops n) ∙ made s start tables nodes R f
    in
    record {
      answer = G.answer ∙ ap journey_of r;
      tables = d;
      trail = G.written ∙ ap (λ (x : Run). laid (trail start.place x) nodes) r;
    }

-- ---- the verdict

-- what is asked of a file's network, by its header
module _ (s : List ℕ) (h : Network) (n : h ≡ header_of s) where
  pub packet_asked : (p : Packet) (f : Failure) (v : Verdict) → v ≡ need_packet h p f → v ≡ need_packet (header_of s) p f
  packet_asked p f v e = e ∙ ap (λ (k : Network). need_packet k p f) n

  pub tables_asked : (room long : ℕ) (v : Verdict) → long ≡ tables_length h → v ≡ refuse (need (leb long room) 14 0) 0
      → v ≡ refuse (need (leb (tables_length (header_of s)) room) 14 0) 0
  tables_asked room long v d e = e ∙ ap (λ (k : ℕ). refuse (need (leb k room) 14 0) 0) (d ∙ ap tables_length n)

  pub trail_asked : (room long : ℕ) (v : Verdict) → long ≡ trail_room h → v ≡ refuse (need (leb long room) 14 0) 0
      → v ≡ refuse (need (leb (trail_room (header_of s)) room) 14 0) 0
  trail_asked room long v d e = e ∙ ap (λ (k : ℕ). refuse (need (leb k room) 14 0) 0) (d ∙ ap trail_room n)

pub ruleset of_header = (packet_asked, tables_asked, trail_asked)

module _ (s : List ℕ) (u t : ℕ) (f : Failure) (tables nodes : List ℕ) where
  verdict_same : run_entry.verdict (run_input s u t f) (run_lent tables nodes) ≡ run_verdict (run_input s u t f) (length tables) (length nodes)
  unfolding run_entry run_verdict need_room
  verdict_same = refl

  pub run_ready : Accepted ≡ run_verdict (run_input s u t f) (length tables) (length nodes) → Ready s (packet u t 0) tables nodes
  unfolding run_verdict need_packet
  run_ready d =
      let z : run_verdict (run_input s u t f) (length tables) (length nodes) ≡ Accepted = sym d in
      let r1 = then_second (take_set s) _ z in
      let p1 = need_ok _ _ _ (refuse_zero _ 0 (then_first _ _ r1)) in
      let p2 = need_ok _ _ _ p1.1 in
      let r2 = then_second _ _ (then_second _ _ r1) in
      record {
        set = then_first (take_set s) _ z;
        node = ltb-true _ _ p1.0;
        end = ltb-true _ _ p2.0;
        first = refl;
        long = leb-true _ _ (need_ok _ _ _ (refuse_zero _ 0 (then_first _ _ r2))).0;
        room = leb-true _ _ (need_ok _ _ _ (refuse_zero _ 0 (then_second _ _ r2))).0;
      }

  pub run_told : (j : Journey) (after : RunLent) → Accepted ≡ run_verdict (run_input s u t f) (length tables) (length nodes) → Ran s (packet u t 0) f (run_lent tables nodes) j after
      → run_entry.tells (Ok j) ≡ tell (run_entry.verdict (run_input s u t f) (run_lent tables nodes)) (run_entry.gives (run_input s u t f) (run_lent tables nodes))
  unfolding run_entry tells run_of run_values journey_values journey_of tell
  run_told j after d R =
      ap (λ (x : Journey). accepted (journey_values x)) R.answer
      ∙ ap (λ (v : Verdict). tell v (run_entry.gives (run_input s u t f) (run_lent tables nodes))) (d ∙ sym verdict_same)

  pub run_left : (j : Journey) (after : RunLent) → Accepted ≡ run_verdict (run_input s u t f) (length tables) (length nodes) → Ran s (packet u t 0) f (run_lent tables nodes) j after
      → after ≡ on_accept (run_entry.verdict (run_input s u t f) (run_lent tables nodes)) (run_entry.leaves (run_input s u t f) (run_lent tables nodes)) (run_lent tables nodes)
  unfolding run_entry run_of on_accept
  run_left j after d R =
      (λ i. record { tables = R.tables i; trail = R.trail i })
      ∙ ap (λ (v : Verdict). on_accept v (run_entry.leaves (run_input s u t f) (run_lent tables nodes)) (run_lent tables nodes)) (d ∙ sym verdict_same)

  pub refusal_told : (r : Refusal) → Refused (number_of r.rule) r.place ≡ run_verdict (run_input s u t f) (length tables) (length nodes)
      → run_entry.tells (Err r) ≡ tell (run_entry.verdict (run_input s u t f) (run_lent tables nodes)) (run_entry.gives (run_input s u t f) (run_lent tables nodes))
  unfolding run_entry tells tell
  refusal_told r e = ap (λ (v : Verdict). tell v (run_entry.gives (run_input s u t f) (run_lent tables nodes))) (e ∙ sym verdict_same)

  pub refusal_left : (number place : ℕ) → Refused number place ≡ run_verdict (run_input s u t f) (length tables) (length nodes)
      → run_lent tables nodes ≡ on_accept (run_entry.verdict (run_input s u t f) (run_lent tables nodes)) (run_entry.leaves (run_input s u t f) (run_lent tables nodes)) (run_lent tables nodes)
  unfolding on_accept
  refusal_left number place e =
      ap (λ (v : Verdict). on_accept v (run_entry.leaves (run_input s u t f) (run_lent tables nodes)) (run_lent tables nodes)) (e ∙ sym verdict_same)

-- two results that the promise allows coincide: the whole answer, and every byte of tables and trail
pub one_journey : (s : List ℕ) (start : Packet) (f : Failure) (before after after' : RunLent) (r r' : Journey)
    → Ran s start f before r after → Ran s start f before r' after' → (r ≡ r') × (after ≡ after')
one_journey s start f before after after' r r' p q =
    (p.answer ∙ sym q.answer, ap₂ run_lent (p.tables ∙ sym q.tables) (p.trail ∙ sym q.trail))

pub ruleset answering = (run_ready, run_told, run_left, refusal_told, refusal_left)

pub ruleset running = (nodes_low, nodes_high, prefix_long, tables_fit, tables_part, run_judged, is_set, trail_fits, run_made)
