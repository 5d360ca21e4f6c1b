-- What each needed test asks, as a proposition: lists and room, 13, 11 and 12. Each law both ways.
use Rattle.std.specs.Prelude.{if◌then◌else◌}
use mathlib.Core.Path.{◌≡◌, refl, sym}
use mathlib.Core.Bool.{Bool, true, false}
use mathlib.Core.List.{List}
use Prim.Native.Nat.{ℕ, suc, ◌≤◌}
use native.Mathlib.Omega.{arith}
use lib.Dec.{eqb, leb}
use lib.ListN.{length}
use borrow.Author.Tests.{leb-true, le-leb, ltb-true, eqb-true, eqb-false, ne_eqb}
use Rattle.rules.specs.declared.Network.{Network}
use Rattle.rules.specs.declared.Packet.{Packet}
use Rattle.rules.specs.declared.Failure.{Failure}
use Rattle.rules.specs.declared.Failure.TheVariants.{Nothing, Link, Node}
use Rattle.rules.specs.Verdict.{Accepted}
use Rattle.rules.specs.Basics.{need}
use Rattle.rules.specs.Forwarding.{fault_of, failed}
use Rattle.rules.specs.Judgement.{need_set, need_graph, need_failure, need_packet, need_cap, source_number, need_source, need_room}
use Rattle.rules.specs.Entries.Lists.{Lists, need_lists, LongLists}
use Rattle.rules.specs.Demands.Step.{InRange, Standing}
use Rattle.rules.specs.Refusals.{Known}
use Rattle.rules.proofs.Ground.Choices.{need_yes, need_lt, need_le, need_ok, refuse_ok, refuse_zero, numbers}

-- ---- lists and room

pub lists_long : (number : ℕ) (h : Network) (d : Lists) → need_lists (suc number) h d ≡ Accepted → LongLists h d
unfolding need_lists
lists_long number h d e =
    let p1 = need_ok _ _ _ (refuse_zero _ 0 e) in
    let p2 = need_ok _ _ _ p1.1 in
    let p3 = need_ok _ _ _ p2.1 in
    let p4 = need_ok _ _ _ p3.1 in
    let p5 = need_ok _ _ _ p4.1 in
    record {
      a = leb-true _ _ p1.0;
      b = leb-true _ _ p2.0;
      weights = leb-true _ _ p3.0;
      homes = leb-true _ _ p4.0;
      rows = leb-true _ _ p5.0;
    }

pub long_lists : (number : ℕ) (h : Network) (d : Lists) → LongLists h d → need_lists number h d ≡ Accepted
unfolding need_lists
long_lists number h d l =
    let p = l.a in
    let q = l.b in
    let w = l.weights in
    let v = l.homes in
    let r = l.rows in
    sym (refuse_ok _ 0 (sym (search numbers depth 14)))

pub room_ok : (bytes : ℕ) (file : List ℕ) → bytes ≤ length file → need_room bytes file ≡ Accepted
unfolding need_room
room_ok bytes file h = sym (refuse_ok _ 0 (sym (search numbers depth 14)))

pub room_long : (bytes : ℕ) (file : List ℕ) → need_room bytes file ≡ Accepted → bytes ≤ length file
unfolding need_room
room_long bytes file e = leb-true bytes (length file) (need_ok (leb bytes (length file)) 13 0 (refuse_zero _ 0 e)).0

-- ---- 13

pub set_needed : (h : Network) → need_set h ≡ Accepted → 1 ≤ h.k
unfolding need_set
set_needed h e = leb-true 1 h.k (need_ok (leb 1 h.k) 12 0 (refuse_zero (need (leb 1 h.k) 13 0) 0 e)).0

pub set_given : (h : Network) → 1 ≤ h.k → need_set h ≡ Accepted
unfolding need_set
set_given h l = sym (refuse_ok (need (leb 1 h.k) 13 0) 0 (sym (need_yes (leb 1 h.k) 13 0 0 (le-leb 1 h.k l) refl)))

pub graph_needed : (h : Network) → need_graph h ≡ Accepted → h.k ≡ 0
unfolding need_graph
graph_needed h e = eqb-true h.k 0 (need_ok (eqb h.k 0) 12 0 (refuse_zero _ 0 e)).0

pub graph_given : (h : Network) → h.k ≡ 0 → need_graph h ≡ Accepted
unfolding need_graph
graph_given h e = sym (refuse_ok _ 0 (sym (search numbers depth 14)))

-- ---- 11

pub cap_needed : (cap : ℕ) → need_cap cap ≡ Accepted → (1 ≤ cap) × (cap ≤ 32)
unfolding need_cap
cap_needed cap e =
    let p1 = need_ok _ _ _ (refuse_zero _ 0 e) in
    let p2 = need_ok _ _ _ p1.1 in
    (leb-true 1 cap p1.0, leb-true cap 32 p2.0)

pub cap_given : (cap : ℕ) → 1 ≤ cap → cap ≤ 32 → need_cap cap ≡ Accepted
unfolding need_cap
cap_given cap l h = sym (refuse_ok _ 0 (sym (search numbers depth 14)))

in_range : (h : Network) (f : Failure) → need_failure h f 0 ≡ 0 → InRange h f
unfolding need_failure
in_range h Nothing e = tt
in_range h (Link l) e = ltb-true l h.m (need_ok _ _ _ e).0
in_range h (Node v) e = ltb-true v h.n (need_ok _ _ _ e).0

range_in : (h : Network) (f : Failure) → InRange h f → 0 ≡ need_failure h f 0
unfolding need_failure
range_in h Nothing l = refl
range_in h (Link x) l = need_lt x h.m 11 0 0 l refl
range_in h (Node v) l = need_lt v h.n 11 0 0 l refl

pub packet_needed : (h : Network) (p : Packet) (f : Failure) → need_packet h p f ≡ Accepted → Known h p f
unfolding need_packet
packet_needed h p f e =
    let p1 = need_ok _ _ _ (refuse_zero _ 0 e) in
    let p2 = need_ok _ _ _ p1.1 in
    let p3 = need_ok _ _ _ p2.1 in
    record { place = ltb-true _ _ p1.0; destination = ltb-true _ _ p2.0; topology = leb-true _ _ p3.0; failure = in_range h f p3.1 }

pub packet_given : (h : Network) (p : Packet) (f : Failure) → Known h p f → need_packet h p f ≡ Accepted
unfolding need_packet
packet_given h p f k =
    sym (refuse_ok _ 0
    (sym (need_lt p.place h.n 11 _ 0 k.place
    (need_lt p.destination h.n 11 _ 0 k.destination
    (need_le p.topology h.k 11 _ 0 k.topology (range_in h f k.failure))))))

-- ---- 12

not_twelve : (t : Bool) → ◌≡◌ {A = ℕ} (if t then 12 else 0) 0 → t ≡ false
not_twelve true e = absurd (omega arith)
not_twelve false e = refl

stands : (u : ℕ) (f : Failure) → source_number u f ≡ 0 → Standing u f
unfolding source_number
stands u Nothing e = tt
stands u (Link l) e = tt
stands u (Node v) e = eqb-false v u (not_twelve (eqb v u) e)

stands_up : (u : ℕ) (f : Failure) → Standing u f → source_number u f ≡ 0
unfolding source_number
stands_up u Nothing s = refl
stands_up u (Link l) s = refl
stands_up u (Node v) s = rw (ne_eqb v u s)

pub source_needed : (u : ℕ) (f : Failure) → need_source u f ≡ Accepted → Standing u f
unfolding need_source
source_needed u f e = stands u f (refuse_zero (source_number u f) 0 e)

pub source_given : (u : ℕ) (f : Failure) → Standing u f → need_source u f ≡ Accepted
unfolding need_source
source_given u f s = sym (refuse_ok (source_number u f) 0 (stands_up u f s))

-- a node that is not the failed one is up
pub standing_up : (u : ℕ) (f : Failure) → Standing u f → failed (fault_of f) u ≡ false
unfolding failed fault_of
standing_up u Nothing s = refl
standing_up u (Link l) s = refl
standing_up u (Node v) s = ne_eqb v u s
