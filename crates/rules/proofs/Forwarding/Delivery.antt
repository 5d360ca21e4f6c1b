-- Demand 3: under one failed link, or failed nodes that share one home, a packet whose source and destination are up is delivered; one for a failed node is dropped.
use mathlib.Core.Path.{◌≡◌, refl, sym, ap, ◌∙◌}
use mathlib.Core.Logic.{◌⊎◌, inl, inr}
use mathlib.Core.Bool.{Bool, true, false, ◌||◌, true≢false, false≢true}
use mathlib.Core.List.{List, [], ◌∷◌}
use Prim.Native.Nat.{ℕ, zero, suc, ◌≤◌, ◌<◌}
use native.Mathlib.Omega.{arith}
use lib.Dec.{eqb}
use lib.ListN.{get_or}
use borrow.Author.Tests.{eqb-true, eqb-false, not-true, not-false}
use Rattle.rules.specs.declared.Packet.{Packet}
use Rattle.rules.specs.declared.Kind.{Kind}
use Rattle.rules.specs.declared.Step.{Step}
use Rattle.rules.specs.declared.Step.TheVariants.{Delivered, Moved, Dropped}
use Rattle.rules.specs.declared.Outcome.{Outcome}
use Rattle.rules.specs.declared.Outcome.TheVariants as ended
use Rattle.rules.specs.Limits.{most_hops}
use Rattle.rules.specs.File.{Set}
use Rattle.rules.specs.Isolation.{link_between, neighbours, home}
use Rattle.rules.specs.Distance.{distance, next_hop, alternate}
use Rattle.rules.specs.Forwarding.{Fault, nothing, link, nodes, failed, up, tables_of, packet, step, Run, stop, onward, after_step, run, run_under}
use Rattle.rules.specs.Sets.{AcceptedSet}
use Rattle.rules.specs.Demands.Delivery.{Tolerated, EachHop, last, Delivery, LostWithNode}
use Rattle.rules.proofs.Ground.Choices.{clash, true_of}
use Rattle.rules.proofs.Isolation.Links.{Ends, one_end, link_ends}
use Rattle.rules.proofs.Isolation.Homes.{home_low, home_high}
use Rattle.rules.proofs.Forwarding.Routing.{usable_neighbours, next_nearer, isolated_last, last_hop, two_homes, alternate_other}
use Rattle.rules.proofs.Forwarding.Steps.{Onto, Detects, View, there, plain, stuck, other, other_down, around, around_down, view}
use Rattle.rules.proofs.Forwarding.Runs.{hops_left, Within, Advance, start_few, next_of, other_of, around_of, Good, good_step, starts, whole_trip, always_bounded}

-- ---- what no step breaks, and under which none is dropped

abbrev pub Kept : (Packet → Type 0) → Step → Type 0
Kept K (Delivered q) = Unit {0}
Kept K (Moved q kind) = K q
Kept K (Dropped q) = ⊥

module _ (S : Set) (A : AcceptedSet S) (on : ℕ → ℕ → Bool) (K : Packet → Type 0)
    (keep : (p : Packet) → Within S p → K p → (s : Step) → View S on p s → Kept K s) where
  kept_after : (p : Packet) (W : Within S p) (s : Step) (moved : Packet → Kind → Run) → Good S A on p W s → Kept K s
      → ((q : Packet) (kind : Kind) → Advance S on p q kind → K q → (moved q kind).outcome ≡ ended.Delivered)
      → (after_step s moved).outcome ≡ ended.Delivered
  unfolding after_step stop
  kept_after p W (Delivered q) moved g k h = refl
  kept_after p W (Moved q kind) moved g k h = h q kind g k
  kept_after p W (Dropped q) moved g k h = absurd k

  pub arrives : (h : ℕ) (p : Packet) → Within S p → K p → hops_left S p.destination p.topology p.place ≤ h
      → (run S (tables_of S) on h p).outcome ≡ ended.Delivered
  unfolding run onward
  arrives zero p W k few =
      kept_after p W (step S (tables_of S) on p) (λ q kind. stop p ended.UnderWay) (good_step S A on p W) (keep p W k (step S (tables_of S) on p) (view S on p))
      (λ q kind a kq. absurd (omega (arith, a.less)))
  arrives (suc h) p W k few =
      kept_after p W (step S (tables_of S) on p) (λ q kind. onward q.place kind (run S (tables_of S) on h q)) (good_step S A on p W)
      (keep p W k (step S (tables_of S) on p) (view S on p)) (λ q kind a kq. arrives h q a.within kq (omega (arith, a.less)))

-- ---- nodes of one home are down

module _ (S : Set) (f : ℕ → Bool) (u v : ℕ) where
  nodes_up : f u ≡ false → f v ≡ false → up S (nodes f) u v ≡ true
  unfolding up
  nodes_up e g = rw (e, g)

  node_up : up S (nodes f) u v ≡ true → f v ≡ false
  unfolding up
  node_up d = go (f u) (f v) (not-true (f u || f v) d)
    where
      go : (a b : Bool) → (a || b) ≡ false → b ≡ false
      go true b e = absurd (true≢false e)
      go false b e = e

  node_down : f u ≡ false → up S (nodes f) u v ≡ false → f v ≡ true
  node_down e d = true_of (f v) (λ g. clash (up S (nodes f) u v) (nodes_up e g) d)

-- the packet and its destination stand on nodes that are up, in topology 0 or in the failed nodes' home
pub record OnNodes (f : ℕ → Bool) (i : ℕ) (p : Packet) : Type 0 where
  pub here : f p.place ≡ false
  pub live : f p.destination ≡ false
  pub topology : (p.topology ≡ 0) ⊎ (p.topology ≡ i)

module _ (S : Set) (A : AcceptedSet S) (f : ℕ → Bool) (i : ℕ) (one : (v : ℕ) → v < S.net.n → f v ≡ true → home S v ≡ i)
    (p : Packet) (W : Within S p) (k : OnNodes f i p) where
  -- in the failed nodes' home topology a next hop is up
  next_up : 1 ≤ i → i ≤ S.net.k → (p.place ≡ p.destination → ⊥) → f (next_hop S i p.place p.destination) ≡ false
  next_up lo hi ne = go (f w) refl
    where
      w : ℕ
      w = next_hop S i p.place p.destination

      go : (b : Bool) → f w ≡ b → f w ≡ false
      go true g =
          rw (isolated_last S A p.place p.destination W.node W.end ne i lo hi
          (one w (next_nearer S A p.place p.destination W.node W.end ne i hi).node g)) k.live
      go false g = g

  -- the next hop that is down has that home
  down_home : (v : ℕ) → Detects S (up S (nodes f)) p v → home S v ≡ i
  down_home v d = one v (next_of S A (up S (nodes f)) p W v d.0).node (node_down S f p.place v k.here d.1)

  -- the destination is up, so the next hop that is down is not the destination
  not_last : (v : ℕ) → Detects S (up S (nodes f)) p v → next_hop S (home S v) p.place p.destination ≡ v → ⊥
  not_last v d e =
      let z = last_hop S A p.place p.destination W.node W.end d.0.0 v (next_of S A (up S (nodes f)) p W v d.0).node e in
      clash (f v) (node_down S f p.place v k.here d.1) (rw z k.live)

  keep_nodes : (s : Step) → View S (up S (nodes f)) p s → Kept (OnNodes f i) s
  keep_nodes s (there e) = tt
  keep_nodes s (plain v e o) = record { here = node_up S f p.place v o; live = k.live; topology = k.topology }
  keep_nodes s (stuck v e o z) = go k.topology
    where
      go : (p.topology ≡ 0) ⊎ (p.topology ≡ i) → ⊥
      go (inl x) = z x
      go (inr x) =
          let g = next_up (omega arith) (omega (arith, W.known)) e.0 in
          clash (up S (nodes f) p.place v) (nodes_up S f p.place v k.here (rw (e.1, x) g)) o
  keep_nodes s (other v w d e ne o) = record { here = node_up S f p.place w o; live = k.live; topology = inr (down_home v d) }
  keep_nodes s (other_down v w d e ne o) =
      let lv = (next_of S A (up S (nodes f)) p W v d.0).node in
      let z = down_home v d in
      let g = next_up (rw z at (home_low S A v lv)) (rw z at (home_high S A v lv)) d.0.0 in
      clash (up S (nodes f) p.place w) (nodes_up S f p.place w k.here (rw (e, z) g)) o
  keep_nodes s (around v d e o) = absurd (not_last v d e)
  keep_nodes s (around_down v d e o) = not_last v d e

-- ---- one link is down

module _ (S : Set) (l u v : ℕ) (e : neighbours S u v ≡ true) where
  link_down : up S (link l) u v ≡ false → Ends S l u v
  unfolding up
  link_down d = rw (eqb-true (link_between S u v) l (not-false (eqb (link_between S u v) l) d)) at (link_ends S u v e)

-- z is an end of link l
abbrev pub EndOf : Set → ℕ → ℕ → Type 0
EndOf S l z = (z ≡ get_or S.a l 0) ⊎ (z ≡ get_or S.b l 0)

end_of : (S : Set) (l u v : ℕ) → Ends S l u v → EndOf S l u
end_of S l u v (inl e) = inl (sym e.0)
end_of S l u v (inr e) = inr (sym e.1)

meets : (S : Set) (l u v z : ℕ) → EndOf S l z → Ends S l u v → (u ≡ z) ⊎ (v ≡ z)
meets S l u v z (inl e) (inl q) = inl (sym q.0 ∙ sym e)
meets S l u v z (inl e) (inr q) = inr (sym q.0 ∙ sym e)
meets S l u v z (inr e) (inl q) = inr (sym q.1 ∙ sym e)
meets S l u v z (inr e) (inr q) = inl (sym q.1 ∙ sym e)

-- the packet is in topology 0, or nearer to its destination than an end of the link that is down
abbrev pub OnLink : Set → ℕ → Packet → Type 0
OnLink S l p =
    (p.topology ≡ 0)
    ⊎ ((z : ℕ) × EndOf S l z × (distance S p.topology p.place p.destination < distance S p.topology z p.destination))

module _ (S : Set) (A : AcceptedSet S) (l : ℕ) (p : Packet) (W : Within S p) (k : OnLink S l p) where
  abbrev on : ℕ → ℕ → Bool
  on = up S (link l)

  joined : (v : ℕ) → Onto S on p v → neighbours S p.place v ≡ true
  joined v e = usable_neighbours S p.topology p.place v (next_of S A on p W v e).over

  down_ends : (v : ℕ) → Detects S on p v → Ends S l p.place v
  down_ends v d = link_down S l p.place v (joined v d.0) d.1

  pub keep_link : (s : Step) → View S on p s → Kept (OnLink S l) s
  keep_link s (there e) = tt
  keep_link s (plain v e o) = go k
    where
      go : OnLink S l p → OnLink S l (packet v p.destination p.topology)
      go (inl z) = inl z
      go (inr q) = inr (q.0, q.1, omega (arith, q.2, (next_of S A on p W v e).near))
  keep_link s (stuck v e o z) = go k
    where
      meet : (x : ℕ) → distance S p.topology p.place p.destination < distance S p.topology x p.destination → (p.place ≡ x) ⊎ (v ≡ x) → ⊥
      meet x h (inl q) = omega (arith, ap (λ (y : ℕ). distance S p.topology y p.destination) q)
      meet x h (inr q) = omega (arith, ap (λ (y : ℕ). distance S p.topology y p.destination) q, (next_of S A on p W v e).near)

      go : OnLink S l p → ⊥
      go (inl x) = z x
      go (inr q) = meet q.0 q.2 (meets S l p.place v q.0 q.1 (link_down S l p.place v (joined v e) o))
  keep_link s (other v w d e ne o) = inr (p.place, end_of S l p.place v (down_ends v d), (other_of S A on p W v w d e).near)
  keep_link s (other_down v w d e ne o) =
      let n = usable_neighbours S (home S v) p.place w (other_of S A on p W v w d e).over in
      ne (one_end S l p.place w v (link_down S l p.place w n o) (down_ends v d))
  keep_link s (around v d e o) = inr (p.place, end_of S l p.place v (down_ends v d), (around_of S A on p W v d e).near)
  keep_link s (around_down v d e o) =
      let w = alternate S p.place v in
      let lv = (next_of S A on p W v d.0).node in
      let n = usable_neighbours S (home S p.place) p.place w (around_of S A on p W v d e).over in
      let two = two_homes S A p.place p.destination W.node W.end d.0.0 v lv e in
      alternate_other S A p.place v W.node lv (joined v d.0) two (one_end S l p.place w v (link_down S l p.place w n o) (down_ends v d))

-- ---- nothing is down

keep_nothing : (S : Set) (p : Packet) (s : Step) → View S (up S nothing) p s → Kept (λ q. Unit {0}) s
unfolding up
keep_nothing S p s (there e) = tt
keep_nothing S p s (plain v e o) = tt
keep_nothing S p s (stuck v e o z) = true≢false o
keep_nothing S p s (other v w d e ne o) = tt
keep_nothing S p s (other_down v w d e ne o) = true≢false o
keep_nothing S p s (around v d e o) = tt
keep_nothing S p s (around_down v d e o) = true≢false o

-- ---- demand 3

module _ (S : Set) (A : AcceptedSet S) (source destination : ℕ) (ls : source < S.net.n) (ld : destination < S.net.n) where
  reaches : (f : Fault) (K : Packet → Type 0) → K (packet source destination 0)
      → ((p : Packet) → Within S p → K p → (s : Step) → View S (up S f) p s → Kept K s) → (run_under S f source destination).outcome ≡ ended.Delivered
  unfolding run_under
  reaches f K start keep =
      arrives S A (up S f) K keep (most_hops S.net) (packet source destination 0) (starts S A (up S f) source destination ls ld) start (start_few S destination source ls)

  delivered : (f : Fault) → Tolerated S f → failed f source ≡ false → failed f destination ≡ false → (run_under S f source destination).outcome ≡ ended.Delivered
  unfolding failed
  delivered nothing q es ed = reaches nothing (λ p. Unit {0}) tt (λ p W k s w. keep_nothing S p s w)
  delivered (link l) q es ed = reaches (link l) (OnLink S l) (inl refl) (λ p W k s w. keep_link S A l p W k s w)
  delivered (nodes f) q es ed =
      reaches (nodes f) (OnNodes f q.0) (record { here = es; live = ed; topology = inl refl }) (λ p W k s w. keep_nodes S A f q.0 q.1 p W k s w)

pub delivery : Delivery
unfolding run_under
delivery S A f q source destination ls ld es ed =
    let e = delivered S A source destination ls ld f q es ed in
    record {
      outcome = e;
      place = (whole_trip S A (up S f) source destination ls ld).arrived e;
      bounded = always_bounded S A (up S f) source destination ls ld;
    }

-- ---- "A packet for the failed node, from another source, ends dropped."

-- the last hop of a trail to t
into : (R : ℕ → ℕ → Type 0) (t u : ℕ) (l : List ℕ) → EachHop R u l → last u l ≡ t → (u ≡ t → ⊥) → (x : ℕ) × R x t
into R t u [] q e ne = absurd (ne e)
into R t u (w ∷ l) q e ne = go (eqb w t) refl (λ d. into R t w l q.1 e d)
  where
    go : (b : Bool) → eqb w t ≡ b → ((w ≡ t → ⊥) → (x : ℕ) × R x t) → (x : ℕ) × R x t
    go true d r = (u, rw (eqb-true w t d) at q.0)
    go false d r = r (eqb-false w t d)

dropped : (e : Outcome) → (e ≡ ended.UnderWay → ⊥) → (e ≡ ended.Delivered → ⊥) → e ≡ ended.Dropped
dropped ended.UnderWay u d = absurd (u refl)
dropped ended.Delivered u d = absurd (d refl)
dropped ended.Dropped u d = refl

-- no hop to a failed node is up
failed_down : (S : Set) (f : Fault) (u v : ℕ) → failed f v ≡ true → up S f u v ≡ true → ⊥
unfolding failed
failed_down S nothing u v g e = false≢true g
failed_down S (link l) u v g e = false≢true g
failed_down S (nodes f) u v g e = clash (f v) g (node_up S f u v e)

pub lost_with_node : LostWithNode
unfolding run_under
lost_with_node S A f q source destination ls ld es ed =
    let g = whole_trip S A (up S f) source destination ls ld in
    let apart : source ≡ destination → ⊥ = λ e. clash (failed f source) (rw e ed) es in
    dropped (run_under S f source destination).outcome g.over (λ e.
    let x = into (λ u w. (neighbours S u w ≡ true) × (up S f u w ≡ true)) destination source (run_under S f source destination).visited g.crossed (g.final ∙ g.arrived e) apart in
    failed_down S f x.0 destination ed x.1.1)
