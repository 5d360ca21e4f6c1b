-- Whatever is down: every run of an accepted set ends within 2n - 3 hops and one change of topology, over links that are up and usable.
-- In topology 0 the nodes nearer to the destination and n - 2 more bound the hops that may still come, in a backup topology the nodes nearer to it; every move lessens this.
use Rattle.std.specs.Prelude.{if◌then◌else◌}
use mathlib.Core.Path.{◌≡◌, refl, subst, ◌∙◌}
use mathlib.Core.Bool.{Bool, true, false}
use Prim.Native.Nat.{ℕ, zero, suc, ◌+◌, ◌-◌, ◌≤◌, ◌<◌}
use native.Mathlib.Omega.{arith}
use lib.Dec.{eqb}
use lib.ListN.{length}
use Rattle.rules.specs.declared.Packet.{Packet}
use Rattle.rules.specs.declared.Kind.{Kind}
use Rattle.rules.specs.declared.Kind.TheVariants as change
use Rattle.rules.specs.declared.Step.{Step}
use Rattle.rules.specs.declared.Step.TheVariants.{Delivered, Moved, Dropped}
use Rattle.rules.specs.declared.Outcome.TheVariants as ended
use Rattle.rules.specs.Limits.{most_hops}
use Rattle.rules.specs.File.{Set}
use Rattle.rules.specs.Isolation.{neighbours, home, usable}
use Rattle.rules.specs.Distance.{distance, next_hop, alternate}
use Rattle.rules.specs.Forwarding.{tables_of, packet, step, Run, hops, stop, changed, onward, after_step, run}
use Rattle.rules.specs.Sets.{AcceptedSet}
use Rattle.rules.specs.Demands.Delivery.{EachHop, last, AlwaysBounded, MovesOnUsable}
use Rattle.rules.proofs.Isolation.Homes.{home_low, home_high}
use Rattle.rules.proofs.Distance.Rounds.{rank, rank_lt, rank_bound}
use Rattle.rules.proofs.Forwarding.Routing.{Nearer, usable_neighbours, next_nearer, last_hop, two_homes, alternate_nearer}
use Rattle.rules.proofs.Forwarding.Steps.{Onto, Detects, View, there, plain, stuck, other, other_down, around, around_down, view}

-- how many hops may still come
abbrev pub hops_left : Set → ℕ → ℕ → ℕ → ℕ
hops_left S t zero u = rank (λ x. distance S 0 x t) S.net.n u + (S.net.n - 2)
hops_left S t (suc i) u = rank (λ x. distance S (suc i) x t) S.net.n u

-- how many changes may still come
abbrev pub changes_left : ℕ → ℕ
changes_left zero = 1
changes_left (suc i) = 0

-- the packet is within its ranges
pub record Within (S : Set) (p : Packet) : Type 0 where
  pub node : p.place < S.net.n
  pub end : p.destination < S.net.n
  pub known : p.topology ≤ S.net.k

-- what holds of a move from p to q
pub record Advance (S : Set) (on : ℕ → ℕ → Bool) (p q : Packet) (kind : Kind) : Type 0 where
  pub within : Within S q
  pub same : q.destination ≡ p.destination
  pub less : hops_left S q.destination q.topology q.place < hops_left S p.destination p.topology p.place
  pub spared : changed kind + changes_left q.topology ≤ changes_left p.topology
  pub over : usable S q.topology p.place q.place ≡ true
  pub clear : on p.place q.place ≡ true

module _ (S : Set) (t : ℕ) where
  nearer_less : (i u v : ℕ) → v < S.net.n → distance S i v t < distance S i u t → hops_left S t i v < hops_left S t i u
  nearer_less zero u v lv h = omega (arith, rank_lt (λ x. distance S 0 x t) S.net.n u v lv h)
  nearer_less (suc i) u v lv h = rank_lt (λ x. distance S (suc i) x t) S.net.n u v lv h

  -- the nodes nearer in a backup topology are at most n - 1, the one moved to among them
  change_less : (j u v w : ℕ) → 1 ≤ j → u < S.net.n → v < S.net.n → w < S.net.n → distance S 0 v t < distance S 0 u t → distance S j w t < distance S j u t
      → hops_left S t j w < hops_left S t 0 u
  change_less zero u v w lo lu lv lw h g = absurd (omega arith)
  change_less (suc j) u v w lo lu lv lw h g =
      omega (
        arith,
        rank_lt (λ x. distance S 0 x t) S.net.n u v lv h,
        rank_lt (λ x. distance S (suc j) x t) S.net.n u w lw g,
        rank_bound (λ x. distance S (suc j) x t) S.net.n u lu,
      )

  pub start_few : (u : ℕ) → u < S.net.n → hops_left S t 0 u ≤ most_hops S.net
  unfolding most_hops
  start_few u lu = omega (arith, rank_bound (λ x. distance S 0 x t) S.net.n u lu)

none_left : (j : ℕ) → 1 ≤ j → changes_left j ≡ 0
none_left zero h = absurd (omega arith)
none_left (suc j) h = refl

pub changed_once : (b : Bool) → changed (if b then change.S else change.T) ≡ 1
unfolding changed
changed_once true = refl
changed_once false = refl

-- ---- one step

module _ (S : Set) (A : AcceptedSet S) (on : ℕ → ℕ → Bool) (p : Packet) (W : Within S p) where
  pub next_of : (v : ℕ) → Onto S on p v → Nearer S p.topology p.place p.destination v
  next_of v e = rw e.1 (next_nearer S A p.place p.destination W.node W.end e.0 p.topology W.known)

  -- the next hop in the home topology of one that is down
  pub other_of : (v w : ℕ) → Detects S on p v → w ≡ next_hop S (home S v) p.place p.destination → Nearer S (home S v) p.place p.destination w
  other_of v w d e = rw e (next_nearer S A p.place p.destination W.node W.end d.0.0 (home S v) (home_high S A v (next_of v d.0).node))

  -- the detour to a destination that is the next hop itself
  pub around_of : (v : ℕ) → Detects S on p v → next_hop S (home S v) p.place p.destination ≡ v
      → Nearer S (home S p.place) p.place p.destination (alternate S p.place v)
  around_of v d e =
      let q = next_of v d.0 in
      let z = last_hop S A p.place p.destination W.node W.end d.0.0 v q.node e in
      subst (λ (x : ℕ). Nearer S (home S p.place) p.place x (alternate S p.place v)) z
      (alternate_nearer S A p.place v W.node q.node (usable_neighbours S p.topology p.place v q.over)
      (two_homes S A p.place p.destination W.node W.end d.0.0 v q.node e))

  -- a change to topology j, where one more would have been allowed
  change_to : (v w j : ℕ) (kind : Kind) → Detects S on p v → changed kind ≡ 1 → 1 ≤ j → j ≤ S.net.k → Nearer S j p.place p.destination w → on p.place w ≡ true
      → Advance S on p (packet w p.destination j) kind
  change_to v w j kind d one lo hi q o =
      let e = next_of v d.0 in
      let near : distance S 0 v p.destination < distance S 0 p.place p.destination = rw d.2 at e.near in
      record {
        within = record { node = q.node; end = W.end; known = hi };
        same = refl;
        less = rw d.2 (change_less S p.destination j p.place v w lo W.node e.node q.node near q.near);
        spared = rw d.2 (omega (arith, none_left j lo));
        over = q.over;
        clear = o;
      }

  -- what a step comes to
  abbrev pub Good : Step → Type 0
  Good (Delivered q) = (q ≡ p) × (p.place ≡ p.destination)
  Good (Moved q kind) = Advance S on p q kind
  Good (Dropped q) = q ≡ p

  good : (s : Step) → View S on p s → Good s
  unfolding changed
  good s (there e) = (refl, e)
  good s (stuck v e o z) = refl
  good s (other_down v w d e ne o) = refl
  good s (around_down v d e o) = refl
  good s (plain v e o) =
      let q = next_of v e in
      record {
        within = record { node = q.node; end = W.end; known = W.known };
        same = refl;
        less = nearer_less S p.destination p.topology p.place v q.node q.near;
        spared = omega arith;
        over = q.over;
        clear = o;
      }
  good s (other v w d e ne o) =
      let lv = (next_of v d.0).node in
      change_to v w (home S v) (if eqb p.destination v then change.S else change.T) d (changed_once (eqb p.destination v)) (home_low S A v lv) (home_high S A v lv)
      (other_of v w d e) o
  good s (around v d e o) =
      change_to v (alternate S p.place v) (home S p.place) change.D d refl (home_low S A p.place W.node) (home_high S A p.place W.node) (around_of v d e) o

  pub good_step : Good (step S (tables_of S) on p)
  good_step = good (step S (tables_of S) on p) (view S on p)

  pub advance : (q : Packet) (kind : Kind) → step S (tables_of S) on p ≡ Moved q kind → Advance S on p q kind
  advance q kind e = subst (λ (s : Step). Good s) e good_step

pub moves_on_usable : MovesOnUsable
moves_on_usable S A on p q kind lu lt li e =
    let a = advance S A on p (record { node = lu; end = lt; known = li }) q kind e in
    (a.clear, a.over)

-- ---- the whole run

-- what holds of a run from p, of at most h hops and c changes, whatever is down
pub record Travelled (S : Set) (on : ℕ → ℕ → Bool) (p : Packet) (h c : ℕ) (r : Run) : Type 0 where
  pub over : r.outcome ≡ ended.UnderWay → ⊥
  pub few : length r.visited ≤ h
  pub once : r.changes ≤ c
  pub crossed : EachHop (λ u w. (neighbours S u w ≡ true) × (on u w ≡ true)) p.place r.visited
  pub final : last p.place r.visited ≡ r.place
  pub arrived : r.outcome ≡ ended.Delivered → r.place ≡ p.destination

module _ (S : Set) (A : AcceptedSet S) (on : ℕ → ℕ → Bool) where
  abbrev pub Trip : Packet → Run → Type 0
  Trip p r = Travelled S on p (hops_left S p.destination p.topology p.place) (changes_left p.topology) r

  after : (p : Packet) (W : Within S p) (s : Step) (moved : Packet → Kind → Run) → Good S A on p W s
      → ((q : Packet) (kind : Kind) → Advance S on p q kind → Trip p (moved q kind)) → Trip p (after_step s moved)
  unfolding after_step stop
  after p W (Delivered q) moved g h =
      record {
        over = λ e. let z : ◌≡◌ {A = ℕ} 0 1 = cc in omega arith;
        few = omega arith;
        once = omega arith;
        crossed = tt;
        final = rw g.0;
        arrived = λ e. rw g.0 g.1;
      }
  after p W (Dropped q) moved g h =
      record {
        over = λ e. let z : ◌≡◌ {A = ℕ} 0 1 = cc in omega arith;
        few = omega arith;
        once = omega arith;
        crossed = tt;
        final = rw g;
        arrived = λ e. let z : ◌≡◌ {A = ℕ} 0 1 = cc in absurd (omega arith);
      }
  after p W (Moved q kind) moved g h = h q kind g

  -- one hop more
  went : (p q : Packet) (kind : Kind) (r : Run) → Advance S on p q kind → Trip q r → Trip p (onward q.place kind r)
  unfolding onward
  went p q kind r a g =
      record {
        over = g.over;
        few = omega (arith, g.few, a.less);
        once = omega (arith, g.once, a.spared);
        crossed = ((usable_neighbours S q.topology p.place q.place a.over, a.clear), g.crossed);
        final = g.final;
        arrived = λ e. g.arrived e ∙ a.same;
      }

  pub trip : (h : ℕ) (p : Packet) → Within S p → hops_left S p.destination p.topology p.place ≤ h → Trip p (run S (tables_of S) on h p)
  unfolding run
  trip zero p W few =
      after p W (step S (tables_of S) on p) (λ q kind. stop p ended.UnderWay) (good_step S A on p W) (λ q kind a. absurd (omega (arith, a.less)))
  trip (suc h) p W few =
      after p W (step S (tables_of S) on p) (λ q kind. onward q.place kind (run S (tables_of S) on h q)) (good_step S A on p W)
      (λ q kind a. went p q kind (run S (tables_of S) on h q) a (trip h q a.within (omega (arith, a.less))))

  -- a packet at the start of its run
  pub starts : (u t : ℕ) → u < S.net.n → t < S.net.n → Within S (packet u t 0)
  starts u t lu lt = record { node = lu; end = lt; known = omega arith }

  pub whole_trip : (u t : ℕ) → u < S.net.n → t < S.net.n → Trip (packet u t 0) (run S (tables_of S) on (most_hops S.net) (packet u t 0))
  whole_trip u t lu lt = trip (most_hops S.net) (packet u t 0) (starts u t lu lt) (start_few S t u lu)

pub always_bounded : AlwaysBounded
unfolding hops
always_bounded S A on u t lu lt =
    let g = whole_trip S A on u t lu lt in
    record { over = g.over; few = omega (arith, g.few, start_few S t u lu); once = g.once; crossed = g.crossed; ends = g.final }
