-- Each line of the report is what the run does: the detecting node's step is the run's first hop and its one change of topology.
use mathlib.Core.Path.{◌≡◌, refl, sym, ap, ap₂, subst, ◌∙◌}
use mathlib.Core.Logic.{inl}
use mathlib.Core.Bool.{Bool, true, false}
use Prim.Native.Nat.{ℕ, zero, suc, ◌-◌, ◌*◌, ◌≤◌, ◌<◌}
use native.Mathlib.Omega.{arith}
use lib.Dec.{eqb}
use borrow.Author.Tests.{eq-eqb}
use Rattle.rules.specs.declared.Packet.{Packet}
use Rattle.rules.specs.declared.Kind.{Kind}
use Rattle.rules.specs.declared.Kind.TheVariants as change
use Rattle.rules.specs.declared.Step.{Step}
use Rattle.rules.specs.declared.Step.TheVariants.{Delivered, Moved, Dropped}
use Rattle.rules.specs.declared.Outcome.TheVariants as ended
use Rattle.rules.specs.Limits.{most_hops}
use Rattle.rules.specs.File.{Set}
use Rattle.rules.specs.Isolation.{link_between}
use Rattle.rules.specs.Distance.{next_hop}
use Rattle.rules.specs.Forwarding.{link, up, tables_of, packet, step, Run, stop, first_kind, changed, onward, after_step, run, run_under}
use Rattle.rules.specs.Report.{detected_link, detection}
use Rattle.rules.specs.Sets.{AcceptedSet}
use Rattle.rules.specs.Demands.Detections.{LineIsRun, LinesAreRuns}
use Rattle.rules.proofs.Ground.Choices.{clash}
use Rattle.rules.proofs.Isolation.Homes.{home_low}
use Rattle.rules.proofs.Forwarding.Steps.{View, there, plain, stuck, other, other_down, around, around_down, view}
use Rattle.rules.proofs.Forwarding.Runs.{changed_once, next_of, starts}
use Rattle.rules.proofs.Forwarding.Delivery.{keep_link}

-- ---- in a backup topology a packet stays

-- a step that leaves the packet's topology as it is
abbrev Stays : Packet → Step → Type 0
Stays p (Delivered q) = q ≡ p
Stays p (Moved q kind) = (q.topology ≡ p.topology) × (changed kind ≡ 0)
Stays p (Dropped q) = q ≡ p

stays : (S : Set) (on : ℕ → ℕ → Bool) (p : Packet) → 1 ≤ p.topology → (s : Step) → View S on p s → Stays p s
unfolding changed
stays S on p lo s (there e) = refl
stays S on p lo s (plain v e o) = (refl, refl)
stays S on p lo s (stuck v e o z) = refl
stays S on p lo s (other v w d e ne o) = absurd (omega (arith, d.2))
stays S on p lo s (other_down v w d e ne o) = refl
stays S on p lo s (around v d e o) = absurd (omega (arith, d.2))
stays S on p lo s (around_down v d e o) = refl

module _ (S : Set) (on : ℕ → ℕ → Bool) where
  stays_after : (p : Packet) (s : Step) (moved : Packet → Kind → Run) → Stays p s
      → ((q : Packet) (kind : Kind) → q.topology ≡ p.topology → changed kind ≡ 0 → ((moved q kind).topology ≡ p.topology) × ((moved q kind).changes ≡ 0))
      → ((after_step s moved).topology ≡ p.topology) × ((after_step s moved).changes ≡ 0)
  unfolding after_step stop
  stays_after p (Delivered q) moved g h = (rw g, refl)
  stays_after p (Moved q kind) moved g h = h q kind g.0 g.1
  stays_after p (Dropped q) moved g h = (rw g, refl)

  pub run_stays : (h : ℕ) (p : Packet) → 1 ≤ p.topology
      → ((run S (tables_of S) on h p).topology ≡ p.topology) × ((run S (tables_of S) on h p).changes ≡ 0)
  unfolding run onward stop
  run_stays zero p lo =
      stays_after p (step S (tables_of S) on p) (λ q kind. stop p ended.UnderWay) (stays S on p lo (step S (tables_of S) on p) (view S on p)) (λ q kind e z. (refl, refl))
  run_stays (suc h) p lo =
      stays_after p (step S (tables_of S) on p) (λ q kind. onward q.place kind (run S (tables_of S) on h q))
      (stays S on p lo (step S (tables_of S) on p) (view S on p))
      (λ q kind e z. let r = run_stays h q (omega arith) in (r.0 ∙ e, omega (arith, r.1)))

-- ---- a line of the report

-- a step that changes topology on its way to t
abbrev pub Changes : ℕ → Step → Type 0
Changes t (Delivered q) = ⊥
Changes t (Moved q kind) = (q ≡ packet q.place t q.topology) × (1 ≤ q.topology) × (changed kind ≡ 1)
Changes t (Dropped q) = ⊥

first_kind_is : (kind rest : Kind) → changed kind ≡ 1 → first_kind kind rest ≡ kind
unfolding first_kind changed
first_kind_is change.Unchanged rest e = absurd (omega arith)
first_kind_is change.T rest e = refl
first_kind_is change.S rest e = refl
first_kind_is change.D rest e = refl

module _ (S : Set) (A : AcceptedSet S) (u t : ℕ) (lu : u < S.net.n) (lt : t < S.net.n) (ne : u ≡ t → ⊥) where
  abbrev on : ℕ → ℕ → Bool
  on = up S (link (detected_link S u t))

  -- the link to the next hop is the one that is down
  pub detected : (v : ℕ) → v ≡ next_hop S 0 u t → on u v ≡ true → ⊥
  unfolding up detected_link
  detected v e o =
      let z : on u v ≡ false = rw (e, eq-eqb (link_between S u (next_hop S 0 u t)) (link_between S u (next_hop S 0 u t)) refl) in
      clash (on u v) o z

  changes : (s : Step) → View S on (packet u t 0) s → Changes t s
  unfolding changed
  changes s (there e) = ne e
  changes s (plain v e o) = absurd (detected v e.1 o)
  changes s (stuck v e o z) = z refl
  changes s (other v w d e neq o) =
      (refl, home_low S A v (next_of S A on (packet u t 0) (starts S A on u t lu lt) v d.0).node, changed_once (eqb t v))
  changes s (other_down v w d e neq o) =
      keep_link S A (detected_link S u t) (packet u t 0) (starts S A on u t lu lt) (inl refl) s (other_down v w d e neq o)
  changes s (around v d e o) = (refl, home_low S A u lu, refl)
  changes s (around_down v d e o) =
      keep_link S A (detected_link S u t) (packet u t 0) (starts S A on u t lu lt) (inl refl) s (around_down v d e o)

  pub detection_changes : Changes t (detection S u t)
  unfolding detection
  detection_changes = changes (detection S u t) (view S on (packet u t 0))

  line : (h : ℕ) (s : Step) → detection S u t ≡ s → Changes t s
      → LineIsRun S u t (after_step s (λ q kind. onward q.place kind (run S (tables_of S) on h q)))
  unfolding after_step onward
  line h (Delivered q) e c = absurd c
  line h (Dropped q) e c = absurd c
  line h (Moved q kind) e c =
      let r = run S (tables_of S) on h q in
      let k = run_stays S on h q c.1 in
      record {
        neighbour = q.place;
        rest = r.visited;
        moved = e ∙ ap₂ Moved (c.0 ∙ ap (λ (j : ℕ). packet q.place t j) (sym k.0)) (sym (first_kind_is kind r.kind c.2));
        visited = refl;
        changed = omega (arith, k.1, c.2);
      }

  line_is_run : LineIsRun S u t (run_under S (link (detected_link S u t)) u t)
  unfolding run_under run detection most_hops
  line_is_run =
      let some : most_hops S.net ≡ suc (2 * S.net.n - 4) = omega (arith, A.rules.limits.nodes.0) in
      subst (λ (h : ℕ). LineIsRun S u t (run S (tables_of S) on h (packet u t 0))) (sym some)
      (line (2 * S.net.n - 4) (detection S u t) refl detection_changes)

pub lines_are_runs : LinesAreRuns
lines_are_runs S A u t lu lt ne = line_is_run S A u t lu lt ne
