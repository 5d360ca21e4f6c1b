-- Hops counted along the next hops of one topology. A run that is delivered, in a backup topology or with nothing down, makes just these; and the detecting node's
-- step is the move along its detour, which is never dropped.
use Rattle.std.specs.Prelude.{if◌then◌else◌}
use mathlib.Core.Path.{◌≡◌, refl, sym, ap, subst, ◌∙◌}
use mathlib.Core.Bool.{Bool, true, false, true≢false}
use Prim.Native.Nat.{ℕ, zero, suc, ◌-◌, ◌≤◌, ◌<◌}
use native.Mathlib.Omega.{arith}
use lib.Dec.{eqb}
use borrow.Author.Tests.{ne_eqb}
use Rattle.rules.specs.declared.Packet.{Packet}
use Rattle.rules.specs.declared.Kind.{Kind}
use Rattle.rules.specs.declared.Kind.TheVariants as change
use Rattle.rules.specs.declared.Step.{Step}
use Rattle.rules.specs.declared.Step.TheVariants.{Delivered, Moved, Dropped}
use Rattle.rules.specs.declared.Outcome.TheVariants as ended
use Rattle.rules.specs.Limits.{most_hops}
use Rattle.rules.specs.File.{Set}
use Rattle.rules.specs.Isolation.{home}
use Rattle.rules.specs.Distance.{next_hop}
use Rattle.rules.specs.Forwarding.{nothing, link, failed, up, tables_of, packet, move_or_drop, change_to, blocked, toward, step, Run, hops, stop, onward, after_step, run, run_under}
use Rattle.rules.specs.Report.{detected_link, detection, backup_hops, plain_hops}
use Rattle.rules.specs.Sets.{AcceptedSet}
use Rattle.rules.proofs.Ground.Choices.{if_yes, if_no}
use Rattle.rules.proofs.Forwarding.Delivery.{delivery}
use Rattle.rules.proofs.Report.Lines.{Changes, detected, detection_changes}
use Rattle.onehop.specs.declared.Change.{Change}
use Rattle.onehop.specs.Hop.{detour_of}
use Rattle.onehop.proofs.Hops.{change_along}

-- ---- along one topology

-- how many next hops of topology i lead from u to t, of at most so many
unfoldable pub along : Set → ℕ → ℕ → ℕ → ℕ → ℕ
along S i t zero u = 0
along S i t (suc most) u = if eqb u t then 0 else suc (along S i t most (next_hop S i u t))

module _ (S : Set) (on : ℕ → ℕ → Bool) (i u t : ℕ) where
  step_there : eqb u t ≡ true → step S (tables_of S) on (packet u t i) ≡ Delivered (packet u t i)
  unfolding step
  step_there e = if_yes (eqb u t) _ _ e

  step_on : eqb u t ≡ false → on u (next_hop S i u t) ≡ true → step S (tables_of S) on (packet u t i) ≡ Moved (packet (next_hop S i u t) t i) change.Unchanged
  unfolding step toward tables_of
  step_on e o = if_no (eqb u t) _ _ e ∙ if_yes (on u (next_hop S i u t)) _ _ o

  step_stuck : eqb u t ≡ false → on u (next_hop S i u t) ≡ false → 1 ≤ i → step S (tables_of S) on (packet u t i) ≡ Dropped (packet u t i)
  unfolding step toward blocked tables_of
  step_stuck e o lo = if_no (eqb u t) _ _ e ∙ if_no (on u (next_hop S i u t)) _ _ o ∙ if_no (eqb i 0) _ _ (ne_eqb i 0 (λ z. omega arith))

-- the next hop in topology 0 cannot be reached
step_blocked : (S : Set) (on : ℕ → ℕ → Bool) (u t : ℕ) → eqb u t ≡ false → on u (next_hop S 0 u t) ≡ false
    → step S (tables_of S) on (packet u t 0) ≡ change_to S (tables_of S) on (packet u t 0) (next_hop S 0 u t) ((tables_of S).next (home S (next_hop S 0 u t)) u t)
unfolding step toward blocked tables_of
step_blocked S on u t e o = if_no (eqb u t) _ _ e ∙ if_no (on u (next_hop S 0 u t)) _ _ o

no_hops : (p : Packet) (s : Step) → hops (after_step s (λ q kind. stop p ended.UnderWay)) ≡ 0
unfolding hops after_step stop
no_hops p (Delivered q) = refl
no_hops p (Dropped q) = refl
no_hops p (Moved q kind) = refl

-- a run that is delivered, where a hop is down only to a packet that must not change
module _ (S : Set) (on : ℕ → ℕ → Bool) (i t : ℕ) (firm : (x y : ℕ) → on x y ≡ false → 1 ≤ i) where
  run_along : (most u : ℕ) → (run S (tables_of S) on most (packet u t i)).outcome ≡ ended.Delivered → hops (run S (tables_of S) on most (packet u t i)) ≡ along S i t most u
  unfolding run along hops after_step stop onward
  run_along zero u d = no_hops (packet u t i) (step S (tables_of S) on (packet u t i))
  run_along (suc most) u d = go (run_along most v) d (eqb u t) refl (on u v) refl
    where
      v : ℕ
      v = next_hop S i u t

      next : Packet → Kind → Run
      next q kind = onward q.place kind (run S (tables_of S) on most q)

      go : ((run S (tables_of S) on most (packet v t i)).outcome ≡ ended.Delivered → hops (run S (tables_of S) on most (packet v t i)) ≡ along S i t most v)
          → (after_step (step S (tables_of S) on (packet u t i)) next).outcome ≡ ended.Delivered
          → (b : Bool) → eqb u t ≡ b → (c : Bool) → on u v ≡ c
          → hops (after_step (step S (tables_of S) on (packet u t i)) next) ≡ (if eqb u t then 0 else suc (along S i t most v))
      go rest done true e c o = ap (λ (s : Step). hops (after_step s next)) (step_there S on i u t e) ∙ sym (if_yes (eqb u t) _ _ e)
      go rest done false e true o =
          let moved = step_on S on i u t e o in
          ap (λ (s : Step). hops (after_step s next)) moved
          ∙ ap suc (rest (sym (ap (λ (s : Step). (after_step s next).outcome) moved) ∙ done))
          ∙ sym (if_no (eqb u t) _ _ e)
      go rest done false e false o =
          let lost = sym (ap (λ (s : Step). (after_step s next).outcome) (step_stuck S on i u t e o (firm u v o))) ∙ done in
          let z : ◌≡◌ {A = ℕ} 0 1 = cc in
          absurd (omega arith)

-- ---- a detection

module _ (S : Set) (A : AcceptedSet S) (u t : ℕ) (lu : u < S.net.n) (lt : t < S.net.n) (ne : u ≡ t → ⊥) where
  abbrev via : ℕ
  via = next_hop S 0 u t

  -- with nothing down
  pub plain_along : plain_hops S u t ≡ along S 0 t (most_hops S.net) u
  unfolding plain_hops run_under failed up
  plain_along =
      run_along S (up S nothing) 0 t (λ x y e. absurd (true≢false e)) (most_hops S.net) u (delivery S A nothing tt u t lu lt refl refl).outcome

  abbrev on : ℕ → ℕ → Bool
  on = up S (link (detected_link S u t))

  -- after the change
  pub backup_along : (q : Packet) (kind : Kind) → detection S u t ≡ Moved q kind → backup_hops S u t ≡ suc (along S q.topology t (most_hops S.net - 1) q.place)
  unfolding backup_hops run_under failed run hops after_step onward detection most_hops
  backup_along q kind e =
      let c : Changes t (Moved q kind) = subst (Changes t) e (detection_changes S A u t lu lt ne) in
      let few = most_hops S.net - 1 in
      let one : most_hops S.net ≡ suc few = omega (arith, A.rules.limits.nodes.0) in
      let whole : run_under S (link (detected_link S u t)) u t ≡ onward q.place kind (run S (tables_of S) on few q) =
      ap (λ (h : ℕ). run S (tables_of S) on h (packet u t 0)) one
      ∙ ap (λ (s : Step). after_step s (λ q kind. onward q.place kind (run S (tables_of S) on few q))) e
      in
      let same : run S (tables_of S) on few q ≡ run S (tables_of S) on few (packet q.place t q.topology) = ap (run S (tables_of S) on few) c.0 in
      let done = sym (ap (λ (r : Run). r.outcome) (whole ∙ ap (onward q.place kind) same)) ∙ (delivery S A (link (detected_link S u t)) tt u t lu lt refl refl).outcome in
      ap hops (whole ∙ ap (onward q.place kind) same)
      ∙ ap suc (run_along S on q.topology t (λ x y o. c.1) few q.place done)

  -- ---- its step

  on_via : on u via ≡ false
  on_via = go (on u via) refl
    where
      go : (b : Bool) → on u via ≡ b → on u via ≡ false
      go true o = absurd (detected S A u t lu lt ne via refl o)
      go false o = o

  -- a change that is no drop
  moved_on : (w j : ℕ) (kind : Kind) → Changes t (move_or_drop on (packet u t 0) w j kind) → move_or_drop on (packet u t 0) w j kind ≡ Moved (packet w t j) kind
  unfolding move_or_drop
  moved_on w j kind c = go (on u w) refl c
    where
      go : (b : Bool) → on u w ≡ b → Changes t (move_or_drop on (packet u t 0) w j kind) → move_or_drop on (packet u t 0) w j kind ≡ Moved (packet w t j) kind
      go true e k = if_yes (on u w) _ _ e
      go false e k = absurd (subst (Changes t) (if_no (on u w) (Moved (packet w t j) kind) (Dropped (packet u t 0)) e) k)

  pub detection_along : (d : Change) → d ≡ detour_of S (tables_of S) u t via → detection S u t ≡ Moved (packet d.next t d.topology) d.kind
  unfolding detection
  detection_along d e =
      let first : detection S u t ≡ move_or_drop on (packet u t 0) d.next d.topology d.kind =
      step_blocked S on u t (ne_eqb u t ne) on_via ∙ sym (change_along S (tables_of S) on (packet u t 0) via d e)
      in
      first ∙ moved_on d.next d.topology d.kind (subst (Changes t) first (detection_changes S A u t lu lt ne))
