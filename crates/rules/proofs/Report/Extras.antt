-- 02, a: the extra hops of a line. A path over the link to the next hop, or round it, has at least one hop and at most n - 1, which bounds their difference on both
-- sides. Where the kind is S or D that next hop is the destination: one hop leads there with nothing down, and two at least with its link down.
use mathlib.Core.Path.{◌≡◌, refl, sym, ap, subst, ◌∙◌}
use mathlib.Core.Bool.{Bool, true, true≢false}
use mathlib.Core.List.{List, [], ◌∷◌, ◌++◌, append_assoc}
use Prim.Native.Nat.{ℕ, zero, suc, ◌+◌, ◌-◌, ◌*◌, ◌≤◌, ◌<◌}
use native.Mathlib.Numerals.{add-one}
use native.Mathlib.Omega.{arith}
use lib.Dec.{ltb→lt}
use lib.IntN.{ℤ, pos, negsuc, nat_abs, -ℤ-+ℤ_cancel}
use lib.ListN.{length}
use lib.Signed.{◌≤ℤ◌, ◌<ℤ◌}
use borrow.Author.Tests.{eq-eqb}
use Rattle.rules.specs.declared.Packet.{Packet}
use Rattle.rules.specs.declared.Kind.{Kind}
use Rattle.rules.specs.declared.Kind.TheVariants as change
use Rattle.rules.specs.declared.Step.{Step}
use Rattle.rules.specs.declared.Step.TheVariants.{Delivered, Moved, Dropped}
use Rattle.rules.specs.declared.Outcome.TheVariants as ended
use Rattle.rules.specs.Limits.{most_hops}
use Rattle.rules.specs.File.{Set}
use Rattle.rules.specs.Isolation.{neighbours, home}
use Rattle.rules.specs.Distance.{distance, next_hop, alternate}
use Rattle.rules.specs.Forwarding.{nothing, link, failed, up, tables_of, packet, step, Run, hops, stop, letter, onward, after_step, run, run_under}
use Rattle.rules.specs.Report.{decimal, signed, space, newline, packet_of, kind_of, detected_link, detection, backup_hops, plain_hops, extra_hops, detection_line}
use Rattle.rules.specs.Sets.{AcceptedSet}
use Rattle.rules.specs.Demands.Delivery.{EachHop, last}
use Rattle.rules.specs.Demands.Detections.{ExtrasAre}
use Rattle.rules.proofs.Ground.Integers.{minus_most, minus_least, minus_above}
use Rattle.rules.proofs.Isolation.Homes.{home_low, home_high}
use Rattle.rules.proofs.Distance.Rounds.{rank, rank_lt, rank_bound}
use Rattle.rules.proofs.Forwarding.Routing.{Nearer}
use Rattle.rules.proofs.Forwarding.Steps.{Onto, View, there, plain, stuck, other, other_down, around, around_down, view}
use Rattle.rules.proofs.Forwarding.Runs.{hops_left, next_of, other_of, around_of, starts, trip}
use Rattle.rules.proofs.Forwarding.Delivery.{delivery}
use Rattle.rules.proofs.Forwarding.ChangeKinds.{kinds}
use Rattle.rules.proofs.Report.Lines.{Changes, detected, detection_changes}

-- a run from where the packet is to go makes no hop
there_already : (S : Set) (on : ℕ → ℕ → Bool) (h v t : ℕ) → v ≡ t → length (run S (tables_of S) on h (packet v t 0)).visited ≡ 0
unfolding run step after_step stop
there_already S on zero v t e = rw (eq-eqb v t e) refl
there_already S on (suc h) v t e = rw (eq-eqb v t e) refl

-- ---- with nothing down

module _ (S : Set) (A : AcceptedSet S) where
  abbrev free : ℕ → ℕ → Bool
  free = up S nothing

  -- a packet moves to its next hop, or is there
  free_step : (p : Packet) (s : Step) (moved : Packet → Kind → Run) (P : ℕ → Type 0) → View S free p s → (p.place ≡ p.destination → P 0)
      → ((v : ℕ) → Onto S free p v → P (length (moved (packet v p.destination p.topology) change.Unchanged).visited))
      → P (length (after_step s moved).visited)
  unfolding after_step stop up
  free_step p s moved P (there e) none more = none e
  free_step p s moved P (plain v e o) none more = more v e
  free_step p s moved P (stuck v e o z) none more = absurd (true≢false o)
  free_step p s moved P (other v w d e ne o) none more = absurd (true≢false d.1)
  free_step p s moved P (other_down v w d e ne o) none more = absurd (true≢false d.1)
  free_step p s moved P (around v d e o) none more = absurd (true≢false d.1)
  free_step p s moved P (around_down v d e o) none more = absurd (true≢false d.1)

  -- it passes each nearer node once at most
  free_few : (h u t : ℕ) → u < S.net.n → t < S.net.n
      → length (run S (tables_of S) free h (packet u t 0)).visited ≤ rank (λ x. distance S 0 x t) S.net.n u
  unfolding run stop onward
  free_few zero u t lu lt =
      free_step (packet u t 0) (step S (tables_of S) free (packet u t 0)) (λ q kind. stop (packet u t 0) ended.UnderWay)
      (λ x. x ≤ rank (λ y. distance S 0 y t) S.net.n u) (view S free (packet u t 0)) (λ e. omega arith) (λ v e. omega arith)
  free_few (suc h) u t lu lt =
      free_step (packet u t 0) (step S (tables_of S) free (packet u t 0)) (λ q kind. onward q.place kind (run S (tables_of S) free h q))
      (λ x. x ≤ rank (λ y. distance S 0 y t) S.net.n u) (view S free (packet u t 0)) (λ e. omega arith)
      (λ v e.
      let q = next_of S A free (packet u t 0) (starts S A free u t lu lt) v e in
      omega (arith, free_few h v t q.node lt, rank_lt (λ x. distance S 0 x t) S.net.n u v q.node q.near))

  module _ (u t : ℕ) (lu : u < S.net.n) (lt : t < S.net.n) (ne : u ≡ t → ⊥) where
    plain_few : plain_hops S u t < S.net.n
    unfolding plain_hops hops run_under
    plain_few = omega (arith, free_few (most_hops S.net) u t lu lt, rank_bound (λ x. distance S 0 x t) S.net.n u lu)

    some : (l : List ℕ) → last u l ≡ t → 1 ≤ length l
    some [] e = absurd (ne e)
    some (w ∷ l) e = omega arith

    plain_some : 1 ≤ plain_hops S u t
    unfolding plain_hops hops failed
    plain_some =
        let D = delivery S A nothing tt u t lu lt refl refl in
        some (run_under S nothing u t).visited (D.bounded.ends ∙ D.place)

    -- where the next hop is the destination
    plain_one : t ≡ next_hop S 0 u t → plain_hops S u t ≡ 1
    unfolding plain_hops hops run_under run onward most_hops
    plain_one e =
        let size : most_hops S.net ≡ suc (2 * S.net.n - 4) = omega (arith, A.rules.limits.nodes.0) in
        subst (λ (h : ℕ). length (run S (tables_of S) free h (packet u t 0)).visited ≡ 1) (sym size)
        (free_step (packet u t 0) (step S (tables_of S) free (packet u t 0)) (λ q kind. onward q.place kind (run S (tables_of S) free (2 * S.net.n - 4) q))
        (λ x. x ≡ 1) (view S free (packet u t 0)) (λ z. absurd (ne z)) (λ v o. ap suc (there_already S free (2 * S.net.n - 4) v t (o.1 ∙ sym e))))

    -- ---- with the link to the next hop down

    abbrev on : ℕ → ℕ → Bool
    on = up S (link (detected_link S u t))

    -- in a backup topology the nodes nearer to the destination bound the hops
    left_backup : (j w : ℕ) → 1 ≤ j → hops_left S t j w ≡ rank (λ x. distance S j x t) S.net.n w
    left_backup zero w lo = absurd (omega arith)
    left_backup (suc j) w lo = refl

    after_change : (h j w : ℕ) → 1 ≤ j → j ≤ S.net.k → S.net.n ≤ h + 2 → Nearer S j u t w → length (run S (tables_of S) on h (packet w t j)).visited + 2 ≤ S.net.n
    after_change h j w lo hi long q =
        let e = left_backup j w lo in
        let less = rank_lt (λ x. distance S j x t) S.net.n u w q.node q.near in
        let most = rank_bound (λ x. distance S j x t) S.net.n u lu in
        omega (arith, (trip S A on h (packet w t j) (record { node = q.node; end = lt; known = hi }) (omega arith)).few)

    changed_few : (h : ℕ) (s : Step) → View S on (packet u t 0) s → S.net.n ≤ h + 2
        → length (after_step s (λ q kind. onward q.place kind (run S (tables_of S) on h q))).visited < S.net.n
    unfolding after_step stop onward
    changed_few h s (there e) long = omega arith
    changed_few h s (plain v e o) long = absurd (detected S A u t lu lt ne v e.1 o)
    changed_few h s (stuck v e o z) long = omega arith
    changed_few h s (other_down v w d e neq o) long = omega arith
    changed_few h s (around_down v d e o) long = omega arith
    changed_few h s (other v w d e neq o) long =
        let W = starts S A on u t lu lt in
        let lv = (next_of S A on (packet u t 0) W v d.0).node in
        omega (arith, after_change h (home S v) w (home_low S A v lv) (home_high S A v lv) long (other_of S A on (packet u t 0) W v w d e))
    changed_few h s (around v d e o) long =
        let W = starts S A on u t lu lt in
        omega (arith, after_change h (home S u) (alternate S u v) (home_low S A u lu) (home_high S A u lu) long (around_of S A on (packet u t 0) W v d e))

    backup_few : backup_hops S u t < S.net.n
    unfolding backup_hops hops run_under run most_hops
    backup_few =
        let size : most_hops S.net ≡ suc (2 * S.net.n - 4) = omega (arith, A.rules.limits.nodes.0) in
        subst (λ (h : ℕ). length (run S (tables_of S) on h (packet u t 0)).visited < S.net.n) (sym size)
        (changed_few (2 * S.net.n - 4) (step S (tables_of S) on (packet u t 0)) (view S on (packet u t 0)) (omega (arith, A.rules.limits.nodes.0)))

    backup_some : 1 ≤ backup_hops S u t
    unfolding backup_hops hops failed
    backup_some =
        let D = delivery S A (link (detected_link S u t)) tt u t lu lt refl refl in
        some (run_under S (link (detected_link S u t)) u t).visited (D.bounded.ends ∙ D.place)

    -- no single hop leads to the next hop
    two : t ≡ next_hop S 0 u t → (l : List ℕ) → EachHop (λ x y. (neighbours S x y ≡ true) × (on x y ≡ true)) u l → last u l ≡ t → 2 ≤ length l
    two via [] q e = absurd (ne e)
    two via (w ∷ []) q e = absurd (detected S A u t lu lt ne w (e ∙ via) q.0.1)
    two via (w ∷ x ∷ l) q e = omega arith

    backup_two : t ≡ next_hop S 0 u t → 2 ≤ backup_hops S u t
    unfolding backup_hops hops failed
    backup_two via =
        let D = delivery S A (link (detected_link S u t)) tt u t lu lt refl refl in
        two via (run_under S (link (detected_link S u t)) u t).visited D.bounded.crossed (D.bounded.ends ∙ D.place)

    -- ---- the kind tells whether the next hop is the destination

    last_in : (s : Step) → detection S u t ≡ s → Changes t s → ((kind_of s ≡ change.S → t ≡ next_hop S 0 u t) × (kind_of s ≡ change.D → t ≡ next_hop S 0 u t))
    unfolding kind_of detection
    last_in (Delivered q) e c = absurd c
    last_in (Dropped q) e c = absurd c
    last_in (Moved q kind) e c =
        let K = kinds S A on (packet u t 0) (starts S A on u t lu lt) q kind e (λ z. let lo = c.1 in omega arith) in
        (λ k. (K.same_home.0 k).0, λ k. (K.two_homes.0 k).0)

    above : t ≡ next_hop S 0 u t → plain_hops S u t < backup_hops S u t
    above e = omega (arith, plain_one e, backup_two e)

-- ---- the line's last field

-- the fields before it
abbrev before : Set → ℕ → ℕ → List ℕ
before S u t =
    decimal u ++ (space
    ++ (decimal (next_hop S 0 u t) ++ (space
    ++ (decimal t ++ (space
    ++ (letter (kind_of (detection S u t)) ∷ (space
    ++ (decimal (packet_of (detection S u t)).topology ++ (space
    ++ (decimal (packet_of (detection S u t)).place ++ (space
    ++ (decimal (backup_hops S u t) ++ space))))))))))))

ends_in : (S : Set) (u t : ℕ) → detection_line S u t ≡ before S u t ++ (signed (extra_hops S u t) ++ newline)
unfolding detection_line
ends_in S u t = simp append_assoc

-- ---- its sign

minus_sign : (z : ℤ) → z <ℤ pos 0 → signed z ≡ 45 ∷ decimal (nat_abs z)
unfolding signed
minus_sign (pos x) l = absurd (omega (arith, ltb→lt x 0 l.lt))
minus_sign (negsuc x) l = ap (λ (y : ℕ). 45 ∷ decimal y) (add-one x)

no_sign : (z : ℤ) → pos 0 ≤ℤ z → signed z ≡ decimal (nat_abs z)
unfolding signed
no_sign (pos x) l = refl
no_sign (negsuc x) l = absurd l.le

pub extras_are : ExtrasAre
unfolding extra_hops
extras_are S A u t lu lt ne =
    let b = backup_hops S u t in
    let p = plain_hops S u t in
    let kind = last_in S A u t lu lt ne (detection S u t) refl (detection_changes S A u t lu lt ne) in
    record {
      field = (before S u t, ends_in S u t);
      below_zero = minus_sign (extra_hops S u t);
      not_below = no_sign (extra_hops S u t);
      sum = -ℤ-+ℤ_cancel (pos b) (pos p);
      least = minus_least b p (S.net.n - 2) (omega (arith, backup_some S A u t lu lt ne, plain_few S A u t lu lt ne));
      most = minus_most b p (S.net.n - 2) (omega (arith, plain_some S A u t lu lt ne, backup_few S A u t lu lt ne));
      above_in_s = λ k. minus_above b p (above S A u t lu lt ne (kind.0 k));
      above_in_d = λ k. minus_above b p (above S A u t lu lt ne (kind.1 k));
    }
