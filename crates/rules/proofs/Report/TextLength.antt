-- A report fits its room: every number of a line is below 100, the extra hops above -100, so they have at most two digits and a minus sign; and the count of the
-- last line is below 1,000.
use Rattle.std.specs.Prelude.{if◌then◌else◌}
use mathlib.Core.Path.{◌≡◌, refl, sym, ap, subst, ◌∙◌}
use mathlib.Core.Bool.{Bool, true, false}
use mathlib.Core.List.{List, [], ◌∷◌, ◌++◌}
use Prim.Native.Nat.{ℕ, zero, suc, ◌+◌, ◌-◌, ◌*◌, ◌/◌, ◌%◌, ◌≤◌, ◌<◌}
use native.Mathlib.Nat.{mul_assoc, mul-le-mul, mul-le-mul_right, mod-eq_of_lt, suc-mul, zero-mul}
use native.Mathlib.Omega.{arith}
use lib.Dec.{eqb, ltb}
use lib.IntN.{ℤ, pos, ◌-ℤ◌}
use lib.ListN.{length, length-append}
use borrow.Author.Tests.{lt-ltb, le-ltb, eq-eqb, ltb-true, ltb-false, eqb-true, eqb-false}
use Rattle.rules.specs.declared.Step.{Step}
use Rattle.rules.specs.Basics.{flat}
use Rattle.rules.specs.Limits.{most_hops, report_line, report_last, largest, report_room}
use Rattle.rules.specs.File.{Set}
use Rattle.rules.specs.Distance.{next_hop}
use Rattle.rules.specs.Forwarding.{nothing, link, up, packet, run_under}
use Rattle.rules.specs.Report.{digits, decimal, signed, header_line, packet_of, detected_link, detection, backup_hops, plain_hops, extra_hops, detection_line, detection_lines, last_line, report_text}
use Rattle.rules.specs.Sets.{AcceptedSet}
use Rattle.rules.proofs.Ground.Choices.{if_yes, if_no}
use Rattle.rules.proofs.Ground.Integers.{by_larger}
use Rattle.rules.proofs.Distance.NextHops.{least_next_hops}
use Rattle.rules.proofs.Forwarding.Runs.{Within, advance, starts, always_bounded}
use Rattle.rules.proofs.Report.Lines.{lines_are_runs}

-- ---- decimal

pub digits_one : (more x : ℕ) → x < 10 → digits more x ≡ (48 + x) ∷ []
unfolding digits
digits_one zero x h = ap (λ (y : ℕ). (48 + y) ∷ []) (mod-eq_of_lt h)
digits_one (suc more) x h = if_yes (ltb x 10) ((48 + x) ∷ []) (digits more (x / 10) ++ ((48 + x % 10) ∷ [])) (lt-ltb x 10 h)

pub digits_more : (more x : ℕ) → 10 ≤ x → digits (suc more) x ≡ digits more (x / 10) ++ ((48 + x % 10) ∷ [])
unfolding digits
digits_more more x h = if_no (ltb x 10) ((48 + x) ∷ []) (digits more (x / 10) ++ ((48 + x % 10) ∷ [])) (le-ltb x 10 h)

digits_two : (more x : ℕ) → 10 ≤ x → x < 100 → digits (suc more) x ≡ (48 + x / 10) ∷ (48 + x % 10) ∷ []
digits_two more x l h = digits_more more x l ∙ ap (λ (d : List ℕ). d ++ ((48 + x % 10) ∷ [])) (digits_one more (x / 10) (omega arith))

-- the digits of a number below 1,000
pub decimal_one : (x : ℕ) → x < 10 → decimal x ≡ (48 + x) ∷ []
unfolding decimal
decimal_one x h = digits_one 19 x h

pub decimal_two : (x : ℕ) → 10 ≤ x → x < 100 → decimal x ≡ (48 + x / 10) ∷ (48 + x % 10) ∷ []
unfolding decimal
decimal_two x l h = digits_two 18 x l h

pub decimal_three : (x : ℕ) → 100 ≤ x → x < 1000 → decimal x ≡ (48 + x / 10 / 10) ∷ (48 + x / 10 % 10) ∷ (48 + x % 10) ∷ []
unfolding decimal
decimal_three x l h =
    digits_more 18 x (omega arith)
    ∙ ap (λ (d : List ℕ). d ++ ((48 + x % 10) ∷ [])) (digits_two 17 (x / 10) (omega arith) (omega arith))

-- how many they are
pub decimal_long : (x most : ℕ) → x < 100 → 2 ≤ most → length (decimal x) ≤ most
decimal_long x most h g = go (ltb x 10) refl
  where
    go : (b : Bool) → ltb x 10 ≡ b → length (decimal x) ≤ most
    go true e = omega (arith, ap length (decimal_one x (ltb-true x 10 e)))
    go false e = omega (arith, ap length (decimal_two x (ltb-false x 10 e) h))

pub decimal_longest : (x : ℕ) → x < 1000 → length (decimal x) ≤ 3
decimal_longest x h = go (ltb x 100) refl
  where
    go : (b : Bool) → ltb x 100 ≡ b → length (decimal x) ≤ 3
    go true e = decimal_long x 3 (ltb-true x 100 e) (omega arith)
    go false e = omega (arith, ap length (decimal_three x (ltb-false x 100 e) h))

-- with a minus sign, where it is needed
pub signed_long : (a b : ℕ) → a < 100 → b < 100 → length (signed (pos a -ℤ pos b)) ≤ 3
unfolding signed
signed_long a b la lb =
    by_larger (λ (z : ℤ). length (signed z) ≤ 3) a b (λ l. omega (arith, decimal_long (b - a - 1 + 1) 2 (omega arith) (omega arith)))
    (λ l. decimal_long (a - b) 3 (omega arith) (omega arith))

-- ---- lists one after the other, each of at most so many bytes, and one of them empty

module _ (f : ℕ → List ℕ) (w : ℕ) where
  pub flat_few : (n : ℕ) → ((x : ℕ) → x < n → length (f x) ≤ w) → length (flat f n) ≤ n * w
  unfolding flat
  flat_few zero h = omega (arith, zero-mul w)
  flat_few (suc n) h = omega (arith, length-append (flat f n) (f n), suc-mul n w, flat_few n (λ x l. h x (omega arith)), h n (omega arith))

  pub flat_fewer : (n u : ℕ) → ((x : ℕ) → x < n → length (f x) ≤ w) → u < n → length (f u) ≡ 0 → length (flat f n) + w ≤ n * w
  unfolding flat
  flat_fewer zero u h l e = absurd (omega arith)
  flat_fewer (suc n) u h l e = go (λ q. flat_fewer n u (λ x m. h x (omega arith)) q e) (eqb u n) refl
    where
      go : (u < n → length (flat f n) + w ≤ n * w) → (b : Bool) → eqb u n ≡ b → length (flat f n ++ f n) + w ≤ suc n * w
      go less true q =
          let z : length (f n) ≡ 0 = ap (λ (x : ℕ). length (f x)) (sym (eqb-true u n q)) ∙ e in
          omega (arith, length-append (flat f n) (f n), suc-mul n w, flat_few n (λ x l. h x (omega arith)))
      go less false q =
          let ne = eqb-false u n q in
          omega (arith, length-append (flat f n) (f n), suc-mul n w, less (omega arith), h n (omega arith))

-- ---- a line

-- the numbers of a line
pub record Small (S : Set) (u t : ℕ) : Type 0 where
  pub node : u < 100
  pub end : t < 100
  pub via : next_hop S 0 u t < 100
  pub topology : (packet_of (detection S u t)).topology < 100
  pub next : (packet_of (detection S u t)).place < 100
  pub backup : backup_hops S u t < 100
  pub plain : plain_hops S u t < 100

module _ (S : Set) (A : AcceptedSet S) where
  -- the packet after the detecting step is within its ranges
  pub after_detection : (u t : ℕ) → u < S.net.n → t < S.net.n → (u ≡ t → ⊥) → Within S (packet_of (detection S u t))
  unfolding packet_of detection
  after_detection u t lu lt ne =
      let L = lines_are_runs S A u t lu lt ne in
      let on = up S (link (detected_link S u t)) in
      subst (λ (s : Step). Within S (packet_of s)) (sym L.moved)
      (advance S A on (packet u t 0) (starts S A on u t lu lt) _ _ L.moved).within

  pub small : (u t : ℕ) → u < S.net.n → t < S.net.n → (u ≡ t → ⊥) → Small S u t
  unfolding backup_hops plain_hops run_under most_hops
  small u t lu lt ne =
      let n = A.rules.limits.nodes.1 in
      let k = A.rules.limits.topologies.0 in
      let W = after_detection u t lu lt ne in
      let few = (always_bounded S A (up S (link (detected_link S u t))) u t lu lt).few in
      let free = (always_bounded S A (up S nothing) u t lu lt).few in
      record {
        node = omega arith;
        end = omega arith;
        via = omega (arith, (least_next_hops S A 0 u t (omega arith) lu lt ne).node);
        topology = omega (arith, W.known);
        next = omega (arith, W.node);
        backup = omega arith;
        plain = omega arith;
      }

  -- seven numbers of at most two digits, a minus sign, a letter, seven spaces and a newline
  pub line_few : (u t : ℕ) → u < S.net.n → t < S.net.n → (u ≡ t → ⊥) → length (detection_line S u t) ≤ report_line
  unfolding detection_line extra_hops
  line_few u t lu lt ne =
      let m = small u t lu lt ne in
      simp length-append
      (omega (
        arith,
        decimal_long u 2 m.node (omega arith),
        decimal_long (next_hop S 0 u t) 2 m.via (omega arith),
        decimal_long t 2 m.end (omega arith),
        decimal_long (packet_of (detection S u t)).topology 2 m.topology (omega arith),
        decimal_long (packet_of (detection S u t)).place 2 m.next (omega arith),
        decimal_long (backup_hops S u t) 2 m.backup (omega arith),
        signed_long (backup_hops S u t) (plain_hops S u t) m.backup m.plain,
      ))

  -- ---- the whole text

  -- the line for t, or none where t is the node itself
  line_for : ℕ → ℕ → List ℕ
  line_for u t = if eqb u t then [] else detection_line S u t

  line_for_few : (u t : ℕ) → u < S.net.n → t < S.net.n → length (line_for u t) ≤ report_line
  unfolding line_for
  line_for_few u t lu lt = go (eqb u t) refl
    where
      go : (b : Bool) → eqb u t ≡ b → length (if eqb u t then [] else detection_line S u t) ≤ report_line
      go true e = omega (arith, ap length (if_yes (eqb u t) [] (detection_line S u t) e))
      go false e = omega (arith, ap length (if_no (eqb u t) [] (detection_line S u t) e), line_few u t lu lt (eqb-false u t e))

  -- a node's lines: one for each other destination
  node_few : (u : ℕ) → u < S.net.n → length (flat (line_for u) S.net.n) ≤ (S.net.n - 1) * report_line
  unfolding line_for
  node_few u lu =
      let e : length (line_for u u) ≡ 0 = ap length (if_yes (eqb u u) [] (detection_line S u u) (eq-eqb u u refl)) in
      omega (arith, flat_fewer (line_for u) report_line S.net.n u (λ t lt. line_for_few u t lu lt) lu e)

  lines_few : length (detection_lines S) ≤ S.net.n * (S.net.n - 1) * report_line
  unfolding detection_lines line_for
  lines_few =
      omega (arith, flat_few (λ u. flat (line_for u) S.net.n) ((S.net.n - 1) * report_line) S.net.n node_few, mul_assoc S.net.n (S.net.n - 1) report_line)

  -- how many detections there are at most
  pub detections_few : S.net.n * (S.net.n - 1) ≤ 992
  detections_few =
      let n = A.rules.limits.nodes.1 in
      mul-le-mul {n₁ = S.net.n} {m₁ = S.net.n - 1} {n₂ = 32} {m₂ = 31} n (omega arith)

  last_few : length (last_line S) ≤ report_last
  unfolding last_line
  last_few = simp length-append (omega (arith, decimal_longest (S.net.n * (S.net.n - 1)) (omega (arith, detections_few))))

  pub report_fits : length (report_text S) ≤ report_room S.net
  unfolding report_text report_room header_line
  report_fits = simp length-append (omega (arith, lines_few, last_few))

  -- the longest report
  pub report_longest : length (report_text S) ≤ report_room largest
  unfolding report_room
  report_longest = omega (arith, report_fits, mul-le-mul_right {m = S.net.n * (S.net.n - 1)} {n = 992} report_line detections_few)
