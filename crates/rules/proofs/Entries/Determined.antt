-- Demand 1 of any entry: it takes every input, a refusal alters nothing, lengths are kept, and two results that its promise allows coincide. The answers that
-- each telling has.
use Rattle.std.specs.Prelude.{if◌then◌else◌, Ok}
use mathlib.Core.Path.{◌≡◌, refl, sym, ap, ap₂, ◌∙◌}
use mathlib.Core.List.{List, [], ◌∷◌}
use Prim.Native.Nat.{ℕ}
use native.Mathlib.Omega.{arith}
use lib.Dec.{eqb}
use Rattle.rules.specs.Forwarding.{Run, hops, letter}
use Rattle.rules.specs.Answers.{ReadAnswer, LengthAnswer, StepAnswer, RunAnswer, accepted, refused, tell, header_values, read_tells, length_tells, outcome_value, packet_values, step_values, step_tells, journey_values, run_tells, tells}
use Rattle.rules.specs.Entries.Entry.{Entry, on_accept}
use Rattle.rules.specs.Entries.Run.{run_values}
use Rattle.rules.specs.Demands.One.{Numbered, TakesEveryInput}
use Rattle.rules.specs.declared.Network.{Network}
use Rattle.rules.specs.declared.Packet.{Packet}
use Rattle.rules.specs.declared.Journey.{Journey}
use Rattle.rules.specs.Verdict.{Verdict, Accepted, Refused}
use Rattle.rules.proofs.Ground.Ruling.{tells_one, tells_some}
use Rattle.rules.specs.declared.Kind.{Kind}
use Rattle.rules.specs.declared.Kind.TheVariants as change
use Rattle.rules.specs.declared.Step.{Step}
use Rattle.rules.specs.declared.Step.TheVariants.{Delivered, Moved, Dropped}
use Rattle.rules.specs.declared.Outcome.{Outcome}
use Rattle.rules.specs.declared.Outcome.TheVariants as ended

-- ---- an entry takes every input where each telling has an answer, and only one

-- a refusal is told of that refused verdict alone
pub tells_refused : (v : Verdict) (given : List ℕ) (number place : ℕ) → refused number place ≡ tell v given → v ≡ Refused number place
unfolding tell
tells_refused Accepted given number place e = let z : ◌≡◌ {A = ℕ} 0 1 = cc in absurd (omega arith)
tells_refused (Refused x y) given number place e = cc

module _ {Input Lent Answer : Type 0} (E : Entry Input Lent Answer) (lengths : Lent → List ℕ)
    (answered : (v : Verdict) (i : Input) (before : Lent) → Numbered v → (r : Answer) × (E.tells r ≡ tell v (E.gives i before)))
    (one : (r r' : Answer) → E.tells r ≡ E.tells r' → r ≡ r')
    (long : (i : Input) (before : Lent) → E.verdict i before ≡ Accepted → lengths (E.leaves i before) ≡ lengths before)
    (numbered : (i : Input) (before : Lent) → Numbered (E.verdict i before)) where
  kept_by : (i : Input) (before : Lent) (v : Verdict) → E.verdict i before ≡ v → lengths (on_accept v (E.leaves i before) before) ≡ lengths before
  unfolding on_accept
  kept_by i before Accepted e = long i before e
  kept_by i before (Refused number place) e = refl

  pub takes_every_input : TakesEveryInput E lengths
  unfolding tell on_accept
  takes_every_input =
      record {
        taken = λ i before.
            let s = answered (E.verdict i before) i before (numbered i before) in
            (s.0, on_accept (E.verdict i before) (E.leaves i before) before, record { answer = s.1; lent = refl });
        refuses = λ i before r after number place P e. P.answer ∙ rw e;
        numbered = λ i before r after number place P e.
            numbered i before number place (tells_refused (E.verdict i before) (E.gives i before) number place (sym e ∙ P.answer));
        unaltered = λ i before r after number place P e.
            P.lent ∙ ap (λ (v : Verdict). on_accept v (E.leaves i before) before) (tells_refused (E.verdict i before) (E.gives i before) number place (sym e ∙ P.answer));
        kept = λ i before r after P. ap lengths P.lent ∙ kept_by i before (E.verdict i before) refl;
        determined = λ i before r r' after after' P Q. (one r r' (P.answer ∙ sym Q.answer), P.lent ∙ sym Q.lent);
      }

-- ---- the answers

pub header_one : (h h' : Network) → header_values h ≡ header_values h' → h ≡ h'
unfolding header_values
header_one h h' e =
    let n : h.n ≡ h'.n = cc in
    let m : h.m ≡ h'.m = cc in
    let k : h.k ≡ h'.k = cc in
    let w : h.wmax ≡ h'.wmax = cc in
    λ i. record { n = n i; m = m i; k = k i; wmax = w i }

pub read_one : (r r' : ReadAnswer) → read_tells r ≡ read_tells r' → r ≡ r'
read_one r r' e = tells_one header_values header_one r r' e

length_values_one : (b b' : ℕ) → b ∷ [] ≡ b' ∷ [] → b ≡ b'
length_values_one b b' e = cc

pub length_one : (r r' : LengthAnswer) → length_tells r ≡ length_tells r' → r ≡ r'
length_one r r' e = tells_one (λ b. b ∷ []) length_values_one r r' e

-- a kind by its letter
kind_for : ℕ → Kind
kind_for x = if eqb x 84 then change.T else (if eqb x 83 then change.S else (if eqb x 68 then change.D else change.Unchanged))

kind_back : (k : Kind) → kind_for (letter k) ≡ k
unfolding kind_for letter
kind_back change.Unchanged = refl
kind_back change.T = refl
kind_back change.S = refl
kind_back change.D = refl

kind_one : (k k' : Kind) → letter k ≡ letter k' → k ≡ k'
kind_one k k' e = sym (kind_back k) ∙ ap kind_for e ∙ kind_back k'

-- an outcome by its number
outcome_for : ℕ → Outcome
outcome_for x = if eqb x 0 then ended.UnderWay else (if eqb x 1 then ended.Delivered else ended.Dropped)

outcome_back : (o : Outcome) → outcome_for (outcome_value o) ≡ o
unfolding outcome_for outcome_value
outcome_back ended.UnderWay = refl
outcome_back ended.Delivered = refl
outcome_back ended.Dropped = refl

outcome_one : (o o' : Outcome) → outcome_value o ≡ outcome_value o' → o ≡ o'
outcome_one o o' e = sym (outcome_back o) ∙ ap outcome_for e ∙ outcome_back o'

packet_one : (p p' : Packet) → packet_values p ≡ packet_values p' → p ≡ p'
unfolding packet_values
packet_one p p' e =
    let u : p.place ≡ p'.place = cc in
    let t : p.destination ≡ p'.destination = cc in
    let j : p.topology ≡ p'.topology = cc in
    λ i. record { place = u i; destination = t i; topology = j i }

-- the parts of a step's values
tail_of : (x y x' y' : ℕ) (l l' : List ℕ) → x ∷ y ∷ l ≡ x' ∷ y' ∷ l' → (x ≡ x') × (y ≡ y') × (l ≡ l')
tail_of x y x' y' l l' e = (cc, cc, cc)

-- two steps that stand differently tell different values
apart : (x y x' y' : ℕ) (l l' : List ℕ) → (x ≡ x' → ⊥) → x ∷ y ∷ l ≡ x' ∷ y' ∷ l' → ⊥
apart x y x' y' l l' ne e = ne (tail_of x y x' y' l l' e).0

steps_one : (s s' : Step) → step_values s ≡ step_values s' → s ≡ s'
unfolding step_values
steps_one (Delivered p) (Delivered q) e = ap Delivered (packet_one p q (tail_of _ _ _ _ (packet_values p) (packet_values q) e).2)
steps_one (Delivered p) (Moved q k) e = absurd (apart 1 _ 0 _ _ _ (λ z. omega arith) e)
steps_one (Delivered p) (Dropped q) e = absurd (apart 1 _ 2 _ _ _ (λ z. omega arith) e)
steps_one (Moved p k) (Delivered q) e = absurd (apart 0 _ 1 _ _ _ (λ z. omega arith) e)
steps_one (Moved p k) (Moved q k') e =
    let z = tail_of 0 (letter k) 0 (letter k') (packet_values p) (packet_values q) e in
    ap₂ Moved (packet_one p q z.2) (kind_one k k' z.1)
steps_one (Moved p k) (Dropped q) e = absurd (apart 0 _ 2 _ _ _ (λ z. omega arith) e)
steps_one (Dropped p) (Delivered q) e = absurd (apart 2 _ 1 _ _ _ (λ z. omega arith) e)
steps_one (Dropped p) (Moved q k) e = absurd (apart 2 _ 0 _ _ _ (λ z. omega arith) e)
steps_one (Dropped p) (Dropped q) e = ap Dropped (packet_one p q (tail_of _ _ _ _ (packet_values p) (packet_values q) e).2)

pub step_one : (r r' : StepAnswer) → step_tells r ≡ step_tells r' → r ≡ r'
step_one r r' e = tells_one step_values steps_one r r' e

journey_one : (j j' : Journey) → journey_values j ≡ journey_values j' → j ≡ j'
unfolding journey_values
journey_one j j' e =
    let o = outcome_one j.outcome j'.outcome (cc) in
    let h : j.hops ≡ j'.hops = cc in
    let t : j.topology ≡ j'.topology = cc in
    let k = kind_one j.kind j'.kind (cc) in
    λ i. record { outcome = o i; hops = h i; topology = t i; kind = k i }

pub run_one : (r r' : RunAnswer) → run_tells r ≡ run_tells r' → r ≡ r'
run_one r r' e = tells_one journey_values journey_one r r' e

-- ---- each telling has an answer

pub length_says : (v : Verdict) (bytes : ℕ) → Numbered v → (r : LengthAnswer) × (length_tells r ≡ tell v (bytes ∷ []))
length_says v bytes f = tells_some (λ b. b ∷ []) bytes v f

pub read_says : (v : Verdict) (h : Network) → Numbered v → (r : ReadAnswer) × (read_tells r ≡ tell v (header_values h))
read_says v h f = tells_some header_values h v f

pub step_says : (v : Verdict) (s : Step) → Numbered v → (r : StepAnswer) × (step_tells r ≡ tell v (step_values s))
step_says v s f = tells_some step_values s v f

pub run_says : (v : Verdict) (r : Run) → Numbered v → (a : RunAnswer) × (run_tells a ≡ tell v (run_values r))
unfolding run_values journey_values
run_says v r f = tells_some journey_values (record { outcome = r.outcome; hops = hops r; topology = r.topology; kind = r.kind }) v f
