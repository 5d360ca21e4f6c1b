-- Answers as words.
use mathlib.Core.Path.{◌≡◌, ◌∙◌}
use mathlib.Core.List.{[], ◌∷◌}
use Prim.Native.Nat.{ℕ, ◌+◌, ◌*◌, ◌≤◌, ◌<◌}
use native.Mathlib.Omega.{arith}
use borrow.Author.Tests.{eq-eqb, ne_eqb, lt-ltb, le-ltb}
use Rattle.rules.specs.declared.Network.{Network}
use Rattle.rules.specs.declared.Packet.{Packet}
use Rattle.rules.specs.declared.Journey.{Journey}
use Rattle.rules.specs.declared.Failure.TheVariants.{Nothing, Link, Node}
use Rattle.rules.specs.declared.Kind.{Kind}
use Rattle.rules.specs.declared.Kind.TheVariants as change
use Rattle.rules.specs.declared.Outcome.{Outcome}
use Rattle.rules.specs.declared.Outcome.TheVariants as ended
use Rattle.rules.specs.declared.Step.{Step}
use Rattle.rules.specs.declared.Step.TheVariants.{Delivered, Moved, Dropped}
use Rattle.rules.specs.Forwarding.{letter}
use Rattle.rules.specs.Answers.{header_values, outcome_value, packet_values, step_values, journey_values}
use Rattle.answerwords.specs.Words.{pack, by_length, by_read, by_step, by_run, failure_of}

-- ---- words

pub length_is : (bytes : ℕ) → bytes ≡ pack by_length (bytes ∷ [])
unfolding pack
length_is bytes = omega arith

pub header_is : (h : Network) → h.n + 256 * (h.m + 65536 * (h.k + 256 * h.wmax)) ≡ pack by_read (header_values h)
unfolding pack header_values
header_is h = omega arith

-- ---- outcomes

pub outcome_under_way : (o : Outcome) → o ≡ ended.UnderWay → 0 ≡ outcome_value o
unfolding outcome_value
outcome_under_way o e = rw e

pub outcome_delivered : (o : Outcome) → o ≡ ended.Delivered → 1 ≡ outcome_value o
unfolding outcome_value
outcome_delivered o e = rw e

pub outcome_dropped : (o : Outcome) → o ≡ ended.Dropped → 2 ≡ outcome_value o
unfolding outcome_value
outcome_dropped o e = rw e

-- ---- steps and runs

pub packet_is : (p : Packet) → p.place + 256 * (p.destination + 256 * p.topology) ≡ pack (256 ∷ 256 ∷ 256 ∷ []) (p.place ∷ p.destination ∷ p.topology ∷ [])
unfolding pack
packet_is p = omega arith

pub stands_is : (o : Outcome) (outcome letter w : ℕ) (p : Packet) → outcome ≡ outcome_value o → w ≡ pack (256 ∷ 256 ∷ 256 ∷ []) (p.place ∷ p.destination ∷ p.topology ∷ [])
    → outcome + 256 * (letter + 256 * w) ≡ pack by_step (outcome_value o ∷ letter ∷ p.place ∷ p.destination ∷ p.topology ∷ [])
unfolding pack
stands_is o outcome letter w p d e = rw (← d, e)

pub step_delivered : (s : Step) (p : Packet) (l w : ℕ) → s ≡ Delivered p → l ≡ letter change.Unchanged → w ≡ pack by_step (outcome_value ended.Delivered ∷ l ∷ p.place ∷ p.destination ∷ p.topology ∷ [])
    → w ≡ pack by_step (step_values s)
unfolding step_values packet_values outcome_value letter
step_delivered s p l w e g d = d ∙ rw (e, g)

pub step_moved : (s : Step) (p : Packet) (k : Kind) (l w : ℕ) → s ≡ Moved p k → l ≡ letter k → w ≡ pack by_step (outcome_value ended.UnderWay ∷ l ∷ p.place ∷ p.destination ∷ p.topology ∷ [])
    → w ≡ pack by_step (step_values s)
unfolding step_values packet_values outcome_value
step_moved s p k l w e g d = d ∙ rw (e, g)

pub step_dropped : (s : Step) (p : Packet) (l w : ℕ) → s ≡ Dropped p → l ≡ letter change.Unchanged → w ≡ pack by_step (outcome_value ended.Dropped ∷ l ∷ p.place ∷ p.destination ∷ p.topology ∷ [])
    → w ≡ pack by_step (step_values s)
unfolding step_values packet_values outcome_value letter
step_dropped s p l w e g d = d ∙ rw (e, g)

pub journey_is : (j : Journey) (x y : ℕ) → x ≡ outcome_value j.outcome → y ≡ letter j.kind → x + 256 * (j.hops + 256 * (j.topology + 256 * y)) ≡ pack by_run (journey_values j)
unfolding pack journey_values
journey_is j x y e d = rw (← e, ← d) (omega arith)

-- ---- what is down

pub down_nothing : (kind failed : ℕ) → kind ≡ 0 → Nothing ≡ failure_of kind failed
unfolding failure_of
down_nothing kind failed e = rw (eq-eqb kind 0 e)

pub down_link : (kind failed : ℕ) → kind ≡ 1 → Link failed ≡ failure_of kind failed
unfolding failure_of
down_link kind failed e = rw (ne_eqb kind 0 (λ z. omega arith), eq-eqb kind 1 e)

pub down_unknown : (kind failed : ℕ) → (kind ≡ 0 → ⊥) → (kind ≡ 1 → ⊥) → (kind ≡ 2 → ⊥) → Link 65535 ≡ failure_of kind failed
unfolding failure_of
down_unknown kind failed a b c = rw (ne_eqb kind 0 a, ne_eqb kind 1 b, ne_eqb kind 2 c)

pub down_node : (kind failed : ℕ) → kind ≡ 2 → failed < 256 → Node failed ≡ failure_of kind failed
unfolding failure_of
down_node kind failed e l = rw (ne_eqb kind 0 (λ z. omega arith), ne_eqb kind 1 (λ z. omega arith), eq-eqb kind 2 e, lt-ltb failed 256 l)

pub down_no_node : (kind failed : ℕ) → kind ≡ 2 → 256 ≤ failed → Link 65535 ≡ failure_of kind failed
unfolding failure_of
down_no_node kind failed e l = rw (ne_eqb kind 0 (λ z. omega arith), ne_eqb kind 1 (λ z. omega arith), eq-eqb kind 2 e, le-ltb failed 256 l)

pub ruleset outcomes = (outcome_under_way, outcome_delivered, outcome_dropped)

pub ruleset steps = (step_delivered, step_moved, step_dropped)

pub ruleset down = (down_nothing, down_link, down_unknown, down_node, down_no_node)
