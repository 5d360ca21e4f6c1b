-- The numbers and values of 01 behind each case of an answer.
use Rattle.std.specs.Prelude.{List, [], ◌∷◌, ℕ, Result, Ok, Err}
use Rattle.rules.specs.declared.Network.{Network}
use Rattle.rules.specs.declared.Packet.{Packet}
use Rattle.rules.specs.declared.Journey.{Journey}
use Rattle.rules.specs.declared.Refusal.{Refusal}
use Rattle.rules.specs.declared.Step.{Step}
use Rattle.rules.specs.declared.Step.TheVariants.{Delivered, Moved, Dropped}
use Rattle.rules.specs.declared.Outcome.{Outcome}
use Rattle.rules.specs.declared.Outcome.TheVariants as ended
use Rattle.rules.specs.Verdict.{Verdict, Accepted, Refused, number_of}
use Rattle.rules.specs.Forwarding.{letter}

-- ---- what the entries answer: what a call gives, or the refusal

-- reading: the header
abbrev pub ReadAnswer : Type 0
ReadAnswer = Result Network Refusal

-- writing, building, tables, report: how many bytes
abbrev pub LengthAnswer : Type 0
LengthAnswer = Result ℕ Refusal

-- one step
abbrev pub StepAnswer : Type 0
StepAnswer = Result Step Refusal

-- a run
abbrev pub RunAnswer : Type 0
RunAnswer = Result Journey Refusal

-- ---- what a call tells

-- the values of an accepted one, or a refusal's number and place
pub data Told : Type 0 where
  accepted : List ℕ → Told
  refused : ℕ → ℕ → Told

-- the refusal that stands, or else these values
unfoldable pub tell : Verdict → List ℕ → Told
tell Accepted values = accepted values
tell (Refused number place) values = refused number place

-- an answer, by the values of what it gives
unfoldable pub tells : {A : Type 0} → (A → List ℕ) → Result A Refusal → Told
tells values (Ok x) = accepted (values x)
tells values (Err refusal) = refused (number_of refusal.rule) refusal.place

-- ---- the answers, case by case

-- the header's counts
unfoldable pub header_values : Network → List ℕ
header_values h = h.n ∷ h.m ∷ h.k ∷ h.wmax ∷ []

-- reading: n, m, k, wmax
abbrev pub read_tells : ReadAnswer → Told
read_tells r = tells header_values r

-- writing, building, tables, report: how many bytes
abbrev pub length_tells : LengthAnswer → Told
length_tells r = tells (λ bytes. bytes ∷ []) r

-- how a packet stands: 0 under way, 1 delivered, 2 dropped
unfoldable pub outcome_value : Outcome → ℕ
outcome_value ended.UnderWay = 0
outcome_value ended.Delivered = 1
outcome_value ended.Dropped = 2

-- where a packet is, where it goes, and its topology
unfoldable pub packet_values : Packet → List ℕ
packet_values p = p.place ∷ p.destination ∷ p.topology ∷ []

-- a step: how the packet stands (0: it moved), the kind of its change as a letter (45, a dash: none), and the packet
unfoldable pub step_values : Step → List ℕ
step_values (Delivered p) = 1 ∷ 45 ∷ packet_values p
step_values (Moved p kind) = 0 ∷ letter kind ∷ packet_values p
step_values (Dropped p) = 2 ∷ 45 ∷ packet_values p

-- one step: the values above, or the refusal
abbrev pub step_tells : StepAnswer → Told
step_tells r = tells step_values r

-- a run: how it ended, its hops, its last topology, and the kind of its change as a letter
unfoldable pub journey_values : Journey → List ℕ
journey_values j = outcome_value j.outcome ∷ j.hops ∷ j.topology ∷ letter j.kind ∷ []

-- a run: the values above, or the refusal
abbrev pub run_tells : RunAnswer → Told
run_tells r = tells journey_values r
