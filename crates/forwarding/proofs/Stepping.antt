-- The entry `step`.
use Rattle.std.specs.Prelude.{Ok, Err}
use mathlib.Core.Path.{◌≡◌, refl, sym, ap, ◌∙◌}
use mathlib.Core.List.{List}
use Prim.Native.Nat.{ℕ}
use lib.Dec.{leb}
use lib.ListN.{length}
use Rattle.rules.specs.declared.Network.{Network}
use Rattle.rules.specs.declared.Refusal.{Refusal}
use Rattle.rules.specs.declared.Packet.{Packet}
use Rattle.rules.specs.declared.Failure.{Failure}
use Rattle.rules.specs.declared.Step.{Step}
use Rattle.rules.specs.Verdict.{Verdict, Accepted, Refused, number_of}
use Rattle.rules.specs.Basics.{need}
use Rattle.rules.specs.Limits.{tables_length}
use Rattle.rules.specs.File.{header_of}
use Rattle.rules.specs.Judgement.{refuse, and_then, judge, need_set, need_packet, need_source, need_room}
use Rattle.rules.specs.Answers.{accepted, tell, tells, step_values}
use Rattle.rules.specs.Entries.Entry.{on_accept}
use Rattle.rules.specs.Entries.Step.{lookups_of, step_of, step_entry}
use Rattle.rules.proofs.Ground.Choices.{then_ok, then_no, then_first}
use Rattle.onehop.specs.Hop.{step_at, lookup_at}
use Rattle.forwarding.specs.Steps.{step_input, step_rest, step_verdict}

-- what is asked of a file's network, by its header
module _ (s : List ℕ) (h : Network) (n : h ≡ header_of s) where
  pub set_asked : (v : Verdict) → v ≡ need_set h → v ≡ need_set (header_of s)
  set_asked v e = e ∙ ap need_set n

  pub packet_asked : (p : Packet) (f : Failure) (v : Verdict) → v ≡ need_packet h p f → v ≡ need_packet (header_of s) p f
  packet_asked p f v e = e ∙ ap (λ (k : Network). need_packet k p f) n

  pub room_asked : (tables : List ℕ) (long : ℕ) (v : Verdict) → long ≡ tables_length h → v ≡ refuse (need (leb long (length tables)) 14 0) 0
      → v ≡ need_room (tables_length (header_of s)) tables
  unfolding need_room
  room_asked tables long v d e = e ∙ ap (λ (k : ℕ). refuse (need (leb k (length tables)) 14 0) 0) (d ∙ ap tables_length n)

pub ruleset of_header = (set_asked, packet_asked, room_asked)

module _ (s tables : List ℕ) (p : Packet) (f : Failure) where
  pub judged : Accepted ≡ judge s → judge s ≡ Accepted
  judged t = sym t

  pub verdict_on : (v : Verdict) (s' t' : List ℕ) (f' : Failure) → Accepted ≡ judge s → s' ≡ s → t' ≡ tables → f' ≡ f → v ≡ step_rest (step_input s' t' p f') → v ≡ step_verdict (step_input s tables p f)
  unfolding step_verdict
  verdict_on v s' t' f' t a b c d = d ∙ (λ i. step_rest (step_input (a i) (b i) p (c i))) ∙ sym (then_ok (judge s) (step_rest (step_input s tables p f)) (sym t))

  pub verdict_stop : (number place : ℕ) → Refused number place ≡ judge s → Refused number place ≡ step_verdict (step_input s tables p f)
  unfolding step_verdict
  verdict_stop number place t = sym (then_no (judge s) (step_rest (step_input s tables p f)) number place (sym t))

  verdict_same : step_entry.verdict (step_input s tables p f) tt ≡ step_verdict (step_input s tables p f)
  unfolding step_entry step_verdict step_rest lookups_of lookup_at
  verdict_same = refl

  pub step_on : Accepted ≡ step_verdict (step_input s tables p f) → judge s ≡ Accepted
  unfolding step_verdict
  step_on e = then_first (judge s) (step_rest (step_input s tables p f)) (sym e)

  pub step_told : (r : Step) → Accepted ≡ step_verdict (step_input s tables p f) → r ≡ step_at s tables f p
      → step_entry.tells (Ok r) ≡ tell (step_entry.verdict (step_input s tables p f) tt) (step_entry.gives (step_input s tables p f) tt)
  unfolding step_entry step_of step_at tells tell
  step_told r e d =
      ap (λ (x : Step). accepted (step_values x)) d
      ∙ ap (λ (v : Verdict). tell v (step_entry.gives (step_input s tables p f) tt)) (e ∙ sym verdict_same)

  pub refusal_told : (r : Refusal) → Refused (number_of r.rule) r.place ≡ step_verdict (step_input s tables p f)
      → step_entry.tells (Err r) ≡ tell (step_entry.verdict (step_input s tables p f) tt) (step_entry.gives (step_input s tables p f) tt)
  unfolding step_entry tells tell
  refusal_told r e = ap (λ (v : Verdict). tell v (step_entry.gives (step_input s tables p f) tt)) (e ∙ sym verdict_same)

  pub nothing_lent : tt ≡ on_accept (step_entry.verdict (step_input s tables p f) tt) (step_entry.leaves (step_input s tables p f) tt) tt
  unfolding on_accept
  nothing_lent = refl

pub ruleset judging = (judged, verdict_on, verdict_stop)

pub ruleset stepping = (step_on, step_told, refusal_told, nothing_lent)
