use mathlib.Core.Path.{◌≡◌}
use Rattle.rules.specs.Verdict.{Accepted}
use Rattle.intake.specs.Graph.{turns_by}
use Rattle.intake.proofs.in_turn.Given as goal

abbrev pub invariant-loop-j : goal.invariant-loop-j
invariant-loop-j l = turns_by l.nb l.net.n l.isos l.j ≡ Accepted
