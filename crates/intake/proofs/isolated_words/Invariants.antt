use mathlib.Core.Path.{◌≡◌}
use Rattle.intake.specs.Graph.{isolated_words}
use Rattle.intake.proofs.isolated_words.Given as goal

abbrev pub invariant-loop-v : goal.invariant-loop-v
invariant-loop-v l = l.isos ≡ isolated_words l.file l.net l.v
