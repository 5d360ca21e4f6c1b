use native.Mathlib.Omega.{arith}
use Rattle.rules.proofs.Ground.Choices.{numbers}
use Rattle.rules.specs.Limits.{home_records}
use Rattle.rules.proofs.Network.home_records.Goals as goal

pub returns-then-self-eq0 : goal.returns-then-self-eq0
unfolding home_records
returns-then-self-eq0 c = (search numbers, omega arith)

pub returns-else-self-eq0 : goal.returns-else-self-eq0
unfolding home_records
returns-else-self-eq0 c = (search numbers, omega arith)
