use mathlib.Core.Path.{◌≡◌}
use lib.ListN.{length}
use Rattle.alternates.specs.Alternates.{RowBy}
use Rattle.alternates.proofs.Outlets.row.Given as goal

abbrev pub invariant-loop-v : goal.invariant-loop-v
invariant-loop-v l = (length l.row ≡ 32) × RowBy l.self.near.now l.self.d.now l.row l.v
