use Rattle.topologyrules.proofs.Laws.{Serving}
use lib.Count.{ones}
use Rattle.topologyrules.proofs.all_served.Given as goal

abbrev pub invariant-loop-left : goal.invariant-loop-left
invariant-loop-left l = Serving l.nb l.iso l.bb l.n l.left

abbrev pub decreases-loop-left : goal.decreases-loop-left
decreases-loop-left l = ones l.left
