use Rattle.topologyrules.proofs.Laws.{Growing}
use Rattle.words.specs.Word.{either}
use lib.Count.{ones}
use Rattle.topologyrules.proofs.joined.Given as goal

abbrev pub invariant-loop-waiting : goal.invariant-loop-waiting
invariant-loop-waiting l = Growing l.nb l.bb l.root l.left l.waiting

abbrev pub decreases-loop-waiting : goal.decreases-loop-waiting
decreases-loop-waiting l = ones (either l.left l.waiting)
