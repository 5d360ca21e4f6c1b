use Rattle.topologyrules.proofs.Laws.{grow_done, grow_less, grow_more, grow_start, grow_whole, root_low, waiting_low}
use Rattle.topologyrules.proofs.joined.Goals as goal

pub removing-left-requires : goal.removing-left-requires
removing-left-requires c = search root_low

pub only-waiting-requires : goal.only-waiting-requires
only-waiting-requires c = search root_low

pub loop-waiting-init : goal.loop-waiting-init
loop-waiting-init c = search grow_start

pub returns-then-left-eq0 : goal.returns-then-left-eq0
returns-then-left-eq0 c = search grow_whole

pub removing-requires : goal.removing-requires
removing-requires c = search waiting_low

pub loop-waiting-smaller : goal.loop-waiting-smaller
loop-waiting-smaller c = search grow_less

pub loop-waiting-preserved : goal.loop-waiting-preserved
loop-waiting-preserved c = search grow_more

pub returns : goal.returns
returns c = search grow_done
