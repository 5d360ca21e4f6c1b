use Rattle.firstfit.proofs.Placing.{highest_done, highest_more, highest_none}
use Rattle.firstfit.proofs.highest.Goals as goal

pub loop-home-init : goal.loop-home-init
loop-home-init c = search highest_none

pub loop-home-preserved : goal.loop-home-preserved
loop-home-preserved c = search highest_more

pub returns : goal.returns
returns c = search highest_done
