use Rattle.firstfit.proofs.Placing.{spared_done, spared_none, spared_on, spared_out}
use Rattle.firstfit.proofs.all_spared.Goals as goal

pub loop-v-init : goal.loop-v-init
loop-v-init c = search spared_none

pub loop-v-preserved : goal.loop-v-preserved
loop-v-preserved c = search spared_on

pub returns-then-not-spared : goal.returns-then-not-spared
returns-then-not-spared c = search spared_out

pub returns : goal.returns
returns c = search spared_done
