use Rattle.routes.proofs.Steps.{passes_low, passes_more, passes_none}
use Rattle.routes.proofs.settle.Goals as goal

pub loop-v-init : goal.loop-v-init
loop-v-init c = search passes_none

pub pass-requires-clause-low_rows : goal.pass-requires-clause-low_rows
pass-requires-clause-low_rows c = search passes_low

pub loop-v-preserved : goal.loop-v-preserved
loop-v-preserved c = search passes_more
