use Rattle.routes.proofs.Steps.{pass_low, pass_more, pass_none}
use Rattle.routes.proofs.pass.Goals as goal

pub loop-u-init : goal.loop-u-init
loop-u-init c = search pass_none

pub through-requires-clause-low_rows : goal.through-requires-clause-low_rows
through-requires-clause-low_rows c = search pass_low

pub loop-u-preserved : goal.loop-u-preserved
loop-u-preserved c = search pass_more
