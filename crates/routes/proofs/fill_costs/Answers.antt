use Rattle.routes.proofs.Costs.{costs_more}
use Rattle.routes.proofs.Filling.{fill_none}
use Rattle.routes.proofs.fill_costs.Goals as goal

pub loop-l-init : goal.loop-l-init
loop-l-init c = search fill_none

pub loop-l-preserved : goal.loop-l-preserved
loop-l-preserved c = search costs_more
