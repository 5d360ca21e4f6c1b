use Rattle.routes.proofs.Steps.{lowered}
use Rattle.routes.proofs.lower_row.Goals as goal

pub returns : goal.returns
returns c = search lowered
