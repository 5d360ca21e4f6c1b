use Rattle.routes.proofs.Steps.{begun}
use Rattle.routes.proofs.begin.Goals as goal

pub returns : goal.returns
returns c = search begun
