use Rattle.routes.proofs.Steps.{direct_is}
use Rattle.routes.proofs.direct.Goals as goal

pub returns : goal.returns
returns c = search direct_is
