use Rattle.lines.proofs.Wholes.{wholes}
use Rattle.lines.proofs.change.Goals as goal

pub returns : goal.returns
returns c = search wholes
