use Rattle.lines.proofs.Wholes.{wholes}
use Rattle.lines.proofs.whole.Goals as goal

pub last_line-requires-clause-le_n : goal.last_line-requires-clause-le_n
last_line-requires-clause-le_n c = (search wholes, search wholes)

pub returns : goal.returns
returns c = search wholes
