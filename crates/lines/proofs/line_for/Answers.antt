use Rattle.lines.proofs.Wholes.{wholes}
use Rattle.lines.proofs.line_for.Goals as goal

pub returns-then-u-t : goal.returns-then-u-t
returns-then-u-t c = search wholes

pub returns-else-u-t : goal.returns-else-u-t
returns-else-u-t c = search wholes
