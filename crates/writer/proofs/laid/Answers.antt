use Rattle.writer.proofs.Verdicts.{laid_is}
use Rattle.writer.proofs.laid.Goals as goal

pub returns : goal.returns
returns c = search laid_is
