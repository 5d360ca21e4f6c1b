use Rattle.burnishpeg.proofs.Entries.{entries}
use Rattle.burnishpeg.proofs.burnishpeg_step.Goals as goal

pub returns : goal.returns
returns c = search entries
