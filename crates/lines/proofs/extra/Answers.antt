use Rattle.lines.proofs.Extras.{extras}
use Rattle.lines.proofs.extra.Goals as goal

pub overflow_sub-result : goal.overflow_sub-result
overflow_sub-result c = search extras

pub returns : goal.returns
returns c = search extras
