use Rattle.routes.proofs.Steps.{through_is, through_none}
use Rattle.routes.proofs.through.Goals as goal

pub returns-then-c-lt-FAR : goal.returns-then-c-lt-FAR
returns-then-c-lt-FAR c = search through_is

pub returns-else-c-lt-FAR : goal.returns-else-c-lt-FAR
returns-else-c-lt-FAR c = search through_none
