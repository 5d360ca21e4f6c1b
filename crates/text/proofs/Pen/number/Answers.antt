use Rattle.text.proofs.Texts.{texts}
use Rattle.text.proofs.Pen.number.Goals as goal

pub returns-then-x-lt10 : goal.returns-then-x-lt10
returns-then-x-lt10 c = search texts

pub returns-else-x-lt10 : goal.returns-else-x-lt10
returns-else-x-lt10 c = search texts
