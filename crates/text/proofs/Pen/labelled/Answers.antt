use Rattle.text.proofs.Texts.{texts}
use Rattle.text.proofs.Pen.labelled.Goals as goal

pub returns : goal.returns
returns c = search texts
