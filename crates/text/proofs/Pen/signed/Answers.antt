use Rattle.text.proofs.Texts.{texts}
use Rattle.text.proofs.Pen.signed.Goals as goal
use Rattle.text.proofs.Pen.signed.Goals.{then-x-lt0, else-x-lt0}

pub returns : goal.returns
returns c = elim c.if-x-lt0.branch [ then-x-lt0 w ↦ search texts | else-x-lt0 w ↦ search texts ]
