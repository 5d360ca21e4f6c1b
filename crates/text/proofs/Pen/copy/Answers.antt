use Rattle.text.proofs.Texts.{texts}
use Rattle.text.proofs.Pen.copy.Goals as goal

pub loop-byte-init : goal.loop-byte-init
loop-byte-init c = search texts

pub loop-byte-preserved : goal.loop-byte-preserved
loop-byte-preserved c = search texts

pub returns : goal.returns
returns c = search texts
