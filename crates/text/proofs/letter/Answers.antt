use Rattle.text.proofs.Texts.{texts}
use Rattle.text.proofs.letter.Goals as goal

pub returns-in-Unchanged : goal.returns-in-Unchanged
returns-in-Unchanged c = search texts

pub returns-in-T : goal.returns-in-T
returns-in-T c = search texts

pub returns-in-S : goal.returns-in-S
returns-in-S c = search texts

pub returns-in-D : goal.returns-in-D
returns-in-D c = search texts
