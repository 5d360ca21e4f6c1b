use Rattle.text.proofs.Texts.{texts}
use Rattle.text.proofs.+digits.Goals as goal

pub returns-then-more-eq0 : goal.returns-then-more-eq0
returns-then-more-eq0 t c = search texts

pub returns-then-x-lt10 : goal.returns-then-x-lt10
returns-then-x-lt10 t c = search texts

pub returns : goal.returns
returns t c = search texts
