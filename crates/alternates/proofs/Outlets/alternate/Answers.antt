use Rattle.alternates.proofs.Neighbours.{no_alternate, some_alternate}
use Rattle.alternates.proofs.Outlets.alternate.Goals as goal

pub returns-then-not-self-v : goal.returns-then-not-self-v
returns-then-not-self-v c = search no_alternate

pub returns : goal.returns
returns c = search some_alternate
