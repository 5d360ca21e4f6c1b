use Rattle.onehop.proofs.Hops.{lookups}
use Rattle.onehop.proofs.Routed.alternate_rule.Goals as goal

pub returns-then-w-v : goal.returns-then-w-v
returns-then-w-v c = search lookups

pub returns : goal.returns
returns c = search lookups
