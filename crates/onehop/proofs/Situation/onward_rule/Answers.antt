use Rattle.onehop.proofs.Hops.{lookups}
use Rattle.onehop.proofs.Situation.onward_rule.Goals as goal

pub returns-then-is_up : goal.returns-then-is_up
returns-then-is_up c = search lookups

pub returns-then-p-ne0 : goal.returns-then-p-ne0
returns-then-p-ne0 c = search lookups

pub returns : goal.returns
returns c = search lookups
