use borrow.Author.Rules.{rules}
use Rattle.rules.specs.Limits.{row_weights}
use Rattle.rules.proofs.Network.row_weights.Goals as goal

pub returns : goal.returns
unfolding row_weights
returns c = search rules
