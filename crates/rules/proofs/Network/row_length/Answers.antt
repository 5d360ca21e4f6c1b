use borrow.Author.Rules.{rules}
use Rattle.rules.specs.Limits.{row_length}
use Rattle.rules.proofs.Network.row_length.Goals as goal

pub returns : goal.returns
unfolding row_length
returns c = search rules
