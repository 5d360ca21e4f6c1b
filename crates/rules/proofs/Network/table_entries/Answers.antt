use Rattle.rules.proofs.Ground.Sizes.{sizes}
use borrow.Author.Rules.{rules}
use Rattle.rules.proofs.Network.table_entries.Goals as goal

pub returns : goal.returns
returns c = (search rules, search sizes)
