use Rattle.rules.proofs.Ground.Sizes.{sizes}
use borrow.Author.Rules.{rules}
use Rattle.rules.proofs.Network.report_room.Goals as goal

pub times-lines-requires : goal.times-lines-requires
times-lines-requires c = (search sizes, search rules)

pub returns : goal.returns
returns c = search sizes
