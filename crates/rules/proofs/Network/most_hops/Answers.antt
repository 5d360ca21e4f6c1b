use Rattle.rules.proofs.Ground.Sizes.{sizes}
use Rattle.rules.proofs.Network.most_hops.Goals as goal

pub returns : goal.returns
returns c = search sizes
