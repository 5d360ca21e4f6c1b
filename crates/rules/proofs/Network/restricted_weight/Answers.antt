use Rattle.rules.proofs.Ground.Sizes.{sizes}
use Rattle.rules.proofs.Network.restricted_weight.Goals as goal

pub overflow_mul-result-2 : goal.overflow_mul-result-2
overflow_mul-result-2 c = record { fits = search sizes }

pub returns : goal.returns
returns c = search sizes
