use borrow.Author.Rules.{rules}
use Rattle.rules.proofs.Ground.Sizes.{sizes}
use Rattle.rules.proofs.times.Goals as goal

pub overflow_mul-result : goal.overflow_mul-result
overflow_mul-result c = record { fits = search sizes }

pub returns : goal.returns
returns c = (search rules, search sizes)
