use Rattle.builder.proofs.Answers.{all_fitted, not_placed}
use Rattle.intake.proofs.Files.{few_of, some_of}
use Rattle.builder.proofs.Plan.fit.Goals as goal

pub first_fit-placed-requires-clause-le_n : goal.first_fit-placed-requires-clause-le_n
first_fit-placed-requires-clause-le_n c = (search some_of, search few_of)

pub unplaced-requires : goal.unplaced-requires
unplaced-requires c = (search some_of, search few_of)

pub returns-then-placed-n : goal.returns-then-placed-n
returns-then-placed-n c = search not_placed

pub returns : goal.returns
returns c = search all_fitted
