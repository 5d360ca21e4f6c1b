use Rattle.intake.proofs.Files.{few_of}
use Rattle.builder.proofs.Answers.{none_placed, part_long}
use Rattle.builder.proofs.Plan.fit_nodes.Goals as goal

pub slice_bounds-homes-end : goal.slice_bounds-homes-end
slice_bounds-homes-end c = search few_of

pub slice_bounds-fit-end : goal.slice_bounds-fit-end
slice_bounds-fit-end c = search (part_long, few_of)

pub fit-requires : goal.fit-requires
fit-requires c = search (none_placed, few_of)
