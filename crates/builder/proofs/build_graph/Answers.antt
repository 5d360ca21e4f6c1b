use Rattle.intake.proofs.Files.{ends_of}
use Rattle.builder.proofs.build_graph.Goals as goal

pub neighbour_words-nb-requires : goal.neighbour_words-nb-requires
neighbour_words-nb-requires c = search ends_of
