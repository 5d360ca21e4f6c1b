use Rattle.intake.proofs.Files.{link_there}
use Rattle.intake.proofs.neighbour_words.Goals as goal

pub link_fields-link-requires-clause-l_in_bounds : goal.link_fields-link-requires-clause-l_in_bounds
link_fields-link-requires-clause-l_in_bounds c = search link_there
