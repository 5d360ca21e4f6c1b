use Rattle.builder.proofs.Answers.{build_on}
use Rattle.builder.proofs.build.Goals as goal

pub returns : goal.returns
returns c = search (build_on, c.in_ok-take_in.ensures, c.in_ok-need_graph.ensures, c.in_ok-need_cap.ensures)
