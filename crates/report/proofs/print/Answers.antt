use Rattle.rules.specs.Limits.{report_room, longest}
use Rattle.report.proofs.Answers.{answers}
use Rattle.report.proofs.print.Goals as goal

pub returns : goal.returns
unfolding report_room longest
returns c = search answers
