use Rattle.report.proofs.Answers.{answers}
use Rattle.report.proofs.refusal_line.Goals as goal

pub returns : goal.returns
returns c = search answers
