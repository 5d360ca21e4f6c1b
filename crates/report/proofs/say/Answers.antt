use Rattle.report.proofs.Answers.{answers}
use Rattle.report.proofs.say.Goals as goal

pub returns-in-Ok : goal.returns-in-Ok
returns-in-Ok c = search answers

pub returns-in-Err : goal.returns-in-Err
returns-in-Err c = search answers
