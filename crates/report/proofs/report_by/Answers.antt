use Rattle.report.proofs.Answers.{answers}
use Rattle.report.proofs.report_by.Goals as goal

pub invariant_of-text_into : goal.invariant_of-text_into
invariant_of-text_into c = record { accepted = search answers; own = search answers }

pub returns-in-Ok : goal.returns-in-Ok
returns-in-Ok c = search answers

pub returns-in-Err : goal.returns-in-Err
returns-in-Err c = search answers
