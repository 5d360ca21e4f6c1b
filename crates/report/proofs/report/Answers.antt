use Rattle.report.proofs.Answers.{made_few, made_all}
use Rattle.report.proofs.report.Goals as goal

pub report_by-requires : goal.report_by-requires
report_by-requires c = search made_few

pub report_by-requires-2 : goal.report_by-requires-2
report_by-requires-2 c = search made_all
