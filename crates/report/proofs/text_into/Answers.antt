use Rattle.report.proofs.Answers.{answers}
use Rattle.report.proofs.text_into.Goals as goal

pub report_room-enough-requires : goal.report_room-enough-requires
report_room-enough-requires c = (search answers, search answers)
