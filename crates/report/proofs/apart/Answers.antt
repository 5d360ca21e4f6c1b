use Rattle.report.proofs.Answers.{apart_inside, apart_counted, apart_copied}
use Rattle.report.proofs.apart.Goals as goal

pub slice_bounds-made-end : goal.slice_bounds-made-end
slice_bounds-made-end c = search apart_inside

pub slice_bounds-lay_text-end : goal.slice_bounds-lay_text-end
slice_bounds-lay_text-end c = search apart_counted

pub returns : goal.returns
returns c = search apart_copied
