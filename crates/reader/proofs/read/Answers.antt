use Rattle.std.proofs.Common.{rules}
use Rattle.reader.proofs.Promised.{lists_short}
use Rattle.reader.proofs.read.Goals as goal

pub returns-in_err-need_lists : goal.returns-in_err-need_lists
returns-in_err-need_lists c = lists_short _ _ _ _ _ _ _ _ _ _ c.in_err-need_lists.ensures (search rules) (search rules) (search rules) (search rules)
