use borrow.Author.Rules.{rules}
use Rattle.alternates.proofs.Neighbours.{row_more, row_none}
use Rattle.alternates.proofs.Outlets.row.Goals as goal

pub loop-v-init : goal.loop-v-init
loop-v-init c = (search rules, search row_none)

pub loop-v-preserved : goal.loop-v-preserved
loop-v-preserved c = (search rules, search row_more)
