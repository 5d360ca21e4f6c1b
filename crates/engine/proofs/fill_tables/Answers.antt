use Rattle.engine.proofs.Whole.{out_held}
use Rattle.engine.proofs.fill_tables.Goals as goal

pub all_tables-requires : goal.all_tables-requires
all_tables-requires c = search out_held
