use Rattle.routes.proofs.Filling.{start_none, start_fits}
use Rattle.engine.proofs.Whole.{copies_done, copies_more}
use Rattle.engine.proofs.copy_rows.Goals as goal

pub loop-u-init : goal.loop-u-init
loop-u-init c = search start_none

pub overflow_mul-at : goal.overflow_mul-at
overflow_mul-at c = search start_fits

pub loop-u-preserved : goal.loop-u-preserved
loop-u-preserved c = copies_more _ _ _ _ _ c.loop-u.invariant c.told-alts c.loop-u-test.true c.requires.0 c.copy_from_slice.ensures.after

pub returns : goal.returns
returns c = search copies_done
