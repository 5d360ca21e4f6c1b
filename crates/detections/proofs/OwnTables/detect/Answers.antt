use Rattle.detections.proofs.Seens.{seens}
use Rattle.detections.proofs.OwnTables.detect.Goals as goal

pub most_hops-most-requires : goal.most_hops-most-requires
most_hops-most-requires c = (search seens, search seens)

pub overflow_sub-most : goal.overflow_sub-most
overflow_sub-most c = search seens

pub returns : goal.returns
returns c = search seens
