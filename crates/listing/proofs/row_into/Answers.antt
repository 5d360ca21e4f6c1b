use Rattle.std.proofs.Common.{rules}
use Rattle.rules.specs.File.{row_weight}
use Rattle.listing.proofs.Laying.{front_laid}
use Rattle.listing.proofs.row_into.Goals as goal

pub returns : goal.returns
returns c = front_laid _ _ _ _ (c.read_into.ensures (row_weight c.args.file.now c.args.net c.args.j) (λ i x h p. search rules))
