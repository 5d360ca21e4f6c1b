use Rattle.std.proofs.Common.{rules}
use Rattle.rules.specs.File.{end_a, end_b, link_weight, home_topology}
use Rattle.listing.proofs.Laying.{front_laid, lists_are}
use Rattle.listing.proofs.lists_into.Goals as goal

pub returns : goal.returns
returns c =
    lists_are c.args.file.now c.args.net _ _ _ _ _ _ _ _ _ _ _ c.home_records.ensures.0
    (front_laid _ _ _ _ (c.read_into.ensures (end_a c.args.file.now) (λ i x h p. search rules)))
    (front_laid _ _ _ _ (c.read_into-2.ensures (end_b c.args.file.now) (λ i x h p. search rules)))
    (front_laid _ _ _ _ (c.read_into-3.ensures (link_weight c.args.file.now) (λ i x h p. search rules)))
    (front_laid _ _ _ _ (c.read_into-4.ensures (home_topology c.args.file.now c.args.net) (λ i x h p. search rules)))
    c.rows_into.ensures
