use Rattle.filling.specs.Filled.{link_copy}
use Rattle.rules.specs.Limits.{link_place}
use Rattle.slices.proofs.Stores.{Storing}
use Rattle.filling.proofs.Source.put_links.Given as goal

abbrev pub invariant-loop-l : goal.invariant-loop-l
invariant-loop-l l = Storing l.initial.file l.file (link_place 0) (link_copy l.self.graph.now) l.l l.self.net.m
