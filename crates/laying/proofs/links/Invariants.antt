use Rattle.rules.specs.Limits.{link_place}
use Rattle.slices.proofs.Stores.{Storing}
use Rattle.layout.specs.Held.{held}
use Rattle.laying.specs.Parts.{link_of}
use Rattle.laying.proofs.links.Given as goal

abbrev pub invariant-loop-l : goal.invariant-loop-l
invariant-loop-l l = Storing l.initial.file l.file (link_place 0) (link_of (held l.lists)) l.l l.m
