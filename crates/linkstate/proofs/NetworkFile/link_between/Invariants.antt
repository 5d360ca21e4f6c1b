use Rattle.linkstate.proofs.Graph.{Sought}
use Rattle.linkstate.proofs.NetworkFile.link_between.Given as goal

abbrev pub invariant-loop-l : goal.invariant-loop-l
invariant-loop-l l = Sought l.self.bytes.now l.u l.w l.l-end l.l
