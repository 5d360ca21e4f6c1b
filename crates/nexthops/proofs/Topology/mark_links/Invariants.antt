use Rattle.nexthops.specs.Ties.{Marked, marks}
use Rattle.routes.specs.Passes.{net_of}
use Rattle.nexthops.proofs.Topology.mark_links.Given as goal

abbrev pub invariant-loop-l : goal.invariant-loop-l
invariant-loop-l l = Marked l.self.d.now l.initial.w l.w (marks (net_of l.self.ends.a.now l.self.ends.b.now l.self.c.now) l.l)
