use Rattle.routes.specs.Passes.{direct_links, net_of}
use mathlib.Core.Path.{◌≡◌}
use Rattle.routes.proofs.direct_links.Given as goal

abbrev pub invariant-loop-l : goal.invariant-loop-l
invariant-loop-l l = l.d ≡ direct_links (net_of l.ends.a.now l.ends.b.now l.c) l.l l.initial.d
