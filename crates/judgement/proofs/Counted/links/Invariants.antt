use Rattle.judgement.proofs.InTurn.{LinksTaken}
use Rattle.judgement.proofs.Counted.links.Given as goal

abbrev pub invariant-loop-l : goal.invariant-loop-l
invariant-loop-l l = LinksTaken l.self.bytes.now l.self.net l.l l.last
