use Rattle.detections.proofs.Seens.{Walking}
use Rattle.detections.proofs.OwnTables.walk.Given as goal

abbrev pub invariant-loop-hops : goal.invariant-loop-hops
invariant-loop-hops l = Walking l.self.routed.tables.now l.self.routed.file.net l.i l.t l.most l.from l.hops l.u
