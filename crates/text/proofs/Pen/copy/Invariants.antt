use lib.ListN.{take}
use Rattle.text.specs.Pen.{Writes}
use Rattle.text.proofs.Pen.copy.Given as goal

abbrev pub invariant-loop-byte : goal.invariant-loop-byte
invariant-loop-byte l = Writes l.initial.self (take l.byte-index l.bytes) l.byte-index l.self
