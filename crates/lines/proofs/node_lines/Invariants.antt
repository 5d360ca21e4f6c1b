use Prim.Native.Nat.{◌*◌}
use Rattle.lines.specs.Lines.{line_for, line_room}
use Rattle.text.specs.Pen.{Writes}
use Rattle.rules.specs.Basics.{flat}
use Rattle.rules.specs.File.{set_of}
use Rattle.lines.proofs.node_lines.Given as goal

abbrev pub invariant-loop-t : goal.invariant-loop-t
invariant-loop-t l = Writes l.initial.pen (flat (line_for (set_of l.set.routed.file.bytes.now) l.u) l.t) (line_room * l.t) l.pen
