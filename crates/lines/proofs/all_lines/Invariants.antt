use Prim.Native.Nat.{◌*◌}
use Rattle.lines.specs.Lines.{node_lines, node_room}
use Rattle.text.specs.Pen.{Writes}
use Rattle.rules.specs.Basics.{flat}
use Rattle.rules.specs.File.{set_of}
use Rattle.lines.proofs.all_lines.Given as goal

abbrev pub invariant-loop-u : goal.invariant-loop-u
invariant-loop-u l = Writes l.initial.pen (flat (node_lines (set_of l.set.routed.file.bytes.now)) l.u) (node_room * l.u) l.pen
