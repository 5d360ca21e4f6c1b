use Rattle.alternates.specs.Alternates.{RowsTo}
use Rattle.alternates.proofs.fill.Given as goal

abbrev pub invariant-loop-u : goal.invariant-loop-u
invariant-loop-u l = RowsTo l.ends.a.now l.ends.b.now l.homes l.i l.d l.u l.initial.alts l.alts
