use Rattle.listing.proofs.Laying.{LayingRows}
use Rattle.listing.proofs.rows_into.Given as goal

abbrev pub invariant-loop-j : goal.invariant-loop-j
invariant-loop-j l = LayingRows l.file l.net l.initial.out l.out l.net.k l.j
