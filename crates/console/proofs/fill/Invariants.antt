use Rattle.std.proofs.Common.{◌≤◌, length}
use Rattle.console.proofs.fill.Given as goal

abbrev pub invariant-loop : goal.invariant-loop
invariant-loop g l = l.long ≤ length l.room
