use Rattle.writer.proofs.Verdicts.{write_taken}
use Rattle.writer.proofs.write.Goals as goal

pub returns : goal.returns
returns c = search (write_taken, c.in_ok-given.ensures)
