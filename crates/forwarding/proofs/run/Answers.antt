use Rattle.forwarding.proofs.Running.{run_left, run_told}
use Rattle.forwarding.proofs.run.Goals as goal

pub returns : goal.returns
returns c = record { answer = search (run_told, c.in_ok-run_verdict.ensures); lent = search (run_left, c.in_ok-run_verdict.ensures) }
