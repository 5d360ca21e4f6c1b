use Rattle.rules.specs.Report.{header_line}
use borrow.Author.Rules.{rules}
use Rattle.lines.proofs.header.Goals as goal

pub returns : goal.returns
unfolding header_line
returns c = search rules
