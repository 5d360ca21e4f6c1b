use Rattle.text.proofs.+digits.Given as goal

abbrev pub decreases-digits : goal.decreases-digits
decreases-digits l = l.more
