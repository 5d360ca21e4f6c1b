use native.Mathlib.Omega.{arith}
use Rattle.answerwords.specs.Words.{refused_word}
use Rattle.answerwords.proofs.refused_word.Goals as goal

pub returns : goal.returns
unfolding refused_word
returns c = omega arith
