use Rattle.std.proofs.Common.{◌≡◌, drop}
use Rattle.console.specs.Numbers.{value_of}
use Rattle.console.proofs.number.number_in.Given as goal

abbrev pub invariant-loop-digit : goal.invariant-loop-digit
invariant-loop-digit l = value_of 0 l.text ≡ value_of l.value (drop l.digit-index l.text)
