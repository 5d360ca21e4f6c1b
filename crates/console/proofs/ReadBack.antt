-- A number from 0 to 255 that is written in decimal, as the programs write them, is read back as itself.
use Rattle.std.proofs.Common.{◌≡◌, refl, Bool, true, ℕ, ◌≤◌, Option, Some, None, eqb, arith}
use Rattle.std.specs.Option.{unwrap_or}
use borrow.Author.Tests.{eqb-true}
use Rattle.rules.specs.Basics.{all}
use Rattle.rules.specs.Report.{digits, decimal}
use Rattle.rules.proofs.Ground.Numbers.{all_at}
use Rattle.console.specs.Numbers.{more, value_of, number_in}

reads_back : ℕ → Bool
reads_back x = eqb (unwrap_or (number_in (decimal x)) 256) x

each : all reads_back 256 ≡ true
unfolding all reads_back decimal digits number_in value_of more
each = refl

-- 256 stands for none, which is no number up to 255
some_of : (o : Option ℕ) (x : ℕ) → unwrap_or o 256 ≡ x → x ≤ 255 → o ≡ Some x
some_of None x e h = absurd (omega (arith, e))
some_of (Some y) x e h = cc

pub read_back : (x : ℕ) → x ≤ 255 → number_in (decimal x) ≡ Some x
unfolding reads_back
read_back x h =
    let e = all_at reads_back 256 each x (omega arith) in
    some_of (number_in (decimal x)) x (eqb-true (unwrap_or (number_in (decimal x)) 256) x e) h
