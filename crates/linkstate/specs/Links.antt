-- The links of a file's set and what is up under a failure: the published definitions at what the code holds.
use Rattle.std.specs.Prelude.{Bool, ◌&&◌, ◌||◌, List, ℕ, eqb}
use Rattle.rules.specs.declared.Failure.{Failure}
use Rattle.rules.specs.File.{set_of, end_a, end_b}
use Rattle.rules.specs.Forwarding.{fault_of, up}

-- the links of the bytes
unfoldable pub joins_at : List ℕ → ℕ → ℕ → ℕ → Bool
joins_at s u w l = (eqb (end_a s l) u && eqb (end_b s l) w) || (eqb (end_a s l) w && eqb (end_b s l) u)

abbrev pub on : List ℕ → Failure → ℕ → ℕ → Bool
on s f = up (set_of s) (fault_of f)
