use Rattle.std.proofs.Common.{◌≡◌, ℕ, ◌<◌, take}
use Rattle.rules.specs.Basics.{up_to}
use Rattle.listing.proofs.read_into.Given as goal

-- what stands before the index is f's, for each f that the closure answers by
abbrev pub invariant-loop-i : goal.invariant-loop-i
invariant-loop-i g l = (f : ℕ → g.row.T.Denot) → ((i : ℕ) (x : g.row.T.Denot) → i < l.count → goal.F-post g l.read i x → x ≡ f i) → take l.i l.x-items ≡ up_to f l.i
