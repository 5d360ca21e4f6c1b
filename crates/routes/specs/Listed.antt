-- The set that lists hold, as the engines are given them. What no table reads has no list here.
use Rattle.std.specs.Prelude.{List, ℕ}
use Rattle.rules.specs.declared.Network.{Network}
use Rattle.rules.specs.File.{Set}
use Rattle.rules.specs.Entries.Lists.{lists}
use Rattle.rules.specs.Entries.Write.{set_with}

abbrev pub listed : Network → List ℕ → List ℕ → List ℕ → List ℕ → List ℕ → Set
listed net a b weights homes rows = set_with net (lists a b weights homes rows)
