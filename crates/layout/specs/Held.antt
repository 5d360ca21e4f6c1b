-- The lists that are lent, as the definitions have them.
use Rattle.rules.specs.Entries.Lists.{lists}
use Rattle.rules.specs.Entries.Lists as entry
use Rattle.layout.specs.declared.Lists.{Lists}

-- what the lists hold
abbrev pub held : Lists → entry.Lists
held l = lists l.a.now l.b.now l.weights.now l.homes.now l.rows.now
