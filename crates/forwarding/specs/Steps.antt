-- The entry `step`: its input, and its verdict in the order in which the code makes it.
use Rattle.std.specs.Prelude.{List, ℕ}
use Rattle.rules.specs.declared.Packet.{Packet}
use Rattle.rules.specs.declared.Failure.{Failure}
use Rattle.rules.specs.Verdict.{Verdict}
use Rattle.rules.specs.Limits.{tables_length}
use Rattle.rules.specs.File.{header_of}
use Rattle.rules.specs.Judgement.{refuse, and_then, judge, need_set, need_packet, need_source, need_room}
use Rattle.rules.specs.Entries.Step.{StepInput}
use Rattle.onehop.specs.Hop.{lookup_at}

abbrev pub step_input : List ℕ → List ℕ → Packet → Failure → StepInput
step_input s tables p f = record { file = s; tables = tables; packet = p; failure = f }

-- once the file is accepted: 13, 11, 12, 14, 15
unfoldable pub step_rest : StepInput → Verdict
step_rest i =
    and_then (need_set (header_of i.file))
    (and_then (need_packet (header_of i.file) i.packet i.failure)
    (and_then (need_source i.packet.place i.failure)
    (and_then (need_room (tables_length (header_of i.file)) i.tables)
    (refuse (lookup_at i.file i.tables i.failure i.packet) 0))))

unfoldable pub step_verdict : StepInput → Verdict
step_verdict i = and_then (judge i.file) (step_rest i)
