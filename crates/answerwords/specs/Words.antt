-- An entry's answer packed into one word, as include/burnishpeg.h says.
use Rattle.std.specs.Prelude.{◌≡◌, ◌↔◌, Bool, false, List, [], ◌∷◌, ℕ, ◌+◌, ◌*◌, ◌/◌, ◌%◌, eqb, ltb, leb, if◌then◌else◌}
use Rattle.rules.specs.declared.Packet.{Packet}
use Rattle.rules.specs.Verdict.{Accepted}
use Rattle.rules.specs.declared.Failure.{Failure}
use Rattle.rules.specs.declared.Failure.TheVariants.{Nothing, Link, Node}
use Rattle.rules.specs.Answers.{Told, accepted, refused, tell}
use Rattle.rules.specs.Entries.Entry.{Entry, on_accept, Promise}
use Rattle.rules.specs.Entries.Read.{read_entry}
use Rattle.rules.specs.Entries.Write.{write_entry}
use Rattle.rules.specs.Entries.Build.{build_entry}
use Rattle.rules.specs.Entries.Tables.{tables_entry}
use Rattle.rules.specs.Entries.Step.{step_entry}
use Rattle.rules.specs.Entries.Run.{run_entry}
use Rattle.rules.specs.Entries.Report.{report_entry}

-- bit 63 is set, bits 32 to 39 hold the number, bits 0 to 31 the place
unfoldable pub refused_word : ℕ → ℕ → ℕ
refused_word number place = 9223372036854775808 + number * 4294967296 + place % 4294967296

-- values one after the other, the first lowest, each in as many bits as its range asks
unfoldable pub pack : List ℕ → List ℕ → ℕ
pack [] values = 0
pack (range ∷ ranges) [] = 0
pack (range ∷ ranges) (x ∷ values) = x + range * pack ranges values

-- the word of what a call tells
unfoldable pub word_of : List ℕ → Told → ℕ
word_of ranges (accepted values) = pack ranges values
word_of ranges (refused number place) = refused_word number place

-- ---- the ranges of each function's values

-- 63 bits
abbrev pub by_length : List ℕ
by_length = 9223372036854775808 ∷ []

-- n, m, k, wmax
abbrev pub by_read : List ℕ
by_read = 256 ∷ 65536 ∷ 256 ∷ 65536 ∷ []

-- how it stands, the letter of its change, its place, destination and topology
abbrev pub by_step : List ℕ
by_step = 256 ∷ 256 ∷ 256 ∷ 256 ∷ 256 ∷ []

-- how it ended, its hops, its last topology, the letter of its change
abbrev pub by_run : List ℕ
by_run = 256 ∷ 256 ∷ 256 ∷ 256 ∷ []

-- ---- what C reads from a word, by the header's macros and bits

-- BURNISHPEG_REFUSED: bit 63, the highest of the word, is set
unfoldable pub refusing : ℕ → Bool
refusing word = leb 9223372036854775808 word

-- BURNISHPEG_NUMBER: bits 32 to 39
unfoldable pub number_in : ℕ → ℕ
number_in word = word / 4294967296 % 256

-- BURNISHPEG_PLACE: bits 0 to 31
unfoldable pub place_in : ℕ → ℕ
place_in word = word % 4294967296

-- the values, the first from the lowest bits
unfoldable pub unpack : List ℕ → ℕ → List ℕ
unpack [] word = []
unpack (range ∷ ranges) word = word % range ∷ unpack ranges (word / range)

-- what a word tells: number and place where it refuses, else the values
unfoldable pub told_by : List ℕ → ℕ → Told
told_by ranges word = if refusing word then refused (number_in word) (place_in word) else accepted (unpack ranges word)

-- ---- what C gives

-- what is down: nothing, the link or the node with this number; any other kind, or a node above a byte, is a link that no file has
unfoldable pub failure_of : ℕ → ℕ → Failure
failure_of kind failed =
    if eqb kind 0 then Nothing else (if eqb kind 1 then Link failed else (if eqb kind 2 then (if ltb failed 256 then Node failed else Link 65535) else Link 65535))

-- a packet at u, for t, in topology i
abbrev pub packet_at : ℕ → ℕ → ℕ → Packet
packet_at u t i = record { place = u; destination = t; topology = i }

-- ---- promises

-- what a function for C promises of its entry: the word is the packed answer, and what was lent is as the entry leaves it
pub record Answers {Input Lent Answer : Type 0} (E : Entry Input Lent Answer) (ranges : List ℕ) (i : Input) (before : Lent) (word : ℕ) (after : Lent) : Type 0 where
  pub answer : word ≡ word_of ranges (tell (E.verdict i before) (E.gives i before))
  pub lent : after ≡ on_accept (E.verdict i before) (E.leaves i before) before

-- ---- what C can rely on

-- of one function: its word tells what its entry's answer tells
pub record ReadFromWord {Input Lent Answer : Type 0} (E : Entry Input Lent Answer) (ranges : List ℕ) : Type 0 where
  -- accepted exactly when bit 63 is clear
  pub clear : (i : Input) (before after : Lent) (word : ℕ) → Answers E ranges i before word after → (refusing word ≡ false) ↔ (E.verdict i before ≡ Accepted)
  -- every value, or number and place, can be read from the word
  pub told : (i : Input) (before after after' : Lent) (word : ℕ) (r : Answer) → Answers E ranges i before word after → Promise E i before r after'
      → told_by ranges word ≡ E.tells r
  -- two results that the promise allows coincide
  pub determined : (i : Input) (before after after' : Lent) (word word' : ℕ) → Answers E ranges i before word after → Answers E ranges i before word' after'
      → (word ≡ word') × (after ≡ after')

-- of every function
pub record EveryWord : Type 0 where
  pub build : ReadFromWord build_entry by_length
  pub tables : ReadFromWord tables_entry by_length
  pub step : ReadFromWord step_entry by_step
  pub run : ReadFromWord run_entry by_run
  pub read : ReadFromWord read_entry by_read
  pub write : ReadFromWord write_entry by_length
  pub report : ReadFromWord report_entry by_length
