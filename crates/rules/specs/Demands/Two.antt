-- Demand 2. "A file or set is accepted exactly when it meets the published rules." Since 02's request h one operation takes in both.
use Rattle.std.specs.Prelude.{◌≡◌, ◌↔◌, ◌⊎◌, true, false, List, ℕ, suc, ◌+◌, ◌*◌, ◌≤◌, ◌<◌, length, take, drop, Ok}
use Rattle.rules.specs.declared.Network.{Network}
use Rattle.rules.specs.Verdict.{Accepted}
use Rattle.rules.specs.Limits.{row_weights, row_head_length, weight_length, home_records, link_place, home_place, row_place, file_length, tables_length}
use Rattle.rules.specs.File.{Set, encode}
use Rattle.rules.specs.Isolation.{neighbours, home, row_in_force, hop_weight, usable}
use Rattle.rules.specs.Distance.{Path, LeastTotal, distance, next_hop, candidate, alternate}
use Rattle.rules.specs.Forwarding.{entry_place}
use Rattle.rules.specs.Judgement.{judge, take_in}
use Rattle.rules.specs.Entries.Entry.{Promise}
use Rattle.rules.specs.Entries.Lists.{Lists, LongLists}
use Rattle.rules.specs.Entries.Read.{read_entry}
use Rattle.rules.specs.Entries.Write.{WriteInput, write_entry}
use Rattle.rules.specs.Entries.Tables.{tables_entry}
use Rattle.rules.specs.Sets.{Bytes, WithinLimits, at, MeetsRules, Published, PublishedFile, AcceptedSet, AcceptedFile}
use Rattle.rules.specs.Answers.{ReadAnswer, LengthAnswer}
use Rattle.rules.specs.Demands.Form.{AcceptsExactly, ThenGives, IsRead, IsLength, Front}

-- ---- files

-- bytes are taken in exactly when they are the encoding of a graph alone, or of a set, that meets the published rules, those of the backup topologies among them
abbrev pub TakenInExactly : Type 0
TakenInExactly = (s : List ℕ) → Bytes s → (take_in s ≡ Accepted) ↔ ((S : Set) × PublishedFile S s)

-- with a backup topology that is an accepted set
abbrev pub AcceptedPublished : Type 0
AcceptedPublished = (S : Set) → AcceptedSet S ↔ (Published S × (1 ≤ S.net.k))

-- the judgement by 1 to 6 alone, on which the step rests: bytes pass it exactly when they are the encoding of a set that meets the rules of the file
abbrev pub AcceptedExactly : Type 0
AcceptedExactly = (s : List ℕ) → Bytes s → (judge s ≡ Accepted) ↔ ((S : Set) × MeetsRules S × (encode S ≡ s))

-- of one only: two sets that meet the rules of the file and are written as the same bytes are one
abbrev pub OneSet : Type 0
OneSet = (S S' : Set) → MeetsRules S → MeetsRules S' → encode S ≡ encode S' → S ≡ S'

-- "The longest file is 9,192 bytes."
abbrev pub LongestFile : Type 0
LongestFile = (s : List ℕ) → judge s ≡ Accepted → length s ≤ 9192

-- where weight x of row record j stands
abbrev pub weight_place : Network → ℕ → ℕ → ℕ
weight_place h j x = row_place h j + row_head_length + weight_length * x

-- "Big-endian numbers, a two-byte mark before each record, this order, nothing between or after": the file of a set, field by field, as 01's table has it
pub record LaidOut (S : Set) (s : List ℕ) : Type 0 where
  -- network: mark 4E 57, then n (1 byte), m (2), k (1), wmax (2)
  pub network : (at s 0 ≡ 0x4E) × (at s 1 ≡ 0x57) × (at s 2 ≡ S.net.n) × (256 * at s 3 + at s 4 ≡ S.net.m) × (at s 5 ≡ S.net.k)
      × (256 * at s 6 + at s 7 ≡ S.net.wmax)
  -- link, m times: mark 4C 4B, then a (1), b (1), weight (2)
  pub link : (l : ℕ) → l < S.net.m
      → (at s (link_place l) ≡ 0x4C) × (at s (link_place l + 1) ≡ 0x4B) × (at s (link_place l + 2) ≡ at S.a l) × (at s (link_place l + 3) ≡ at S.b l)
      × (256 * at s (link_place l + 4) + at s (link_place l + 5) ≡ at S.weights l)
  -- home, n times if k > 0: mark 48 4D, then node (1), topology (1)
  pub home : (v : ℕ) → v < home_records S.net
      → (at s (home_place S.net v) ≡ 0x48) × (at s (home_place S.net v + 1) ≡ 0x4D) × (at s (home_place S.net v + 2) ≡ v)
      × (at s (home_place S.net v + 3) ≡ at S.homes v)
  -- backup row, k times: mark 42 57, then topology (1), m weights (2 each)
  pub row : (j : ℕ) → j < S.net.k
      → (at s (row_place S.net j) ≡ 0x42) × (at s (row_place S.net j + 1) ≡ 0x57) × (at s (row_place S.net j + 2) ≡ suc j)
      × ((x : ℕ) → x < row_weights S.net → 256 * at s (weight_place S.net j x) + at s (weight_place S.net j x + 1) ≡ at (row_in_force S (suc j)) x)
  -- nothing after
  pub long : length s ≡ file_length S.net

-- every set's file is so
abbrev pub FilesLaidOut : Type 0
FilesLaidOut = (S : Set) → LaidOut S (encode S)

-- ---- read

-- read, the one operation of 02's request h, takes bytes in exactly when they are the encoding of a graph alone, or of a set, that meets the published rules,
-- those of the backup topologies among them; of one only; and every list has room
pub record ReadMeets (S : Set) (s : List ℕ) (d : Lists) : Type 0 where
  pub file : PublishedFile S s
  pub only : (S' : Set) → PublishedFile S' s → S' ≡ S
  pub room : LongLists S.net d

-- and then it answers the counts and leaves each list with the set's entries at its front
pub record ReadGives (S : Set) (s : List ℕ) (before : Lists) (r : ReadAnswer) (after : Lists) : Type 0 where
  pub answer : r ≡ Ok S.net
  pub a : Front S.a before.a after.a
  pub b : Front S.b before.b after.b
  pub weights : Front S.weights before.weights after.weights
  pub homes : Front S.homes before.homes after.homes
  pub rows : Front S.rows before.rows after.rows

-- ---- write

-- the set of a header and five lists, which are cut to the counts: "entries past the counts are neither written nor compared"
unfoldable pub cut_to : Network → Lists → Set
cut_to h d =
    record {
      net = h;
      a = take h.m d.a;
      b = take h.m d.b;
      weights = take h.m d.weights;
      homes = take (home_records h) d.homes;
      rows = take (h.k * row_weights h) d.rows;
    }

-- write accepts exactly when the counts are within limits, the lists are long enough, the graph or set that they are cut to meets the published rules, and its
-- file has room
pub record WriteMeets (S : Set) (i : WriteInput) (lent : List ℕ) : Type 0 where
  pub limits : WithinLimits i.net
  pub lists : LongLists i.net i.lists
  pub set : S ≡ cut_to i.net i.lists
  pub published : Published S
  pub room : file_length i.net ≤ length lent

-- and then it answers the file's length and leaves the file at the front of the room
pub record WriteGives (S : Set) (i : WriteInput) (before : List ℕ) (r : LengthAnswer) (after : List ℕ) : Type 0 where
  pub answer : r ≡ Ok (file_length S.net)
  pub file : Front (encode S) before after

-- "An accepted file written out again is the same bytes": what reading left in the lists, written into any room that is long enough
abbrev pub SameBytes : Type 0
SameBytes =
    (s : List ℕ) → Bytes s → (before after : Lists) (h : Network) → Promise read_entry s before (Ok h) after
    → (room written : List ℕ) (r : LengthAnswer) → length s ≤ length room → Promise write_entry (record { net = h; lists = after }) room r written
    → (r ≡ Ok (length s)) × (take (length s) written ≡ s)

-- the entries of a list within a count
abbrev pub Same : ℕ → List ℕ → List ℕ → Type 0
Same count l l' = take count l ≡ take count l'

-- five lists agree within the counts
pub record SameLists (h : Network) (d d' : Lists) : Type 0 where
  pub a : Same h.m d.a d'.a
  pub b : Same h.m d.b d'.b
  pub weights : Same h.m d.weights d'.weights
  pub homes : Same (home_records h) d.homes d'.homes
  pub rows : Same (h.k * row_weights h) d.rows d'.rows

-- "a set written out reads back as itself": by any reader whose lists are long enough
abbrev pub ReadsBack : Type 0
ReadsBack =
    (h : Network) (d : Lists) (room written : List ℕ) (bytes : ℕ) → Promise write_entry (record { net = h; lists = d }) room (Ok bytes) written
    → (before after : Lists) (r : ReadAnswer) → LongLists h before → Promise read_entry (take bytes written) before r after
    → (r ≡ Ok h) × SameLists h after d

-- ---- "Every next hop lies on a path of least total weight, ties to the lower number."

-- the distance that is computed is the least total over all paths, in every topology of an accepted set; so there is a path
abbrev pub LeastDistances : Type 0
LeastDistances =
    (S : Set) → AcceptedSet S → (i u t : ℕ) → i ≤ S.net.k → u < S.net.n → t < S.net.n → LeastTotal S i u t (distance S i u t)

-- w is the next hop at u for t: over a usable link, on a path of least total weight, and the lowest such neighbour
pub record NextHopIs (S : Set) (i u t w : ℕ) : Type 0 where
  pub node : w < S.net.n
  pub over : usable S i u w ≡ true
  -- the rest of a path whose total with this hop is the least
  pub rest : ℕ
  pub path : Path S i t w rest
  pub lies : LeastTotal S i u t (hop_weight S i u w + rest)
  -- no lower-numbered neighbour lies on such a path
  pub lower : (x y : ℕ) → x < w → usable S i u x ≡ true → Path S i t x y → LeastTotal S i u t (hop_weight S i u x + y) → ⊥

-- every next hop of an accepted set is that neighbour
abbrev pub LeastNextHops : Type 0
LeastNextHops =
    (S : Set) → AcceptedSet S → (i u t : ℕ) → i ≤ S.net.k → u < S.net.n → t < S.net.n → (u ≡ t → ⊥) → NextHopIs S i u t (next_hop S i u t)

-- w is the alternate at u for v: a candidate, none is nearer to v, and none as near has a lower number
pub record AlternateIs (S : Set) (u v w : ℕ) : Type 0 where
  pub chosen : candidate S u v w ≡ true
  pub nearest : (x : ℕ) → x < S.net.n → candidate S u v x ≡ true → distance S (home S u) w v ≤ distance S (home S u) x v
  pub lower : (x : ℕ) → x < w → candidate S u v x ≡ true → distance S (home S u) w v < distance S (home S u) x v

-- every alternate of an accepted set for a neighbour with another home is that candidate
abbrev pub NearestAlternates : Type 0
NearestAlternates =
    (S : Set) → AcceptedSet S → (u v : ℕ) → u < S.net.n → v < S.net.n → neighbours S u v ≡ true → (home S u ≡ home S v → ⊥)
    → AlternateIs S u v (alternate S u v)

-- ---- tables

-- tables accepts exactly when the bytes are an accepted set's and its tables have room
pub record TablesMeet (S : Set) (s lent : List ℕ) : Type 0 where
  pub file : AcceptedFile S s
  pub room : tables_length S.net ≤ length lent

-- and then it answers their length, and every byte that it leaves is
pub record TablesGive (S : Set) (s before : List ℕ) (r : LengthAnswer) (after : List ℕ) : Type 0 where
  pub answer : r ≡ Ok (tables_length S.net)
  -- the next hop on a path of least total weight, ties to the lower number; "For t = u the entry is u."
  pub next : (i u t : ℕ) → i ≤ S.net.k → u < S.net.n → t < S.net.n → (u ≡ t → ⊥) → NextHopIs S i u t (at after (entry_place S.net i u t))
  pub own : (i u : ℕ) → i ≤ S.net.k → u < S.net.n → at after (entry_place S.net i u u) ≡ u
  -- after those of topology k: the nearest alternate for a neighbour with another home, ties to the lower number; "All other alternate entries are 255."
  pub alternate : (u v : ℕ) → u < S.net.n → v < S.net.n → neighbours S u v ≡ true → (home S u ≡ home S v → ⊥)
      → AlternateIs S u v (at after (entry_place S.net (S.net.k + 1) u v))
  pub none : (u v : ℕ) → u < S.net.n → v < S.net.n → (neighbours S u v ≡ false) ⊎ (home S u ≡ home S v)
      → at after (entry_place S.net (S.net.k + 1) u v) ≡ 255
  -- past the tables, as it came
  pub rest : drop (tables_length S.net) after ≡ drop (tables_length S.net) before

-- ---- the demand

-- demand 2
pub record Demand2 : Type 0 where
  pub files_laid_out : FilesLaidOut
  pub read_accepts : AcceptsExactly read_entry IsRead Bytes ReadMeets
  pub read_gives : ThenGives read_entry ReadMeets ReadGives
  pub write_accepts : AcceptsExactly write_entry IsLength (λ i. Unit {0}) WriteMeets
  pub write_gives : ThenGives write_entry WriteMeets WriteGives
  pub tables_accepts : AcceptsExactly tables_entry IsLength Bytes TablesMeet
  pub tables_gives : ThenGives tables_entry TablesMeet TablesGive
  pub taken_in_exactly : TakenInExactly
  pub accepted_published : AcceptedPublished
  pub accepted_exactly : AcceptedExactly
  pub one_set : OneSet
  pub longest_file : LongestFile
  pub same_bytes : SameBytes
  pub reads_back : ReadsBack
  pub least_distances : LeastDistances
  pub least_next_hops : LeastNextHops
  pub nearest_alternates : NearestAlternates
