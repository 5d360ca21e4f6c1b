-- 01, 'Examples': P1 to P12, through the entries' definitions; and the report on the triangle, of 01 with 02's request a.
use Rattle.std.specs.Prelude.{◌≡◌, List, [], ◌∷◌, ◌++◌, ℕ, ◌*◌, replicate}
use Rattle.rules.specs.declared.Failure.{Failure}
use Rattle.rules.specs.declared.Failure.TheVariants.{Nothing, Link, Node}
use Rattle.rules.specs.Limits.{row_weights, home_records, tables_length, trail_room}
use Rattle.rules.specs.File.{Set, encode}
use Rattle.rules.specs.Forwarding.{trail}
use Rattle.rules.specs.Building.{filled}
use Rattle.rules.specs.Report.{header_line, report_text}
use Rattle.rules.specs.Answers.{Told, accepted, refused, tell}
use Rattle.rules.specs.Entries.Lists.{Lists, lists}
use Rattle.rules.specs.Entries.Read.{read_entry}
use Rattle.rules.specs.Entries.Build.{BuildInput, built_from, build_entry}
use Rattle.rules.specs.Entries.Run.{RunInput, RunLent, run_of, run_entry}

-- a graph alone: its header's counts, its links' ends and weights
abbrev pub graph : ℕ → ℕ → ℕ → List ℕ → List ℕ → List ℕ → Set
graph n m wmax a b weights = record { net = record { n = n; m = m; k = 0; wmax = wmax }; a = a; b = b; weights = weights; homes = []; rows = [] }

-- "The triangle is the report's": links 0-1 weight 1, 0-2 weight 3, 1-2 weight 1, wmax 3
unfoldable pub triangle : Set
triangle = graph 3 3 3 (0 ∷ 0 ∷ 1 ∷ []) (1 ∷ 2 ∷ 2 ∷ []) (1 ∷ 3 ∷ 1 ∷ [])

-- "Ring: 0-1, 0-3, 1-2, 2-3."
unfoldable pub ring : Set
ring = graph 4 4 1 (0 ∷ 0 ∷ 1 ∷ 2 ∷ []) (1 ∷ 3 ∷ 2 ∷ 3 ∷ []) (1 ∷ 1 ∷ 1 ∷ 1 ∷ [])

-- "Full four: all six links among 0 to 3."
unfoldable pub full_four : Set
full_four = graph 4 6 1 (0 ∷ 0 ∷ 0 ∷ 1 ∷ 1 ∷ 2 ∷ []) (1 ∷ 2 ∷ 3 ∷ 2 ∷ 3 ∷ 3 ∷ []) (1 ∷ 1 ∷ 1 ∷ 1 ∷ 1 ∷ 1 ∷ [])

-- "Rows are as the builder would fill them for the homes given"
unfoldable pub triangle_set : Set
triangle_set = filled triangle (1 ∷ 2 ∷ 3 ∷ [])

-- "P6 has the homes of P2."
unfoldable pub ring_set : Set
ring_set = filled ring (1 ∷ 2 ∷ 3 ∷ 4 ∷ [])

-- "homes as P4"
unfoldable pub full_four_set : Set
full_four_set = filled full_four (1 ∷ 1 ∷ 2 ∷ 2 ∷ [])

-- ---- a row of the table: a refusal's number and place; or 0, 0, the values of an accepted call and what it wrote

unfoldable pub row_of : Told → List ℕ → List ℕ
row_of (accepted values) wrote = 0 ∷ 0 ∷ (values ++ wrote)
row_of (refused number place) wrote = number ∷ place ∷ []

-- the builder, into room that is long enough: number, place, length; then k and the homes of the set built
unfoldable pub built_row : Set → ℕ → List ℕ
built_row G cap =
    let i : BuildInput = record { file = encode G; cap = cap } in
    let room : List ℕ = replicate 100 0 in
    row_of (tell (build_entry.verdict i room) (build_entry.gives i room)) ((built_from i).net.k ∷ (built_from i).homes)

-- the reader, into lists that are long enough: number, place; n, m, k, wmax
unfoldable pub taken_in_row : Set → List ℕ
taken_in_row S =
    let room : Lists =
    lists (replicate S.net.m 0) (replicate S.net.m 0) (replicate S.net.m 0) (replicate (home_records S.net) 0) (replicate (S.net.k * row_weights S.net) 0) in
    row_of (tell (read_entry.verdict (encode S) room) (read_entry.gives (encode S) room)) []

-- the run: number, place; 1 delivered or 2 dropped, hops, topology, the kind's letter (45: none); then the trail
unfoldable pub ran_row : Set → ℕ → ℕ → Failure → List ℕ
ran_row S source destination failure =
    let i : RunInput = record { file = encode S; source = source; destination = destination; failure = failure } in
    let room : RunLent = record { tables = replicate (tables_length S.net) 0; trail = replicate (trail_room S.net) 0 } in
    row_of (tell (run_entry.verdict i room) (run_entry.gives i room)) (trail source (run_of i))

-- ---- the table

-- what the definitions give for P1 to P12
unfoldable pub computed : List (List ℕ)
computed =
    built_row triangle 3
    ∷ built_row ring 4
    ∷ built_row ring 3
    ∷ built_row full_four 4
    ∷ ran_row triangle_set 0 2 (Link 2)
    ∷ ran_row ring_set 0 2 (Link 2)
    ∷ ran_row full_four_set 0 2 (Link 1)
    ∷ ran_row full_four_set 0 1 (Link 0)
    ∷ ran_row full_four_set 0 2 (Node 2)
    ∷ taken_in_row (filled ring (1 ∷ 2 ∷ 1 ∷ 3 ∷ []))
    ∷ taken_in_row (filled full_four (1 ∷ 1 ∷ 1 ∷ 2 ∷ []))
    ∷ ran_row triangle_set 0 0 Nothing
    ∷ []

-- what 01 says
unfoldable pub expected : List (List ℕ)
expected =
    -- P1: triangle, cap 3: homes 1, 2, 3 (a 65-byte file)
    (0 ∷ 0 ∷ 65 ∷ 3 ∷ 1 ∷ 2 ∷ 3 ∷ [])
    -- P2: ring, cap 4: homes 1, 2, 3, 4
    ∷ (0 ∷ 0 ∷ 92 ∷ 4 ∷ 1 ∷ 2 ∷ 3 ∷ 4 ∷ [])
    -- P3: ring, cap 3: refusal 10
    ∷ (10 ∷ 0 ∷ [])
    -- P4: full four, cap 4: homes 1, 1, 2, 2, so k = 2
    ∷ (0 ∷ 0 ∷ 90 ∷ 2 ∷ 1 ∷ 1 ∷ 2 ∷ 2 ∷ [])
    -- P5: triangle, 0 to 2, link 1-2 down: delivered in three hops, trail 0, 1, 0, 2 (topology 2, kind D)
    ∷ (0 ∷ 0 ∷ 1 ∷ 3 ∷ 2 ∷ 68 ∷ 0 ∷ 1 ∷ 0 ∷ 2 ∷ [])
    -- P6: ring, 0 to 2, link 1-2 down: trail 0, 1, 0, 3, 2, topology 2 (kind D)
    ∷ (0 ∷ 0 ∷ 1 ∷ 4 ∷ 2 ∷ 68 ∷ 0 ∷ 1 ∷ 0 ∷ 3 ∷ 2 ∷ [])
    -- P7: full four, 0 to 2, link 0-2 down: trail 0, 3, 2, topology 1 (kind D)
    ∷ (0 ∷ 0 ∷ 1 ∷ 2 ∷ 1 ∷ 68 ∷ 0 ∷ 3 ∷ 2 ∷ [])
    -- P8: full four, 0 to 1, link 0-1 down: trail 0, 2, 1, topology 1, kind S
    ∷ (0 ∷ 0 ∷ 1 ∷ 2 ∷ 1 ∷ 83 ∷ 0 ∷ 2 ∷ 1 ∷ [])
    -- P9: full four, 0 to 2, node 2 down: dropped after trail 0, 3 (topology 1, kind D)
    ∷ (0 ∷ 0 ∷ 2 ∷ 1 ∷ 1 ∷ 68 ∷ 0 ∷ 3 ∷ [])
    -- P10: ring, homes 1, 2, 1, 3: refusal 7 at topology 1
    ∷ (7 ∷ 1 ∷ [])
    -- P11: full four, homes 1, 1, 1, 2: refusal 8 at topology 1
    ∷ (8 ∷ 1 ∷ [])
    -- P12: triangle, 0 to 0, nothing down: delivered, trail 0, topology 0, no hops
    ∷ (0 ∷ 0 ∷ 1 ∷ 0 ∷ 0 ∷ 45 ∷ 0 ∷ [])
    ∷ []

-- the twelve examples hold of the definitions
abbrev pub ExamplesHold : Type 0
ExamplesHold = computed ≡ expected

-- ---- the report on the triangle

-- "The two T lines of the triangle's report end in -1 from now on; every other line there is unchanged." (02, a)
unfoldable pub triangle_report : List ℕ
triangle_report =
    header_line
    -- 0 1 1 D 1 2 2 1
    ++ ((48 ∷ 32 ∷ 49 ∷ 32 ∷ 49 ∷ 32 ∷ 68 ∷ 32 ∷ 49 ∷ 32 ∷ 50 ∷ 32 ∷ 50 ∷ 32 ∷ 49 ∷ 10 ∷ [])
    -- 0 1 2 T 2 2 1 -1
    ++ ((48 ∷ 32 ∷ 49 ∷ 32 ∷ 50 ∷ 32 ∷ 84 ∷ 32 ∷ 50 ∷ 32 ∷ 50 ∷ 32 ∷ 49 ∷ 32 ∷ 45 ∷ 49 ∷ 10 ∷ [])
    -- 1 0 0 D 2 2 2 1
    ++ ((49 ∷ 32 ∷ 48 ∷ 32 ∷ 48 ∷ 32 ∷ 68 ∷ 32 ∷ 50 ∷ 32 ∷ 50 ∷ 32 ∷ 50 ∷ 32 ∷ 49 ∷ 10 ∷ [])
    -- 1 2 2 D 2 0 2 1
    ++ ((49 ∷ 32 ∷ 50 ∷ 32 ∷ 50 ∷ 32 ∷ 68 ∷ 32 ∷ 50 ∷ 32 ∷ 48 ∷ 32 ∷ 50 ∷ 32 ∷ 49 ∷ 10 ∷ [])
    -- 2 1 0 T 2 0 1 -1
    ++ ((50 ∷ 32 ∷ 49 ∷ 32 ∷ 48 ∷ 32 ∷ 84 ∷ 32 ∷ 50 ∷ 32 ∷ 48 ∷ 32 ∷ 49 ∷ 32 ∷ 45 ∷ 49 ∷ 10 ∷ [])
    -- 2 1 1 D 3 0 2 1
    ++ ((50 ∷ 32 ∷ 49 ∷ 32 ∷ 49 ∷ 32 ∷ 68 ∷ 32 ∷ 51 ∷ 32 ∷ 48 ∷ 32 ∷ 50 ∷ 32 ∷ 49 ∷ 10 ∷ [])
    -- detections 6
    ++ (100 ∷ 101 ∷ 116 ∷ 101 ∷ 99 ∷ 116 ∷ 105 ∷ 111 ∷ 110 ∷ 115 ∷ 32 ∷ 54 ∷ 10 ∷ [])))))))

-- the definitions give that report
abbrev pub ReportHolds : Type 0
ReportHolds = report_text triangle_set ≡ triangle_report
