-- The parts of a line, the lines and the whole text, put together.
use Rattle.std.specs.Prelude.{if◌then◌else◌}
use mathlib.Core.Path.{◌≡◌, sym, ap, subst, ◌∙◌}
use mathlib.Core.List.{List, [], ◌∷◌, ◌++◌, append_assoc}
use Prim.Native.Nat.{ℕ, ◌+◌, ◌-◌, ◌*◌, ◌≤◌, ◌<◌}
use native.Mathlib.Numerals.{add-one}
use native.Mathlib.Omega.{arith}
use lib.Dec.{eqb}
use lib.IntN.{ℤ, pos, ◌-ℤ◌}
use borrow.Author.Tests.{eq-eqb, ne_eqb}
use mir.Syntax.{w8, w32}
use mir.Val.{Fits, to_z, of_z}
use Rattle.rules.specs.declared.Network.{Network}
use Rattle.rules.specs.declared.Kind.{Kind}
use Rattle.rules.specs.Basics.{flat}
use Rattle.rules.specs.File.{Set, header_of, set_of}
use Rattle.rules.specs.Judgement.{take_set}
use Rattle.rules.proofs.File.SetOfBytes.{net_held}
use Rattle.rules.specs.Verdict.{Accepted}
use Rattle.rules.specs.Forwarding.{letter}
use Rattle.rules.specs.Report.{decimal, signed, extra_hops, space, newline, header_line, detection_line, detection_lines, last_line, report_text}
use Rattle.rules.proofs.Ground.Choices.{if_yes, if_no}
use Rattle.detections.specs.declared.Seen.{Seen}
use Rattle.text.specs.declared.Pen.{Pen}
use Rattle.text.specs.Text.{field, signed_room, field_room, labelled_room}
use Rattle.text.specs.Pen.{Writes}
use Rattle.detections.specs.Detection.{seen_by}
use Rattle.lines.specs.Lines.{head_of, change_of, tail_of, line_of, line_for, node_lines, last_of, head_room, change_room, tail_room, line_room, node_room, lines_room, header_room, last_room, text_room}
use Rattle.text.proofs.Texts.{writes_none, writes_then, writes_as, writes_few}
use Rattle.detections.proofs.Seens.{nodes_least, nodes_most}
use Rattle.lines.proofs.Extras.{read_back}

-- ---- a line

pub head_of_laid : (old o₁ o₂ new : Pen) (u via t : ℕ) → Writes old (field u) field_room o₁ → Writes o₁ (field via) field_room o₂ → Writes o₂ (field t) field_room new
    → Writes old (head_of u via t) head_room new
unfolding head_of
head_of_laid old o₁ o₂ new u via t a b c =
    writes_then old o₁ new field_room (2 * field_room) head_room (field u) (field via ++ field t) a (writes_then o₁ o₂ new field_room field_room (2 * field_room) (field via) (field t) b c (omega arith)) (omega arith)

pub change_of_laid : (old o₁ o₂ o₃ new : Pen) (x topology next : ℕ) (kind : Kind) → x ≡ letter kind → Writes old (x ∷ []) 1 o₁ → Writes o₁ (32 ∷ []) 1 o₂
    → Writes o₂ (field topology) field_room o₃ → Writes o₃ (field next) field_room new → Writes old (change_of kind topology next) change_room new
unfolding change_of
change_of_laid old o₁ o₂ o₃ new x topology next kind e a b c d =
    writes_as old new change_room (x ∷ (space ++ (field topology ++ field next))) (letter kind ∷ (space ++ (field topology ++ field next)))
    (ap (λ (y : ℕ). y ∷ (space ++ (field topology ++ field next))) e)
    (writes_then old o₁ new 1 (1 + 2 * field_room) change_room (x ∷ []) (space ++ (field topology ++ field next)) a
    (writes_then o₁ o₂ new 1 (2 * field_room) (1 + 2 * field_room) space (field topology ++ field next) b
    (writes_then o₂ o₃ new field_room field_room (2 * field_room) (field topology) (field next) c d (omega arith)) (omega arith)) (omega arith))

pub tail_of_laid : (old o₁ o₂ new : Pen) (hops plain : ℕ) (x : ℤ) → Fits w8 hops → Fits w8 plain → x ≡ pos hops -ℤ pos plain → Writes old (field hops) field_room o₁ → Writes o₁ (signed (to_z w32 (of_z w32 x))) signed_room o₂ → Writes o₂ (10 ∷ []) 1 new
    → Writes old (tail_of hops plain) tail_room new
unfolding tail_of
tail_of_laid old o₁ o₂ new hops plain x f g e a b c =
    writes_then old o₁ new field_room (signed_room + 1) tail_room (field hops) (signed (pos hops -ℤ pos plain) ++ newline) a
    (writes_then o₁ o₂ new signed_room 1 (signed_room + 1) (signed (pos hops -ℤ pos plain)) newline (writes_as o₁ o₂ signed_room (signed (to_z w32 (of_z w32 x))) (signed (pos hops -ℤ pos plain)) (ap signed (read_back hops plain f g x e)) b) c (omega arith)) (omega arith)

pub line_of_laid : (old o₁ o₂ new : Pen) (u t : ℕ) (d : Seen) → Writes old (head_of u d.via t) head_room o₁ → Writes o₁ (change_of d.kind d.topology d.next) change_room o₂
    → Writes o₂ (tail_of d.hops d.plain) tail_room new → Writes old (line_of u t d) line_room new
unfolding line_of
line_of_laid old o₁ o₂ new u t d a b c =
    writes_then old o₁ new head_room (change_room + tail_room) line_room (head_of u d.via t) (change_of d.kind d.topology d.next ++ tail_of d.hops d.plain) a
    (writes_then o₁ o₂ new change_room tail_room (change_room + tail_room) (change_of d.kind d.topology d.next) (tail_of d.hops d.plain) b c (omega arith)) (omega arith)

-- the parts make the published line
line_same : (S : Set) (u t : ℕ) → line_of u t (seen_by S u t) ≡ detection_line S u t
unfolding line_of seen_by head_of change_of tail_of field detection_line extra_hops
line_same S u t = simp append_assoc

-- ---- the lines

pub own_line : (S : Set) (u t : ℕ) (pen : Pen) → u ≡ t → Writes pen (line_for S u t) line_room pen
unfolding line_for
own_line S u t pen e =
    writes_as pen pen line_room [] (if eqb u t then [] else detection_line S u t) (sym (if_yes (eqb u t) [] (detection_line S u t) (eq-eqb u t e))) (writes_none pen line_room)

pub other_line : (S : Set) (u t : ℕ) (old new : Pen) (d : Seen) → (u ≡ t → ⊥) → d ≡ seen_by S u t → Writes old (line_of u t d) line_room new → Writes old (line_for S u t) line_room new
unfolding line_for
other_line S u t old new d ne e w =
    writes_as old new line_room (line_of u t d) (if eqb u t then [] else detection_line S u t)
    (ap (line_of u t) e ∙ line_same S u t ∙ sym (if_no (eqb u t) [] (detection_line S u t) (ne_eqb u t ne))) w

-- one list more of those that are written one after the other
rows_more : (f : ℕ → List ℕ) (w a b : ℕ) (old mid new : Pen) (x : ℕ) → Writes old (flat f x) a mid → Writes mid (f x) w new → a + w ≤ b → Writes old (flat f (x + 1)) b new
unfolding flat
rows_more f w a b old mid new x v u h = rw add-one (writes_then old mid new a w b (flat f x) (f x) v u h)

pub node_none : (S : Set) (u : ℕ) (pen : Pen) → Writes pen (flat (line_for S u) 0) (line_room * 0) pen
unfolding flat
node_none S u pen = writes_none pen 0

pub node_more : (S : Set) (u t : ℕ) (old mid new : Pen) → Writes old (flat (line_for S u) t) (line_room * t) mid → Writes mid (line_for S u t) line_room new
    → Writes old (flat (line_for S u) (t + 1)) (line_room * (t + 1)) new
node_more S u t old mid new v w = rows_more (line_for S u) line_room (line_room * t) (line_room * (t + 1)) old mid new t v w (omega arith)

pub node_done : (s : List ℕ) (net : Network) (u t : ℕ) (old new : Pen) → take_set s ≡ Accepted → net ≡ header_of s → Writes old (flat (line_for (set_of s) u) t) (line_room * t) new → t ≤ net.n → net.n ≤ t
    → Writes old (node_lines (set_of s) u) node_room new
unfolding node_lines
node_done s net u t old new c h w a b =
    let e : t ≡ net.n = omega arith in
    writes_few old new (line_room * t) node_room (flat (line_for (set_of s) u) (set_of s).net.n) (omega (arith, nodes_most s net c h))
    (subst (λ (x : ℕ). Writes old (flat (line_for (set_of s) u) x) (line_room * t) new) (e ∙ ap (λ (k : Network). k.n) (h ∙ sym (net_held s))) w)

pub all_none : (S : Set) (pen : Pen) → Writes pen (flat (node_lines S) 0) (node_room * 0) pen
unfolding flat
all_none S pen = writes_none pen 0

pub all_more : (S : Set) (u : ℕ) (old mid new : Pen) → Writes old (flat (node_lines S) u) (node_room * u) mid → Writes mid (node_lines S u) node_room new
    → Writes old (flat (node_lines S) (u + 1)) (node_room * (u + 1)) new
all_more S u old mid new v w = rows_more (node_lines S) node_room (node_room * u) (node_room * (u + 1)) old mid new u v w (omega arith)

-- where a node's lines begin
pub row_low : (s : List ℕ) (net : Network) (u : ℕ) (old mid : Pen) (bytes : List ℕ) → take_set s ≡ Accepted → net ≡ header_of s → u < net.n → old.at ≤ header_room → Writes old bytes (node_room * u) mid → mid.at < 524288
row_low s net u old mid bytes c h l a w = omega (arith, nodes_most s net c h, w.wrote.few)

pub all_done : (s : List ℕ) (net : Network) (u : ℕ) (old new : Pen) → take_set s ≡ Accepted → net ≡ header_of s → Writes old (flat (node_lines (set_of s)) u) (node_room * u) new → u ≤ net.n → net.n ≤ u
    → Writes old (detection_lines (set_of s)) lines_room new
unfolding detection_lines node_lines line_for
all_done s net u old new c h w a b =
    let e : u ≡ net.n = omega arith in
    writes_few old new (node_room * u) lines_room (flat (node_lines (set_of s)) (set_of s).net.n) (omega (arith, nodes_most s net c h))
    (subst (λ (x : ℕ). Writes old (flat (node_lines (set_of s)) x) (node_room * u) new) (e ∙ ap (λ (k : Network). k.n) (h ∙ sym (net_held s))) w)

-- ---- the whole text

pub last_of_laid : (old mid new : Pen) (n x : ℕ) → x ≡ n * (n - 1)
    → Writes old ((100 ∷ 101 ∷ 116 ∷ 101 ∷ 99 ∷ 116 ∷ 105 ∷ 111 ∷ 110 ∷ 115 ∷ 32 ∷ []) ++ decimal x) labelled_room mid → Writes mid (10 ∷ []) 1 new
    → Writes old (last_of n) last_room new
unfolding last_of
last_of_laid old mid new n x e a b =
    writes_as old new last_room (100 ∷ 101 ∷ 116 ∷ 101 ∷ 99 ∷ 116 ∷ 105 ∷ 111 ∷ 110 ∷ 115 ∷ 32 ∷ (decimal x ++ newline)) (last_of n)
    (ap (λ (y : ℕ). 100 ∷ 101 ∷ 116 ∷ 101 ∷ 99 ∷ 116 ∷ 105 ∷ 111 ∷ 110 ∷ 115 ∷ 32 ∷ (decimal y ++ newline)) e)
    (writes_then old mid new labelled_room 1 last_room ((100 ∷ 101 ∷ 116 ∷ 101 ∷ 99 ∷ 116 ∷ 105 ∷ 111 ∷ 110 ∷ 115 ∷ 32 ∷ []) ++ decimal x) newline a b (omega arith))

pub whole_of : (s : List ℕ) (net : Network) (old o₁ o₂ new : Pen) → net ≡ header_of s
    → Writes old header_line header_room o₁ → Writes o₁ (detection_lines (set_of s)) lines_room o₂ → Writes o₂ (last_of net.n) last_room new
    → Writes old (report_text (set_of s)) text_room new
unfolding report_text last_of last_line
whole_of s net old o₁ o₂ new h a b c =
    let d : Writes o₂ (last_line (set_of s)) last_room new = subst (λ (k : Network). Writes o₂ (last_of k.n) last_room new) (h ∙ sym (net_held s)) c in
    writes_then old o₁ new header_room (lines_room + last_room) text_room header_line (detection_lines (set_of s) ++ last_line (set_of s)) a
    (writes_then o₁ o₂ new lines_room last_room (lines_room + last_room) (detection_lines (set_of s)) (last_line (set_of s)) b d (omega arith)) (omega arith)

pub ruleset wholes = (nodes_least, nodes_most, row_low, head_of_laid, change_of_laid, tail_of_laid, line_of_laid, own_line, other_line, node_none, node_more, node_done, all_none, all_more, all_done, last_of_laid, whole_of)
