-- The words gathered from a file's bytes are the neighbours and the isolated nodes of the set that it holds.
use mathlib.Core.Path.{◌≡◌, refl, sym, ap, ap₂, ◌∙◌}
use mathlib.Core.Bool.{Bool, true, false, ◌&&◌, ◌||◌, or-false}
use mathlib.Core.List.{List}
use Prim.Native.Nat.{ℕ, zero, suc, ◌-◌, ◌≤◌, ◌<◌}
use native.Mathlib.Omega.{arith}
use lib.Dec.{eqb, ltb}
use lib.ListN.{length, get_or, set, replicate, length-set, length-replicate}
use lib.Seq.{get_or-set_same, get_or-set_other}
use borrow.Author.Tests.{eqb-true, eqb-false, eq-eqb, lt-ltb, le-ltb}
use Rattle.rules.specs.declared.Network.{Network}
use Rattle.rules.specs.Verdict.{Accepted}
use Rattle.rules.specs.Basics.{any, lowest}
use Rattle.rules.specs.Limits.{home_records}
use Rattle.rules.specs.File.{Set, set_of, header_of, end_a, end_b, home_topology}
use Rattle.rules.specs.Isolation.{joins, link_between, neighbours, isolated, isolated_word, word}
use Rattle.rules.specs.Judgement.{judge}
use Rattle.rules.proofs.Ground.Choices.{clash, false_of, same_test}
use Rattle.rules.proofs.Ground.Numbers.{any_at, any_of, any_ext, lowest_none, lowest_found}
use Rattle.rules.proofs.Ground.Rows.{get_d_up_to}
use Rattle.rules.proofs.File.SetOfBytes.{home_held}
use Rattle.rules.proofs.File.Records.{file_meets}
use Rattle.rules.proofs.Isolation.HomesAndRows.{homes_all, homes_most, isolated_by_home}
use Rattle.rules.proofs.Isolation.Removal.{homeless_at}
use Rattle.layout.proofs.Places.{links_end}
use Rattle.words.specs.Word.{has, adding, put}
use Rattle.words.proofs.Members.{has_none, has_adding, word_ext, word_none, word_more}
use Rattle.topologyrules.specs.Entered.{entered}
use Rattle.topologyrules.proofs.Same.{WordsOf}
use Rattle.intake.specs.Graph.{linked, neighbour_words, isolated_words, Ends, Homes}

-- ---- who is in the words

same_eqb : (x y : ℕ) → eqb x y ≡ eqb y x
same_eqb x y = same_test (eqb x y) (eqb y x) (λ e. eq-eqb y x (sym (eqb-true x y e))) (λ e. eq-eqb x y (sym (eqb-true y x e)))

pub length_entered : (nb : List ℕ) (x y : ℕ) → length (entered nb x y) ≡ length nb
unfolding entered
length_entered nb x y = length-set nb x (adding (get_or nb x 0) y)

pub length_linked : (A B : ℕ → ℕ) (nb : List ℕ) (l : ℕ) → length (linked A B nb l) ≡ length nb
unfolding linked
length_linked A B nb zero = refl
length_linked A B nb (suc l) =
    length_entered (entered (linked A B nb l) (A l) (B l)) (B l) (A l) ∙ length_entered (linked A B nb l) (A l) (B l) ∙ length_linked A B nb l

has_entered : (nb : List ℕ) (x y u v : ℕ) → u < length nb → has (get_or (entered nb x y) u 0) v ≡ (has (get_or nb u 0) v || (eqb x u && eqb y v))
unfolding entered
has_entered nb x y u v h = go (eqb x u) refl
  where
    go : (t : Bool) → eqb x u ≡ t → has (get_or (set nb x (adding (get_or nb x 0) y)) u 0) v ≡ (has (get_or nb u 0) v || (eqb x u && eqb y v))
    go true e =
        let q = eqb-true x u e in
        rw (e, q) (ap (λ (w : ℕ). has w v) (get_or-set_same nb u (adding (get_or nb u 0) y) 0 h) ∙ has_adding (get_or nb u 0) y v ∙ ap (λ (t : Bool). has (get_or nb u 0) v || t) (same_eqb v y))
    go false e =
        let q = eqb-false x u e in
        rw e (ap (λ (w : ℕ). has w v) (get_or-set_other nb x u (adding (get_or nb x 0) y) 0 (λ z. q (sym z))) ∙ sym (or-false (has (get_or nb u 0) v)))

-- link l joins u and v, by its ends
abbrev pub between : (ℕ → ℕ) → (ℕ → ℕ) → ℕ → ℕ → ℕ → Bool
between A B u v l = (eqb (A l) u && eqb (B l) v) || (eqb (A l) v && eqb (B l) u)

pub has_linked : (A B : ℕ → ℕ) (nb : List ℕ) (u v m : ℕ) → u < length nb → has (get_or (linked A B nb m) u 0) v ≡ (has (get_or nb u 0) v || any (between A B u v) m)
unfolding linked any
has_linked A B nb u v zero h = sym (or-false (has (get_or nb u 0) v))
has_linked A B nb u v (suc l) h =
    let e = length_linked A B nb l in
    let f = length_entered (linked A B nb l) (A l) (B l) in
    has_entered (entered (linked A B nb l) (A l) (B l)) (B l) (A l) u v (omega arith)
    ∙ ap (λ (t : Bool). t || (eqb (B l) u && eqb (A l) v)) (has_entered (linked A B nb l) (A l) (B l) u v (omega arith) ∙ ap (λ (t : Bool). t || (eqb (A l) u && eqb (B l) v)) (has_linked A B nb u v l h))
    ∙ shuffle (has (get_or nb u 0) v) (any (between A B u v) l) (eqb (A l) u && eqb (B l) v) (eqb (B l) u) (eqb (A l) v)
  where
    shuffle : (p q r s t : Bool) → (((p || q) || r) || (s && t)) ≡ (p || (q || (r || (t && s))))
    shuffle true q r s t = refl
    shuffle false true r s t = refl
    shuffle false false true s t = refl
    shuffle false false false true true = refl
    shuffle false false false true false = refl
    shuffle false false false false true = refl
    shuffle false false false false false = refl

-- ---- neighbours

-- two nodes are neighbours exactly where some link joins them
pub neighbours_any : (S : Set) (u w : ℕ) → neighbours S u w ≡ any (λ l. joins S l u w) S.net.m
unfolding neighbours link_between
neighbours_any S u w = go (any (λ l. joins S l u w) S.net.m) refl
  where
    go : (t : Bool) → any (λ l. joins S l u w) S.net.m ≡ t → ltb (lowest (λ l. joins S l u w) S.net.m S.net.m) S.net.m ≡ any (λ l. joins S l u w) S.net.m
    go true e =
        let s = any_at (λ l. joins S l u w) S.net.m e in
        let f = lowest_found (λ l. joins S l u w) S.net.m S.net.m s.0 s.1 s.2 in
        lt-ltb _ S.net.m (omega (arith, s.1, f.0)) ∙ sym e
    go false e =
        let z = lowest_none (λ l. joins S l u w) S.net.m S.net.m (λ l h. false_of (joins S l u w) (λ q. clash (any (λ l. joins S l u w) S.net.m) (any_of (λ l. joins S l u w) S.net.m l h q) e)) in
        le-ltb _ S.net.m (omega (arith, z)) ∙ sym e

pub words_of : (s : List ℕ) → (header_of s).n ≤ 32 → WordsOf (set_of s) (neighbour_words s (header_of s).m)
unfolding neighbour_words set_of joins
words_of s few =
    record {
      few = few;
      each = λ u w l.
          has_linked (end_a s) (end_b s) (replicate 32 0) u w (header_of s).m (let e = length-replicate {A = ℕ} 32 0 in omega arith)
          ∙ ap (λ (t : Bool). t || any (between (end_a s) (end_b s) u w) (header_of s).m) (ap (λ (x : ℕ). has x w) (homeless_at 32 u) ∙ has_none w)
          ∙ any_ext (between (end_a s) (end_b s) u w) (λ k. joins (set_of s) k u w) (header_of s).m
          (λ k h. ap₂ (λ (x y : ℕ). (eqb x u && eqb y w) || (eqb x w && eqb y u)) (sym (get_d_up_to (end_a s) (header_of s).m k 0 h)) (sym (get_d_up_to (end_b s) (header_of s).m k 0 h)))
          ∙ sym (neighbours_any (set_of s) u w);
    }

-- ---- isolated nodes

length_isolated : (s : List ℕ) (h : Network) (v : ℕ) → length (isolated_words s h v) ≡ 32
unfolding isolated_words
length_isolated s h zero = length-replicate {A = ℕ} 32 0
length_isolated s h (suc v) = length_entered (isolated_words s h v) (home_topology s h v - 1) v ∙ length_isolated s h v

-- node v's home is i
abbrev home_is : List ℕ → Network → ℕ → ℕ → Bool
home_is s h i v = eqb (home_topology s h v) i

-- the word of topology j + 1, once the first v nodes are entered
word_so_far : (s : List ℕ) (h : Network) (j v : ℕ) → j < 32 → v ≤ 32 → ((x : ℕ) → x < v → 1 ≤ home_topology s h x)
    → get_or (isolated_words s h v) j 0 ≡ word (home_is s h (suc j)) v
unfolding isolated_words entered put
word_so_far s h j zero lj lv one = homeless_at 32 j ∙ word_none (home_is s h (suc j))
word_so_far s h j (suc v) lj lv one = go (home_is s h (suc j) v) refl (word_so_far s h j v lj (omega arith) (λ x l. one x (omega arith)))
  where
    more : (t : Bool) → home_is s h (suc j) v ≡ t → get_or (isolated_words s h v) j 0 ≡ word (home_is s h (suc j)) v → put t (get_or (isolated_words s h v) j 0) v ≡ word (home_is s h (suc j)) (suc v)
    more t e before = ap₂ (λ (q : Bool) (w : ℕ). put q w v) (sym e) before ∙ word_more (home_is s h (suc j)) v (omega arith)

    go : (t : Bool) → home_is s h (suc j) v ≡ t → get_or (isolated_words s h v) j 0 ≡ word (home_is s h (suc j)) v
        → get_or (entered (isolated_words s h v) (home_topology s h v - 1) v) j 0 ≡ word (home_is s h (suc j)) (suc v)
    go true e before =
        let here : home_topology s h v - 1 ≡ j = let q = eqb-true (home_topology s h v) (suc j) e in omega arith in
        ap (λ (x : ℕ). get_or (set (isolated_words s h v) x (adding (get_or (isolated_words s h v) x 0) v)) j 0) here
        ∙ get_or-set_same (isolated_words s h v) j (adding (get_or (isolated_words s h v) j 0) v) 0 (let l = length_isolated s h v in omega arith)
        ∙ more true e before
    go false e before =
        let q = eqb-false (home_topology s h v) (suc j) e in
        let l = one v (omega arith) in
        get_or-set_other (isolated_words s h v) (home_topology s h v - 1) j (adding (get_or (isolated_words s h v) (home_topology s h v - 1) 0) v) 0 (λ z. q (omega arith))
        ∙ more false e before

pub isolated_words_are : (s : List ℕ) (j : ℕ) → Homes s (header_of s) → j < (header_of s).k → j < 32
    → get_or (isolated_words s (header_of s) (home_records (header_of s))) j 0 ≡ isolated_word (set_of s) (suc j)
unfolding isolated_word set_of
isolated_words_are s j H lk lj =
    let h : Network = header_of s in
    let all : home_records h ≡ h.n = homes_all h (omega arith) in
    word_so_far s h j (home_records h) lj H.few H.one
    ∙ ap (word (home_is s h (suc j))) all
    ∙ word_ext (home_is s h (suc j)) (isolated (set_of s) (suc j)) h.n
    (λ v l. ap (λ (x : ℕ). eqb x (suc j)) (sym (home_held s v (omega arith))) ∙ sym (isolated_by_home (set_of s) j v))

-- ---- an accepted file

pub accepted_ends : (s : List ℕ) → judge s ≡ Accepted → Ends s (header_of s).m
accepted_ends s e =
    let f = file_meets s e in
    let n = f.header.limits.nodes.1 in
    record { long = rw f.header.long (links_end (header_of s)); a_low = λ l h. let x = (f.links l h).ends in omega (arith, x.0, x.1); b_low = λ l h. let x = (f.links l h).ends in omega (arith, x.0, x.1) }

pub accepted_homes : (s : List ℕ) → judge s ≡ Accepted → Homes s (header_of s)
accepted_homes s e =
    let f = file_meets s e in
    let n = f.header.limits.nodes.1 in
    let k = f.header.limits.topologies.0 in
    record { few = omega (arith, homes_most (header_of s)); one = λ v l. (f.homes v l).topology.0; high = λ v l. let t = (f.homes v l).topology.1 in omega arith }

pub accepted_few : (s : List ℕ) → judge s ≡ Accepted → (header_of s).n ≤ 32
accepted_few s e = (file_meets s e).header.limits.nodes.1

pub accepted_some : (s : List ℕ) → judge s ≡ Accepted → 3 ≤ (header_of s).n
accepted_some s e = (file_meets s e).header.limits.nodes.0

pub accepted_topologies : (s : List ℕ) → judge s ≡ Accepted → (header_of s).k ≤ 32
accepted_topologies s e = (file_meets s e).header.limits.topologies.0
