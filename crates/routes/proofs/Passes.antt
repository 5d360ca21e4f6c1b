-- What the passes leave: the distances, whatever these are, by three facts of them.
use Prim.Native.Nat.{ℕ, zero, suc, ◌+◌, ◌≤◌, ◌<◌, min}
use native.Mathlib.Nat.{le_refl, eq-or-lt_of_le, le_of_suc-le-suc, le_antisymm}
use native.Mathlib.Omega.{arith}
use mathlib.Core.Path.{◌≡◌, refl, sym, ap, subst, ◌∙◌}
use mathlib.Core.Logic.{◌⊎◌, inl, inr, ⊎_elim}
use mathlib.Core.List.{List, []}
use lib.Dec.{ltb}
use lib.ListN.{length, get_or, set, length-set, get_or-eq_default}
use lib.Seq.{get_or-set_other}
use borrow.Author.Tests.{le-ltb, lt-ltb}
use Rattle.rules.specs.Basics.{up_to}
use Rattle.rules.specs.Distance.{far}
use Rattle.rules.proofs.Ground.Choices.{if_yes, if_no}
use Rattle.rules.proofs.Ground.Rows.{length_up_to, get_d_up_to}
use Rattle.rules.proofs.Distance.Rounds.{rank, rank_lt, rank_bound}
use Rattle.routes.specs.Lanes.{lanes, LowRow, unit_row, entry, LowRows}
use Rattle.routes.specs.Passes.{Net, direct, direct_link, direct_links, lower_row, through, pass, passes, settled}
use Rattle.routes.proofs.Lanes.{same?, in_or_out, lane_set, lanes_at, unit_at, unit_own, unit_low, nothing_low, row_here, row_other, low_falls}

-- ---- over one link

pub direct_length : (x y c : ℕ) (d : List (List ℕ)) → length (direct x y c d) ≡ length d
unfolding direct
direct_length x y c d = length-set d x (set (get_or d x []) y (min (entry d x y) c))

direct_here : (x y c : ℕ) (d : List (List ℕ)) → x < length d → entry (direct x y c d) x y ≡ min (entry d x y) c
unfolding direct entry
direct_here x y c d h = row_here d x y (set (get_or d x []) y (min (get_or (get_or d x []) y 0) c)) h ∙ lane_set y c (get_or d x [])

direct_lane : (x y c t : ℕ) (d : List (List ℕ)) → x < length d → (t ≡ y → ⊥) → entry (direct x y c d) x t ≡ entry d x t
unfolding direct entry
direct_lane x y c t d h ne = row_here d x t (set (get_or d x []) y (min (get_or (get_or d x []) y 0) c)) h ∙ get_or-set_other (get_or d x []) y t (min (get_or (get_or d x []) y 0) c) 0 ne

direct_row : (x y c u t : ℕ) (d : List (List ℕ)) → (u ≡ x → ⊥) → entry (direct x y c d) u t ≡ entry d u t
unfolding direct
direct_row x y c u t d ne = row_other d x u t (set (get_or d x []) y (min (entry d x y) c)) ne

-- an entry stays, or it is the one that falls
direct_at : (x y c u t : ℕ) (d : List (List ℕ)) → x < length d
    → (entry (direct x y c d) u t ≡ entry d u t) ⊎ ((u ≡ x) × (t ≡ y) × (entry (direct x y c d) u t ≡ min (entry d u t) c))
direct_at x y c u t d h =
    ⊎_elim
    (λ (e : u ≡ x).
    ⊎_elim (λ (f : t ≡ y). inr (e, f, rw (e, f) (direct_here x y c d h)))
    (λ (ne : t ≡ y → ⊥). inl (rw e (direct_lane x y c t d h ne)))
    (same? t y))
    (λ (ne : u ≡ x → ⊥). inl (direct_row x y c u t d ne))
    (same? u x)

pub direct_le : (x y c u t : ℕ) (d : List (List ℕ)) → x < length d → entry (direct x y c d) u t ≤ entry d u t
direct_le x y c u t d h =
    ⊎_elim (λ (e : entry (direct x y c d) u t ≡ entry d u t). omega arith)
    (λ (e : (u ≡ x) × (t ≡ y) × (entry (direct x y c d) u t ≡ min (entry d u t) c)). omega (arith, e.2))
    (direct_at x y c u t d h)

-- ---- through a node

pub lower_length : (x y c : ℕ) (d : List (List ℕ)) → length (lower_row x y c d) ≡ length d
unfolding lower_row
lower_length x y c d = length-set d x (lanes c (get_or d y []) 32 (get_or d x []))

lower_here : (x y c t : ℕ) (d : List (List ℕ)) → x < length d → t < 32 → entry (lower_row x y c d) x t ≡ min (entry d x t) (c + entry d y t)
unfolding lower_row entry
lower_here x y c t d h g = row_here d x t (lanes c (get_or d y []) 32 (get_or d x [])) h ∙ lanes_at c 32 t (get_or d y []) (get_or d x []) g

lower_other : (x y c u t : ℕ) (d : List (List ℕ)) → (u ≡ x → ⊥) → entry (lower_row x y c d) u t ≡ entry d u t
unfolding lower_row
lower_other x y c u t d ne = row_other d x u t (lanes c (get_or d y []) 32 (get_or d x [])) ne

pub through_far : (v u : ℕ) (d : List (List ℕ)) → far ≤ entry d u v → through v u d ≡ d
unfolding through
through_far v u d h = if_no (ltb (entry d u v) far) (lower_row u v (entry d u v) d) d (le-ltb (entry d u v) far h)

pub through_near : (v u : ℕ) (d : List (List ℕ)) → entry d u v < far → through v u d ≡ lower_row u v (entry d u v) d
unfolding through
through_near v u d h = if_yes (ltb (entry d u v) far) (lower_row u v (entry d u v) d) d (lt-ltb (entry d u v) far h)

pub through_length : (v u : ℕ) (d : List (List ℕ)) → length (through v u d) ≡ length d
through_length v u d =
    ⊎_elim (λ (h : entry d u v < far). ap length (through_near v u d h) ∙ lower_length u v (entry d u v) d)
    (λ (h : far ≤ entry d u v). ap length (through_far v u d h))
    (in_or_out (entry d u v) far)

entry_low : (d : List (List ℕ)) → LowRows d → (u t : ℕ) → t < 32 → entry d u t ≤ far
unfolding entry
entry_low d L u t h = (L.low u).low t h

through_here : (v u t : ℕ) (d : List (List ℕ)) → LowRows d → u < length d → t < 32 → entry (through v u d) u t ≡ min (entry d u t) (entry d u v + entry d v t)
through_here v u t d L h g =
    ⊎_elim (λ (near : entry d u v < far). ap (λ (e : List (List ℕ)). entry e u t) (through_near v u d near) ∙ lower_here u v (entry d u v) t d h g)
    (λ (out : far ≤ entry d u v). let low = entry_low d L u t g in ap (λ (e : List (List ℕ)). entry e u t) (through_far v u d out) ∙ omega arith)
    (in_or_out (entry d u v) far)

through_other : (v u w t : ℕ) (d : List (List ℕ)) → (w ≡ u → ⊥) → entry (through v u d) w t ≡ entry d w t
through_other v u w t d ne =
    ⊎_elim (λ (h : entry d u v < far). ap (λ (e : List (List ℕ)). entry e w t) (through_near v u d h) ∙ lower_other u v (entry d u v) w t d ne)
    (λ (h : far ≤ entry d u v). ap (λ (e : List (List ℕ)). entry e w t) (through_far v u d h))
    (in_or_out (entry d u v) far)

pub through_low : (v u : ℕ) (d : List (List ℕ)) → LowRows d → u < length d → LowRows (through v u d)
through_low v u d L h =
    low_falls d (through v u d) L
    (λ w t g.
    ⊎_elim (λ (e : w ≡ u). rw e (omega (arith, through_here v u t d L h g))) (λ (ne : w ≡ u → ⊥). omega (arith, through_other v u w t d ne)) (same? w u))

-- ---- the beginning

pub units_low : (n : ℕ) → n ≤ 32 → LowRows (up_to unit_row n)
units_low n few = record { low = λ u. ⊎_elim (λ (h : u < n). rw (get_d_up_to unit_row n u [] h) (unit_low u (omega arith))) (λ (h : n ≤ u). outside u h) (in_or_out u n) }
  where
    outside : (u : ℕ) → n ≤ u → LowRow (get_or (up_to unit_row n) u [])
    outside u h =
        let past : length (up_to unit_row n) ≤ u = omega (arith, length_up_to unit_row n) in
        rw (get_or-eq_default (up_to unit_row n) [] past) nothing_low

-- ---- a pass

-- the rows below j are what they were or the sum through v, the others are as they came
pub record Passed (d : List (List ℕ)) (v j : ℕ) (e : List (List ℕ)) : Type 0 where
  pub long : length e ≡ length d
  pub low : LowRows e
  pub done : (u t : ℕ) → u < j → t < 32 → entry e u t ≡ min (entry d u t) (entry d u v + entry d v t)
  pub rest : (u t : ℕ) → j ≤ u → entry e u t ≡ entry d u t

module _ (d : List (List ℕ)) (v : ℕ) (L : LowRows d) (v_in : v < 32) (own : entry d v v ≡ 0) where
  -- row v itself stays
  still : (j : ℕ) (e : List (List ℕ)) → Passed d v j e → (t : ℕ) → t < 32 → entry e v t ≡ entry d v t
  still j e P t h =
      ⊎_elim (λ (g : v < j). P.done v t g h ∙ omega arith) (λ (g : j ≤ v). P.rest v t g) (in_or_out v j)

  passed_more : (j : ℕ) (e : List (List ℕ)) → j < length d → Passed d v j e → Passed d v (suc j) (through v j e)
  passed_more j e h P =
      let in_e : j < length e = omega (arith, P.long) in
      record {
        long = through_length v j e ∙ P.long;
        low = through_low v j e P.low in_e;
        done = λ u t g s.
            ⊎_elim
            (λ (q : u ≡ j).
            rw q
            (through_here v j t e P.low in_e s ∙ rw (P.rest j t (le_refl j), P.rest j v (le_refl j), still j e P t s)))
            (λ (p : u < j). through_other v j u t e (λ q. omega arith) ∙ P.done u t p s)
            (eq-or-lt_of_le (le_of_suc-le-suc g));
        rest = λ u t g. through_other v j u t e (λ q. omega arith) ∙ P.rest u t (omega arith);
      }

  pub passed : (j : ℕ) → j ≤ length d → Passed d v j (pass v j d)
  unfolding pass
  passed zero h = record { long = refl; low = L; done = λ u t g s. absurd (omega arith); rest = λ u t g. refl }
  passed (suc j) h = passed_more j (pass v j d) h (passed j (omega arith))

-- ---- the distances

-- link l leads from u to w
abbrev pub Leads : Net → ℕ → ℕ → ℕ → Type 0
Leads G l u w = ((G.a l ≡ u) × (G.b l ≡ w)) ⊎ ((G.a l ≡ w) × (G.b l ≡ u))

-- the first link of a path that is as long as D says
pub record Tight (G : Net) (n : ℕ) (D : ℕ → ℕ) (u : ℕ) : Type 0 where
  pub link : ℕ
  pub next : ℕ
  pub inside : link < G.links
  pub node : next < n
  pub leads : Leads G link u next
  pub exact : D u ≡ G.cost link + D next
  pub nearer : D next < D u

-- what is asked of D so that it is the distances toward t
pub record Exact (G : Net) (n t : ℕ) (D : ℕ → ℕ) : Type 0 where
  pub target : D t ≡ 0
  pub low : (u : ℕ) → u < n → D u ≤ far
  pub over : (l u w : ℕ) → l < G.links → Leads G l u w → D u ≤ G.cost l + D w
  pub tight : (u : ℕ) → u < n → (u ≡ t → ⊥) → Tight G n D u

-- links between nodes
pub record Inside (G : Net) (n : ℕ) : Type 0 where
  pub few : n ≤ 32
  pub a_in : (l : ℕ) → l < G.links → G.a l < n
  pub b_in : (l : ℕ) → l < G.links → G.b l < n

module _ (G : Net) (n : ℕ) (I : Inside G n) (D : ℕ → ℕ → ℕ) (E : (t : ℕ) → t < n → Exact G n t (λ u. D u t)) where
  -- along the shortest path from u to t, which has fewer nearer nodes at every step
  along : (t : ℕ) → t < n → (P : ℕ → Type 0) → P t → ((u : ℕ) → u < n → (T : Tight G n (λ x. D x t) u) → P T.next → P u) → (j u : ℕ) → u < n → rank (λ x. D x t) n u ≤ j → P u
  along t lt P here more zero u lu h =
      ⊎_elim (λ (e : u ≡ t). subst P (sym e) here)
      (λ (ne : u ≡ t → ⊥). let T = (E t lt).tight u lu ne in absurd (omega (arith, rank_lt (λ x. D x t) n u T.next T.node T.nearer)))
      (same? u t)
  along t lt P here more (suc j) u lu h =
      ⊎_elim (λ (e : u ≡ t). subst P (sym e) here)
      (λ (ne : u ≡ t → ⊥).
      let T = (E t lt).tight u lu ne in
      more u lu T (along t lt P here more j T.next T.node (omega (arith, rank_lt (λ x. D x t) n u T.next T.node T.nearer))))
      (same? u t)

  -- a way through v is no shorter
  triangle : (u v t : ℕ) → u < n → v < n → t < n → D u t ≤ D u v + D v t
  triangle u v t lu lv lt =
      along v lv (λ x. D x t ≤ D x v + D v t) (omega (arith, (E v lv).target))
      (λ x lx T h. omega (arith, (E t lt).over T.link x T.next T.inside T.leads, T.exact))
      n u lu (omega (arith, rank_bound (λ x. D x v) n u lu))

  -- after the passes of the nodes below k: no entry is below the distance, and no link to such a node would lower one
  pub record Between (k : ℕ) (d : List (List ℕ)) : Type 0 where
    pub long : length d ≡ n
    pub low : LowRows d
    pub own : (u : ℕ) → u < n → entry d u u ≡ 0
    pub above : (u t : ℕ) → u < n → t < n → D u t ≤ entry d u t
    pub linked : (l u w : ℕ) → l < G.links → Leads G l u w → entry d u w ≤ G.cost l
    pub fixed : (l u w t : ℕ) → l < G.links → Leads G l u w → w < k → t < n → entry d u t ≤ G.cost l + entry d w t

  ends : (l u w : ℕ) → l < G.links → Leads G l u w → (u < n) × (w < n)
  ends l u w h (inl e) = (omega (arith, e.0, I.a_in l h), omega (arith, e.1, I.b_in l h))
  ends l u w h (inr e) = (omega (arith, e.1, I.b_in l h), omega (arith, e.0, I.a_in l h))

  pass_between : (k : ℕ) (d : List (List ℕ)) → k < n → Between k d → Between (suc k) (pass k n d)
  pass_between k d h B =
      let few = I.few in
      let P : Passed d k n (pass k n d) = passed d k B.low (omega arith) (B.own k h) n (omega (arith, B.long)) in
      record {
        long = P.long ∙ B.long;
        low = P.low;
        own = λ u lu. P.done u u lu (omega arith) ∙ omega (arith, B.own u lu);
        above = λ u t lu lt. omega (arith, P.done u t lu (omega arith), B.above u t lu lt, B.above u k lu h, B.above k t h lt, triangle u k t lu h lt);
        linked = λ l u w hl s. let q = ends l u w hl s in omega (arith, P.done u w q.0 (omega (arith, q.1)), B.linked l u w hl s);
        fixed = λ l u w t hl s g lt.
            let q = ends l u w hl s in
            let one = P.done u t q.0 (omega arith) in
            let two = P.done w t q.1 (omega arith) in
            ⊎_elim
            (λ (e : w ≡ k).
            omega (arith, B.linked l u w hl s, B.own k h, ap (λ (x : ℕ). entry d x t) e, ap (λ (x : ℕ). entry d x k) e, ap (λ (x : ℕ). entry d u x) e))
            (λ (p : w < k). omega (arith, B.fixed l u w t hl s p lt, B.fixed l u w k hl s p h))
            (eq-or-lt_of_le (le_of_suc-le-suc g));
      }

  passes_between : (k : ℕ) (d : List (List ℕ)) → k ≤ n → Between 0 d → Between k (passes n k d)
  unfolding passes
  passes_between zero d h B = B
  passes_between (suc k) d h B = pass_between k (passes n k d) h (passes_between k d (omega arith) B)

  -- ---- the links

  -- the same while the links below k have been taken in
  record Begun (k : ℕ) (d : List (List ℕ)) : Type 0 where
    long : length d ≡ n
    low : LowRows d
    own : (u : ℕ) → u < n → entry d u u ≡ 0
    above : (u t : ℕ) → u < n → t < n → D u t ≤ entry d u t
    linked : (l u w : ℕ) → l < k → Leads G l u w → entry d u w ≤ G.cost l

  units : Begun 0 (up_to unit_row n)
  unfolding entry
  units =
      let few = I.few in
      record {
        long = length_up_to unit_row n;
        low = units_low n few;
        own = λ u lu. rw (get_d_up_to unit_row n u [] lu) (unit_own u (omega arith));
        above = λ u t lu lt. rw (get_d_up_to unit_row n u [] lu) (above_0 u t lu lt (unit_at u t (omega arith) (omega arith)));
        linked = λ l u w h. absurd (omega arith);
      }
    where
      above_0 : (u t : ℕ) → u < n → t < n → ((u ≡ t) × (get_or (unit_row u) t 0 ≡ 0)) ⊎ (get_or (unit_row u) t 0 ≡ far) → D u t ≤ get_or (unit_row u) t 0
      above_0 u t lu lt (inl e) = let q = (E t lt).target in omega (arith, ap (λ (x : ℕ). D x t) e.0, e.1)
      above_0 u t lu lt (inr e) = omega (arith, (E t lt).low u lu)

  direct_begun : (k x y : ℕ) (d : List (List ℕ)) → k < G.links → Leads G k x y → Begun k d → Begun k (direct x y (G.cost k) d)
  direct_begun k x y d h s B =
      let q = ends k x y h s in
      let x_in : x < length d = omega (arith, q.0, B.long) in
      let c = G.cost k in
      record {
        long = direct_length x y c d ∙ B.long;
        low = low_falls d (direct x y c d) B.low (λ u t g. direct_le x y c u t d x_in);
        own = λ u lu. omega (arith, direct_le x y c u u d x_in, B.own u lu);
        above = λ u t lu lt.
            ⊎_elim (λ (e : entry (direct x y c d) u t ≡ entry d u t). omega (arith, B.above u t lu lt))
            (λ (e : (u ≡ x) × (t ≡ y) × (entry (direct x y c d) u t ≡ min (entry d u t) c)).
            let over = (E t lt).over k u t h (rw (e.0, e.1) s) in omega (arith, e.2, B.above u t lu lt, (E t lt).target))
            (direct_at x y c u t d x_in);
        linked = λ l u w g r. omega (arith, direct_le x y c u w d x_in, B.linked l u w g r);
      }

  link_begun : (k : ℕ) (d : List (List ℕ)) → k < G.links → Begun k d → Begun (suc k) (direct_link G k d)
  unfolding direct_link
  link_begun k d h B =
      let x = G.a k in
      let y = G.b k in
      let c = G.cost k in
      let one : Begun k (direct x y c d) = direct_begun k x y d h (inl (refl, refl)) B in
      let two : Begun k (direct y x c (direct x y c d)) = direct_begun k y x (direct x y c d) h (inr (refl, refl)) one in
      let x_in : x < length d = omega (arith, I.a_in k h, B.long) in
      let y_in : y < length (direct x y c d) = omega (arith, I.b_in k h, one.long) in
      let forth = direct_here x y c d x_in in
      let back = direct_here y x c (direct x y c d) y_in in
      let kept = direct_le y x c x y (direct x y c d) y_in in
      record {
        long = two.long;
        low = two.low;
        own = two.own;
        above = two.above;
        linked = λ l u w g s.
            ⊎_elim
            (λ (e : l ≡ k).
            ⊎_elim
            (λ (f : (G.a l ≡ u) × (G.b l ≡ w)). rw (← f.0, ← f.1, e) (omega arith))
            (λ (f : (G.a l ≡ w) × (G.b l ≡ u)). rw (← f.0, ← f.1, e) (omega arith))
            s)
            (λ (p : l < k). two.linked l u w p s)
            (eq-or-lt_of_le (le_of_suc-le-suc g));
      }

  links_begun : (k : ℕ) → k ≤ G.links → Begun k (direct_links G k (up_to unit_row n))
  unfolding direct_links
  links_begun zero h = units
  links_begun (suc k) h = link_begun k (direct_links G k (up_to unit_row n)) h (links_begun k (omega arith))

  begun_between : (d : List (List ℕ)) → Begun G.links d → Between 0 d
  begun_between d B =
      record { long = B.long; low = B.low; own = B.own; above = B.above; linked = B.linked; fixed = λ l u w t h s g. absurd (omega arith) }

  pub settled_between : Between n (settled G n)
  unfolding settled
  settled_between =
      passes_between n (direct_links G G.links (up_to unit_row n)) (le_refl n) (begun_between (direct_links G G.links (up_to unit_row n)) (links_begun G.links (le_refl G.links)))

  -- the passes through all nodes leave D
  pub settled_reach : (u t : ℕ) → u < n → t < n → entry (settled G n) u t ≡ D u t
  settled_reach u t lu lt =
      let B = settled_between in
      le_antisymm
      (along t lt (λ x. entry (settled G n) x t ≤ D x t) (omega (arith, B.own t lt))
      (λ x lx T h. omega (arith, B.fixed T.link x T.next t T.inside T.leads T.node lt, T.exact))
      n u lu (omega (arith, rank_bound (λ x. D x t) n u lu)))
      (B.above u t lu lt)
