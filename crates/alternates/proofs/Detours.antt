-- The alternates by flags and words are the published ones, for the distances of an accepted set.
use Rattle.std.specs.Prelude.{if◌then◌else◌}
use Prim.Native.Nat.{ℕ, zero, suc, ◌≤◌, ◌<◌, min}
use native.Mathlib.Nat.{eq-or-lt_of_le, le_of_suc-le-suc}
use native.Mathlib.Omega.{arith}
use mathlib.Core.Path.{◌≡◌, refl, sym, ap, ap₂, ◌∙◌}
use mathlib.Core.Bool.{Bool, true, false, not, ◌&&◌, ◌||◌, false≢true}
use mathlib.Core.Logic.{◌⊎◌, inl, inr, ⊎_elim}
use mathlib.Core.List.{List}
use lib.Dec.{eqb}
use lib.ListN.{length, get_or, replicate, length-set, length-replicate, get_or-replicate, get_or-eq_default}
use lib.Seq.{get_or-set_same, get_or-set_other}
use borrow.Author.Tests.{eqb-true, eqb-false, eq-eqb, ne_eqb, not-true}
use Rattle.rules.specs.Basics.{lowest, least}
use Rattle.rules.specs.File.{Set}
use Rattle.rules.specs.Isolation.{link_between, neighbours, home, isolated}
use Rattle.rules.specs.Distance.{far, distances, distance, candidate, nearest, alternate}
use Rattle.rules.specs.Sets.{AcceptedSet}
use Rattle.rules.proofs.Ground.Choices.{and_of, and_left, and_right, or_left, or_right, or_cases, clash, same_test, if_yes, if_no}
use Rattle.rules.proofs.Ground.Numbers.{lowest_ext, lowest_found, lowest_is, least_ext}
use Rattle.rules.proofs.Isolation.Links.{Ends, link_below, link_ends, ends_neighbours, neighbours_below}
use Rattle.rules.proofs.Isolation.Homes.{home_isolated, away, Outlet, home_low}
use Rattle.rules.proofs.Distance.NextHops.{candidate_outlet, outlet_candidate, nearest_alternates}
use Rattle.routes.specs.Lanes.{column}
use Rattle.routes.specs.Costs.{Distances}
use Rattle.routes.proofs.Lanes.{same?}
use Rattle.routes.proofs.Exact.{distance_entry}
use Rattle.words.specs.Word.{lowest_in}
use Rattle.alternates.specs.Alternates.{noted, noted_link, outlets_by, eligible, least_of, near_bit, near_word, alternate_by, alternate_of}
use Rattle.nexthops.proofs.Lowest.{first_or, first_pick, first_zero}
use Rattle.nexthops.proofs.NextHops.{split}

past : (z : ℕ) → 32 ≤ z → get_or (replicate 32 false) z false ≡ false
past z h = get_or-eq_default (replicate 32 false) false {n = z} (omega (arith, length-replicate 32 false))

-- ---- the lowest of a word

-- one number more
lowest_more : (p : ℕ → Bool) (k : ℕ) → k < 32 → lowest p (suc k) 32 ≡ min (lowest p k 32) (if p k then k else 32)
unfolding lowest
lowest_more p k h = go (p k) refl (lowest_is p k 32) (lowest_is p k k)
  where
    go : (b : Bool) → p k ≡ b → (lowest p k 32 ≡ 32) ⊎ ((lowest p k 32 < k) × (p (lowest p k 32) ≡ true)) → (lowest p k k ≡ k) ⊎ ((lowest p k k < k) × (p (lowest p k k) ≡ true))
        → lowest p k (if p k then k else 32) ≡ min (lowest p k 32) (if p k then k else 32)
    go false e (inl q) r = rw (if_no (p k) k 32 e) (omega (arith, q))
    go false e (inr q) r = rw (if_no (p k) k 32 e) (omega (arith, q.0))
    go true e (inl q) (inl r) = rw (if_yes (p k) k 32 e) (omega (arith, q, r))
    go true e (inl q) (inr r) = absurd (omega (arith, q, r.0, (lowest_found p k 32 (lowest p k k) r.0 r.1).0))
    go true e (inr q) (inl r) = absurd (omega (arith, r, q.0, (lowest_found p k k (lowest p k 32) q.0 q.1).0))
    go true e (inr q) (inr r) =
        rw (if_yes (p k) k 32 e)
        (omega (arith, q.0, r.0, (lowest_found p k 32 (lowest p k k) r.0 r.1).0, (lowest_found p k k (lowest p k 32) q.0 q.1).0))

-- where a number passes, it does not matter what stands for none
lowest_either : (p : ℕ → Bool) (n x y z : ℕ) → z < n → p z ≡ true → lowest p n x ≡ lowest p n y
lowest_either p n x y z h e =
    let f = lowest_found p n x z h e in
    let g = lowest_found p n y z h e in
    let ff = lowest_found p n x (lowest p n y) (omega (arith, g.0)) g.1 in
    let gg = lowest_found p n y (lowest p n x) (omega (arith, f.0)) f.1 in
    omega (arith, ff.0, gg.0)

module _ (near : List Bool) (d : List (List ℕ)) (v best : ℕ) where
  chosen : ℕ → Bool
  chosen w = eligible near v w && eqb (get_or (column v d) w 0) best

  word_first : (k : ℕ) → k ≤ 32 → lowest_in (near_word near d v best k) ≡ lowest chosen k 32
  unfolding near_word near_bit chosen
  word_first zero h = first_zero ∙ (unfold lowest in refl)
  word_first (suc k) h =
      first_or (near_word near d v best k) (near_bit (eligible near v k) (get_or (column v d) k 0) best k)
      ∙ ap₂ min (word_first k (omega arith)) (first_pick (eligible near v k && eqb (get_or (column v d) k 0) best) k h)
      ∙ sym (lowest_more chosen k h)

-- ---- the flags

noted_length : (u x y : ℕ) (near : List Bool) → length (noted u x y near) ≡ length near
unfolding noted
noted_length u x y near = length-set near y (get_or near y false || eqb x u)

noted_other : (u x y w : ℕ) (near : List Bool) → (w ≡ y → ⊥) → get_or (noted u x y near) w false ≡ get_or near w false
unfolding noted
noted_other u x y w near ne = get_or-set_other near y w (get_or near y false || eqb x u) false ne

noted_here : (u x y : ℕ) (near : List Bool) → y < length near → get_or (noted u x y near) y false ≡ (get_or near y false || eqb x u)
unfolding noted
noted_here u x y near h = get_or-set_same near y (get_or near y false || eqb x u) false h

noted_sound : (u x y w : ℕ) (near : List Bool) → y < length near → get_or (noted u x y near) w false ≡ true → (get_or near w false ≡ true) ⊎ ((x ≡ u) × (y ≡ w))
noted_sound u x y w near h e =
    ⊎_elim
    (λ (q : w ≡ y).
    ⊎_elim (λ (r : get_or near y false ≡ true). inl (rw q r)) (λ (r : eqb x u ≡ true). inr (eqb-true x u r, sym q))
    (or_cases (get_or near y false) (eqb x u) (sym (noted_here u x y near h) ∙ (rw q at e))))
    (λ (ne : w ≡ y → ⊥). inl (sym (noted_other u x y w near ne) ∙ e))
    (same? w y)

noted_keeps : (u x y w : ℕ) (near : List Bool) → y < length near → get_or near w false ≡ true → get_or (noted u x y near) w false ≡ true
noted_keeps u x y w near h e =
    ⊎_elim (λ (q : w ≡ y). rw q (noted_here u x y near h ∙ or_left (get_or near y false) (eqb x u) (rw q at e)))
    (λ (ne : w ≡ y → ⊥). noted_other u x y w near ne ∙ e)
    (same? w y)

noted_new : (u x y : ℕ) (near : List Bool) → y < length near → x ≡ u → get_or (noted u x y near) y false ≡ true
noted_new u x y near h e = noted_here u x y near h ∙ or_right (get_or near y false) (eqb x u) (eq-eqb x u e)

module _ (S : Set) (A : AcceptedSet S) (u : ℕ) (lu : u < S.net.n) where
  abbrev flags : ℕ → List Bool
  flags k = outlets_by S.a S.b S.homes u k

  x : ℕ → ℕ
  x l = get_or S.a l 0

  y : ℕ → ℕ
  y l = get_or S.b l 0

  abbrev Same : ℕ → Type 0
  Same l = home S (x l) ≡ home S (y l)

  abbrev Apart : ℕ → Type 0
  Apart l = Same l → ⊥

  ends_few : (l : ℕ) → l < S.net.m → (x l < 32) × (y l < 32)
  unfolding x y
  ends_few l h =
      let e = A.rules.ends l h in
      let few = A.rules.limits.nodes.1 in
      (omega (arith, e.0, e.1), omega (arith, e.1))

  flags_same : (k : ℕ) → home S (x k) ≡ home S (y k) → flags (suc k) ≡ flags k
  unfolding outlets_by noted_link home x y
  flags_same k e = if_yes (eqb (home S (x k)) (home S (y k))) (flags k) (noted u (y k) (x k) (noted u (x k) (y k) (flags k))) (eq-eqb (home S (x k)) (home S (y k)) e)

  flags_apart : (k : ℕ) → Apart k → flags (suc k) ≡ noted u (y k) (x k) (noted u (x k) (y k) (flags k))
  unfolding outlets_by noted_link home x y
  flags_apart k ne = if_no (eqb (home S (x k)) (home S (y k))) (flags k) (noted u (y k) (x k) (noted u (x k) (y k) (flags k))) (ne_eqb (home S (x k)) (home S (y k)) ne)

  flags_length : (k : ℕ) → length (flags k) ≡ 32
  unfolding outlets_by
  flags_length zero = length-replicate 32 false
  flags_length (suc k) =
      ⊎_elim (λ (e : home S (x k) ≡ home S (y k)). ap length (flags_same k e) ∙ flags_length k)
      (λ (ne : Apart k). ap length (flags_apart k ne) ∙ noted_length u (y k) (x k) (noted u (x k) (y k) (flags k)) ∙ noted_length u (x k) (y k) (flags k) ∙ flags_length k)
      (same? (home S (x k)) (home S (y k)))

  -- some link below k joins u and w, whose homes differ
  record Seen (k w : ℕ) : Type 0 where
    link : ℕ
    inside : link < k
    ends : Ends S link u w
    apart : Apart link

  once_more : (k w : ℕ) → Seen k w → Seen (suc k) w
  once_more k w s = record { link = s.link; inside = omega (arith, s.inside); ends = s.ends; apart = s.apart }

  flags_sound : (k w : ℕ) → k ≤ S.net.m → get_or (flags k) w false ≡ true → Seen k w
  unfolding outlets_by x y
  flags_sound zero w h e = absurd (none w e)
    where
      none : (z : ℕ) → get_or (replicate 32 false) z false ≡ true → ⊥
      none z q = ⊎_elim (λ (g : 32 ≤ z). false≢true (sym (past z g) ∙ q)) (λ (g : z < 32). false≢true (sym (get_or-replicate 32 z false false g) ∙ q)) (split 32 z)
  flags_sound (suc k) w h e =
      ⊎_elim (λ (q : home S (x k) ≡ home S (y k)). once_more k w (flags_sound k w (omega arith) (sym (ap (λ (f : List Bool). get_or f w false) (flags_same k q)) ∙ e)))
      (λ (ne : Apart k).
      let one = noted u (x k) (y k) (flags k) in
      let few = ends_few k h in
      ⊎_elim
      (λ (f : get_or one w false ≡ true).
      ⊎_elim (λ (g : get_or (flags k) w false ≡ true). once_more k w (flags_sound k w (omega arith) g))
      (λ (g : (x k ≡ u) × (y k ≡ w)). record { link = k; inside = omega arith; ends = inl g; apart = ne })
      (noted_sound u (x k) (y k) w (flags k) (omega (arith, flags_length k, few.1)) f))
      (λ (f : (y k ≡ u) × (x k ≡ w)). record { link = k; inside = omega arith; ends = inr (f.1, f.0); apart = ne })
      (noted_sound u (y k) (x k) w one (omega (arith, noted_length u (x k) (y k) (flags k), flags_length k, few.0))
      (sym (ap (λ (f : List Bool). get_or f w false) (flags_apart k ne)) ∙ e)))
      (same? (home S (x k)) (home S (y k)))

  flags_complete : (k w : ℕ) → k ≤ S.net.m → Seen k w → get_or (flags k) w false ≡ true
  unfolding x y
  flags_complete zero w h s = absurd (omega (arith, s.inside))
  flags_complete (suc k) w h s =
      ⊎_elim
      (λ (e : s.link ≡ k).
      let ne : Apart k = rw e at s.apart in
      let one = noted u (x k) (y k) (flags k) in
      let few = ends_few k h in
      let long : x k < length one = omega (arith, noted_length u (x k) (y k) (flags k), flags_length k, few.0) in
      let ends : Ends S k u w = rw e at s.ends in
      ap (λ (f : List Bool). get_or f w false) (flags_apart k ne)
      ∙ ⊎_elim
      (λ (g : (x k ≡ u) × (y k ≡ w)).
      noted_keeps u (y k) (x k) w one long (rw (← g.1) (noted_new u (x k) (y k) (flags k) (omega (arith, flags_length k, few.1)) g.0)))
      (λ (g : (x k ≡ w) × (y k ≡ u)). rw (← g.0) (noted_new u (y k) (x k) one long g.1))
      ends)
      (λ (p : s.link < k).
      let before = flags_complete k w (omega arith) (record { link = s.link; inside = p; ends = s.ends; apart = s.apart }) in
      ⊎_elim (λ (q : home S (x k) ≡ home S (y k)). ap (λ (f : List Bool). get_or f w false) (flags_same k q) ∙ before)
      (λ (ne : Apart k).
      let one = noted u (x k) (y k) (flags k) in
      let few = ends_few k h in
      ap (λ (f : List Bool). get_or f w false) (flags_apart k ne)
      ∙ noted_keeps u (y k) (x k) w one (omega (arith, noted_length u (x k) (y k) (flags k), flags_length k, few.0))
      (noted_keeps u (x k) (y k) w (flags k) (omega (arith, flags_length k, few.1)) before))
      (same? (home S (x k)) (home S (y k))))
      (eq-or-lt_of_le (le_of_suc-le-suc s.inside))

  -- ---- flagged are the neighbours over a restricted link

  near : List Bool
  near = flags (length S.a)

  links : length S.a ≡ S.net.m
  links = A.rules.links_long.0

  near_outlet : (w : ℕ) → get_or near w false ≡ true → Outlet S (home S u) u w
  unfolding near x y
  near_outlet w e =
      let s = flags_sound (length S.a) w (omega (arith, links)) e in
      let n = ends_neighbours S s.link u w (omega (arith, s.inside, links)) s.ends in
      let other : home S w ≡ home S u → ⊥ =
      ⊎_elim (λ (q : (get_or S.a s.link 0 ≡ u) × (get_or S.b s.link 0 ≡ w)). λ (z : home S w ≡ home S u). s.apart (ap (home S) q.0 ∙ sym z ∙ sym (ap (home S) q.1)))
      (λ (q : (get_or S.a s.link 0 ≡ w) × (get_or S.b s.link 0 ≡ u)). λ (z : home S w ≡ home S u). s.apart (ap (home S) q.0 ∙ z ∙ sym (ap (home S) q.1)))
      s.ends in
      record { joined = n; node = (neighbours_below S A.rules u w n).1; free = away S (home S u) w other }

  outlet_near : (w : ℕ) → neighbours S u w ≡ true → (home S u ≡ home S w → ⊥) → get_or near w false ≡ true
  unfolding near x y
  outlet_near w n ne =
      let l = link_between S u w in
      let e = link_ends S u w n in
      let apart : Apart l =
      ⊎_elim (λ (q : (get_or S.a l 0 ≡ u) × (get_or S.b l 0 ≡ w)). λ (z : Same l). ne (sym (ap (home S) q.0) ∙ z ∙ ap (home S) q.1))
      (λ (q : (get_or S.a l 0 ≡ w) × (get_or S.b l 0 ≡ u)). λ (z : Same l). ne (sym (ap (home S) q.1) ∙ sym z ∙ ap (home S) q.0))
      e in
      flags_complete (length S.a) w (omega (arith, links)) (record { link = l; inside = omega (arith, link_below S u w n, links); ends = e; apart = apart })

  outlet_apart : (w : ℕ) → Outlet S (home S u) u w → home S u ≡ home S w → ⊥
  outlet_apart w o e = clash (isolated S (home S u) w) (home_isolated S (home S u) w (home_low S A u lu) (sym e)) o.free

  eligible_is : (v w : ℕ) → eligible near v w ≡ candidate S u v w
  unfolding eligible
  eligible_is v w =
      same_test (eligible near v w) (candidate S u v w)
      (λ e. outlet_candidate S A u lu v w (near_outlet w (and_left (get_or near w false) (not (eqb w v)) e)) (eqb-false w v (not-true (eqb w v) (and_right (get_or near w false) (not (eqb w v)) e))))
      (λ e.
      let q = candidate_outlet S A u lu v w e in
      and_of (get_or near w false) (not (eqb w v)) (outlet_near w q.0.joined (outlet_apart w q.0)) (rw (ne_eqb w v q.1)))

  near_is : (v : ℕ) → get_or near v false ≡ (neighbours S u v && not (eqb (home S u) (home S v)))
  near_is v =
      same_test (get_or near v false) (neighbours S u v && not (eqb (home S u) (home S v)))
      (λ e. let o = near_outlet v e in and_of (neighbours S u v) (not (eqb (home S u) (home S v))) o.joined (rw (ne_eqb (home S u) (home S v) (outlet_apart v o))))
      (λ e.
      outlet_near v (and_left (neighbours S u v) (not (eqb (home S u) (home S v))) e)
      (eqb-false (home S u) (home S v) (not-true (eqb (home S u) (home S v)) (and_right (neighbours S u v) (not (eqb (home S u) (home S v))) e))))

  -- ---- and the nearest of them are taken

  module _ (d : List (List ℕ)) (Q : Distances S (home S u) d) (v : ℕ) (lv : v < S.net.n) where
    D : List ℕ
    D = distances S (home S u) v

    keys : (w : ℕ) → w < S.net.n → get_or (column v d) w 0 ≡ get_or D w far
    unfolding D distance
    keys w lw = distance_entry S (home S u) d Q w v lw lv

    least_is_published : least_of near d v S.net.n ≡ least (candidate S u v) (λ w. get_or D w far) S.net.n far
    unfolding least_of
    least_is_published = least_ext (eligible near v) (candidate S u v) (λ w. get_or (column v d) w 0) (λ w. get_or D w far) S.net.n far (λ w lw. eligible_is v w) keys

    published : ℕ → Bool
    published w = candidate S u v w && eqb (get_or D w far) (least (candidate S u v) (λ x. get_or D x far) S.net.n far)

    nearest_found : neighbours S u v ≡ true → (home S u ≡ home S v → ⊥) → nearest S u v D ≡ lowest_in (near_word near d v (least_of near d v S.net.n) S.net.n)
    unfolding nearest published chosen D alternate
    nearest_found n ne =
        let best = least_of near d v S.net.n in
        let few = A.rules.limits.nodes.1 in
        let same = lowest_ext (chosen near d v best) published S.net.n 32
        (λ w lw. ap₂ ◌&&◌ (eligible_is v w) (ap₂ eqb (keys w lw) least_is_published)) in
        sym (word_first near d v best S.net.n few ∙ same ∙ either (lowest_is published S.net.n 255))
      where
        -- an alternate is a candidate, and 255 is no node
        none : lowest published S.net.n 255 ≡ 255 → 255 < S.net.n
        none q =
            let is : alternate S u v ≡ 255 = if_yes (neighbours S u v && not (eqb (home S u) (home S v))) (nearest S u v (distances S (home S u) v)) 255
            (and_of (neighbours S u v) (not (eqb (home S u) (home S v))) n (rw (ne_eqb (home S u) (home S v) ne))) ∙ q in
            let c : candidate S u v 255 ≡ true = rw is at (nearest_alternates S A u v lu lv n ne).chosen in
            (candidate_outlet S A u lu v 255 c).0.node

        either : (lowest published S.net.n 255 ≡ 255) ⊎ ((lowest published S.net.n 255 < S.net.n) × (published (lowest published S.net.n 255) ≡ true))
            → lowest published S.net.n 32 ≡ lowest published S.net.n 255
        either (inr q) = lowest_either published S.net.n 32 255 (lowest published S.net.n 255) q.0 q.1
        either (inl q) = absurd (omega (arith, none q, A.rules.limits.nodes.1))

    alternate_is : alternate_by near d S.net.n v ≡ alternate S u v
    unfolding alternate_by alternate D
    alternate_is = go (get_or near v false) refl
      where
        go : (b : Bool) → get_or near v false ≡ b → alternate_by near d S.net.n v ≡ alternate S u v
        go true e =
            let o = near_outlet v e in
            if_yes (get_or near v false) (lowest_in (near_word near d v (least_of near d v S.net.n) S.net.n)) 255 e
            ∙ sym (nearest_found o.joined (outlet_apart v o))
            ∙ sym (if_yes (neighbours S u v && not (eqb (home S u) (home S v))) (nearest S u v (distances S (home S u) v)) 255 (sym (near_is v) ∙ e))
        go false e =
            if_no (get_or near v false) (lowest_in (near_word near d v (least_of near d v S.net.n) S.net.n)) 255 e
            ∙ sym (if_no (neighbours S u v && not (eqb (home S u) (home S v))) (nearest S u v (distances S (home S u) v)) 255 (sym (near_is v) ∙ e))

    pub alternate_of_is : alternate_of S.a S.b S.homes d u v ≡ alternate S u v
    unfolding alternate_of near
    alternate_of_is = rw Q.long alternate_is
