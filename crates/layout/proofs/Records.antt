-- A record's fields, read together; fields stored one after the other are the record; home records in turn are all of them.
use mathlib.Core.Path.{◌≡◌, refl, sym, ◌∙◌}
use mathlib.Core.List.{List, [], ◌∷◌, ◌++◌}
use Prim.Native.Nat.{ℕ, ◌+◌, ◌<◌}
use native.Mathlib.Omega.{arith}
use lib.ListN.{get_or}
use Rattle.rules.specs.declared.Network.{Network}
use Rattle.rules.specs.Limits.{link_place, home_place}
use Rattle.rules.specs.File.{bytes2, header_bytes, two, end_a, end_b, link_weight}
use Rattle.slices.specs.Stores.{put}
use Rattle.slices.proofs.Stores.{put_then, Storing, storing_none, storing_done, storing_more}
use Rattle.layout.specs.declared.LinkFields.{LinkFields}
use Rattle.layout.specs.Fields.{LinkAt}
use Rattle.layout.specs.Records.{link_record, home_record, home_of, row_head}

-- ---- fields read

pub fields_there : (s : List ℕ) (l at x y a b w : ℕ) → at ≡ link_place l → x ≡ get_or s at 0 → y ≡ get_or s (at + 1) 0 → a ≡ get_or s (at + 2) 0 → b ≡ get_or s (at + 3) 0 → w ≡ two s (at + 4)
    → LinkAt s l (record { x = x; y = y; a = a; b = b; weight = w })
unfolding end_a end_b link_weight
fields_there s l at x y a b w e ex ey ea eb ew = record { first = ex ∙ rw e; second = ey ∙ rw e; a_is = ea ∙ rw e; b_is = eb ∙ rw e; weight = ew ∙ rw e }

-- two records that the promise allows coincide
pub one_link : (s : List ℕ) (l : ℕ) (r r' : LinkFields) → LinkAt s l r → LinkAt s l r' → r ≡ r'
one_link s l r r' p q =
    same r.x r'.x r.y r'.y r.a r'.a r.b r'.b r.weight r'.weight
    (p.first ∙ sym q.first) (p.second ∙ sym q.second) (p.a_is ∙ sym q.a_is) (p.b_is ∙ sym q.b_is) (p.weight ∙ sym q.weight)
  where
    same : (x x' y y' a a' b b' w w' : ℕ) → x ≡ x' → y ≡ y' → a ≡ a' → b ≡ b' → w ≡ w'
        → ◌≡◌ {A = LinkFields} (record { x = x; y = y; a = a; b = b; weight = w }) (record { x = x'; y = y'; a = a'; b = b'; weight = w' })
    same x x' y y' a a' b b' w w' ex ey ea eb ew = rw (ex, ey, ea, eb, ew)

-- ---- records stored

pub header_put : (d e e' e'' f : List ℕ) (h : Network) → e ≡ put d 0 (0x4E ∷ 0x57 ∷ h.n ∷ []) → e' ≡ put e 3 (bytes2 h.m) → e'' ≡ put e' 5 (h.k ∷ [])
    → f ≡ put e'' 6 (bytes2 h.wmax) → f ≡ put d 0 (header_bytes h)
unfolding header_bytes bytes2
header_put d e e' e'' f h p q r s =
    let one = put_then d e e' 0 3 (0x4E ∷ 0x57 ∷ h.n ∷ []) (bytes2 h.m) p q refl in
    let two = put_then d e' e'' 0 5 (0x4E ∷ 0x57 ∷ h.n ∷ bytes2 h.m) (h.k ∷ []) one r refl in
    put_then d e'' f 0 6 (0x4E ∷ 0x57 ∷ h.n ∷ (bytes2 h.m ++ (h.k ∷ []))) (bytes2 h.wmax) two s refl

pub link_put : (d e e' : List ℕ) (at a b w : ℕ) → e ≡ put d at (0x4C ∷ 0x4B ∷ a ∷ b ∷ []) → e' ≡ put e (at + 4) (bytes2 w) → e' ≡ put d at (link_record a b w)
unfolding link_record
link_put d e e' at a b w p q = put_then d e e' at (at + 4) (0x4C ∷ 0x4B ∷ a ∷ b ∷ []) (bytes2 w) p q refl

pub whole_put : (d e e' : List ℕ) (l at a b w : ℕ) → at ≡ link_place l → e ≡ put d at (0x4C ∷ 0x4B ∷ a ∷ b ∷ []) → e' ≡ put e (at + 4) (bytes2 w)
    → e' ≡ put d (link_place l) (link_record a b w)
whole_put d e e' l at a b w i p q = rw (← i) (link_put d e e' at a b w p q)

pub home_put : (d e : List ℕ) (at v t : ℕ) → e ≡ put d at (0x48 ∷ 0x4D ∷ v ∷ t ∷ []) → e ≡ put d at (home_record v t)
unfolding home_record
home_put d e at v t p = p

pub head_put : (d e : List ℕ) (at t : ℕ) → e ≡ put d at (0x42 ∷ 0x57 ∷ t ∷ []) → e ≡ put d at (row_head t)
unfolding row_head
head_put d e at t p = p

pub homes_more : (h : Network) (homes d e e' : List ℕ) (v n at t : ℕ) → Storing d e (home_place h 0) (home_of homes) v n → v < n → at ≡ home_place h v → t ≡ get_or homes v 0
    → e' ≡ put e at (home_record v t) → Storing d e' (home_place h 0) (home_of homes) (v + 1) n
unfolding home_place home_of home_record
homes_more h homes d e e' v n at t s g p et q =
    storing_more d e e' _ (home_of homes) v n at 4 _ s g (λ i _. refl) (omega arith) (rw et) q

pub ruleset records = (header_put, link_put, whole_put, home_put, head_put, storing_done, homes_more)
