-- A set is written by the entries within its counts, and those are what its bytes hold.
use mathlib.Core.Path.{◌≡◌, refl, ap, ap₂, ◌∙◌}
use mathlib.Core.List.{List, ◌∷◌, ◌++◌}
use Prim.Native.Nat.{ℕ, suc, ◌+◌, ◌*◌, ◌≤◌, ◌<◌}
use native.Mathlib.Nat.{suc-mul, mul-le-mul_right}
use native.Mathlib.Omega.{arith}
use lib.ListN.{length, get_or}
use Rattle.rules.specs.declared.Network.{Network}
use Rattle.rules.specs.Basics.{up_to, flat}
use Rattle.rules.specs.Limits.{row_weights, home_records}
use Rattle.rules.specs.File.{Set, bytes2, header_bytes, link_bytes, home_bytes, row_start, row_bytes, encode, header_of, end_a, end_b, link_weight, home_topology, row_weight, set_of}
use Rattle.rules.specs.Sets.{MeetsRules}
use Rattle.rules.proofs.Ground.Rows.{get_d_up_to, up_to_ext, up_to_get_d, flat_ext, flat_up_to}
use Rattle.rules.proofs.File.Encoded.{header_back, end_a_back, end_b_back, link_weight_back, home_topology_back, row_weight_back}

-- the first n entries of a list, 0 past its end
unfoldable pub front : List ℕ → ℕ → List ℕ
front l n = up_to (λ x. get_or l x 0) n

-- a set with the entries within its counts alone
unfoldable pub within : Set → Set
within S = record {
  net = S.net;
  a = front S.a S.net.m;
  b = front S.b S.net.m;
  weights = front S.weights S.net.m;
  homes = front S.homes (home_records S.net);
  rows = front S.rows (S.net.k * row_weights S.net);
}

pub same_set : (S S' : Set) → S.net ≡ S'.net → S.a ≡ S'.a → S.b ≡ S'.b → S.weights ≡ S'.weights → S.homes ≡ S'.homes → S.rows ≡ S'.rows → S ≡ S'
same_set S S' h a b w v r = λ i. record { net = h i; a = a i; b = b i; weights = w i; homes = v i; rows = r i }

pub front_at : (l : List ℕ) (n x : ℕ) → x < n → get_or (front l n) x 0 ≡ get_or l x 0
unfolding front
front_at l n x h = get_d_up_to (λ y. get_or l y 0) n x 0 h

pub front_all : (l : List ℕ) (n : ℕ) → length l ≡ n → front l n ≡ l
unfolding front
front_all l n e = up_to_get_d l n 0 e

-- entry x of row j stands within the rows
row_inside : (h : Network) (j x : ℕ) → j < h.k → x < row_weights h → row_start h j + x < h.k * row_weights h
unfolding row_start
row_inside h j x p q =
    let b : suc j * row_weights h ≤ h.k * row_weights h = mul-le-mul_right (row_weights h) p in
    omega (arith, suc-mul j (row_weights h))

-- entries past the counts are not written
pub encode_within : (S : Set) → encode (within S) ≡ encode S
unfolding encode within link_bytes home_bytes row_bytes
encode_within S =
    let h : Network = S.net in
    let w : ℕ = row_weights h in
    let link_same : (l : ℕ) → l < h.m → link_bytes (within S) l ≡ link_bytes S l =
    λ l p. cc (front_at S.a h.m l p, front_at S.b h.m l p, front_at S.weights h.m l p)
    in
    let home_same : (v : ℕ) → v < home_records h → home_bytes (within S) v ≡ home_bytes S v = λ v p. cc (front_at S.homes (home_records h) v p) in
    let row_same : (j : ℕ) → j < h.k → row_bytes (within S) j ≡ row_bytes S j =
    λ j p. ap (λ (l : List ℕ). 0x42 ∷ 0x57 ∷ suc j ∷ l)
    (flat_ext (λ x. bytes2 (get_or (front S.rows (h.k * w)) (row_start h j + x) 0)) (λ x. bytes2 (get_or S.rows (row_start h j + x) 0)) w
    (λ x q. ap bytes2 (front_at S.rows (h.k * w) (row_start h j + x) (row_inside h j x p q))))
    in
    ap (λ (l : List ℕ). header_bytes h ++ l)
    (ap₂ ◌++◌ (flat_ext (link_bytes (within S)) (link_bytes S) h.m link_same)
    (ap₂ ◌++◌ (flat_ext (home_bytes (within S)) (home_bytes S) (home_records h) home_same) (flat_ext (row_bytes (within S)) (row_bytes S) h.k row_same)))

-- what a set's bytes hold is the set, within its counts
pub set_of_encode : (S : Set) → set_of (encode S) ≡ within S
unfolding set_of within front row_start
set_of_encode S =
    let s : List ℕ = encode S in
    let h : Network = S.net in
    let w : ℕ = row_weights h in
    let e : header_of s ≡ h = header_back S in
    same_set (set_of s) (within S) e
    (ap (λ (g : Network). up_to (end_a s) g.m) e ∙ up_to_ext (end_a s) (λ l. get_or S.a l 0) h.m (end_a_back S))
    (ap (λ (g : Network). up_to (end_b s) g.m) e ∙ up_to_ext (end_b s) (λ l. get_or S.b l 0) h.m (end_b_back S))
    (ap (λ (g : Network). up_to (link_weight s) g.m) e ∙ up_to_ext (link_weight s) (λ l. get_or S.weights l 0) h.m (link_weight_back S))
    (ap (λ (g : Network). up_to (home_topology s g) (home_records g)) e
    ∙ up_to_ext (home_topology s h) (λ v. get_or S.homes v 0) (home_records h) (home_topology_back S))
    (ap (λ (g : Network). flat (λ j. up_to (row_weight s g j) (row_weights g)) g.k) e
    ∙ flat_ext (λ j. up_to (row_weight s h j) w) (λ j. up_to (λ x. get_or S.rows (j * w + x) 0) w) h.k
    (λ j p. up_to_ext (row_weight s h j) (λ x. get_or S.rows (j * w + x) 0) w (row_weight_back S j p))
    ∙ flat_up_to (λ x. get_or S.rows x 0) w h.k)

-- a set that meets the rules has no other entries
pub within_all : (S : Set) → MeetsRules S → within S ≡ S
unfolding within
within_all S ok =
    same_set (within S) S refl (front_all S.a _ ok.links_long.0) (front_all S.b _ ok.links_long.1) (front_all S.weights _ ok.links_long.2)
    (front_all S.homes _ ok.homes_long) (front_all S.rows _ ok.rows_long)
