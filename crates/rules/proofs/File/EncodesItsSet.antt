-- A file of bytes that meets the rules is the encoding of the set that it holds.
use mathlib.Core.Path.{◌≡◌, refl, sym, ap, ap₂, ◌∙◌}
use mathlib.Core.List.{List, [], ◌∷◌, ◌++◌}
use Prim.Native.Nat.{ℕ, suc, ◌+◌, ◌*◌, ◌/◌, ◌%◌, ◌<◌}
use native.Mathlib.Omega.{arith}
use native.Mathlib.Decide.{dec_lt}
use lib.ListN.{length, get_or, get_or-eq_default}
use Rattle.rules.specs.declared.Network.{Network}
use Rattle.rules.specs.Basics.{up_to, flat}
use Rattle.rules.specs.Limits.{row_weights, row_length, home_records, link_place, home_place, row_place, file_length}
use Rattle.rules.specs.File.{Set, bytes2, header_bytes, link_bytes, home_bytes, row_start, row_bytes, encode, two, header_of, end_a, end_b, link_weight, home_node, home_topology, row_topology, row_weight, set_of}
use Rattle.rules.specs.Isolation.{home}
use Rattle.rules.specs.Sets.{Bytes}
use Rattle.rules.proofs.Ground.Rows.{up_to_get_d, up_to_add, flat_ext, flat_up_to}
use Rattle.rules.proofs.File.SetOfBytes.{a_held, b_held, weight_held, home_held, row_held}
use Rattle.rules.proofs.File.Records.{FileMeets}

small_step : (s : List ℕ) → Bytes s → (i : ℕ) → Dec (i < length s) → get_or s i 0 < 256
small_step s small i (yes p) = small i p
small_step s small i (no p) = omega (arith, get_or-eq_default s 0 {n = i} (omega arith))

-- a byte is below 256, and so is the 0 past the end
byte_small : (s : List ℕ) → Bytes s → (i : ℕ) → get_or s i 0 < 256
byte_small s small i = small_step s small i (dec_lt i (length s))

-- two bytes as one number, and back
two_back : (x y : ℕ) → y < 256 → bytes2 (256 * x + y) ≡ x ∷ y ∷ []
unfolding bytes2
two_back x y h =
    let p : (256 * x + y) / 256 ≡ x = omega arith in
    let q : (256 * x + y) % 256 ≡ y = omega arith in
    ap₂ (λ (a b : ℕ). a ∷ b ∷ []) p q

-- a row's mark, topology and weights, from its bytes
row_parts : (h : Network) (f : ℕ → ℕ) (x y t : ℕ) (g : ℕ → List ℕ) → x ≡ f 0 → y ≡ f 1 → t ≡ f 2
    → ((i : ℕ) → i < row_weights h → g i ≡ up_to (λ j. f (3 + (i * 2 + j))) 2) → x ∷ y ∷ t ∷ flat g (row_weights h) ≡ up_to f (row_length h)
unfolding row_length up_to
row_parts h f x y t g b0 b1 b2 e =
    let w : ℕ = row_weights h in
    let swap : 3 + w * 2 ≡ 3 + 2 * w = omega arith in
    let rest : flat g w ≡ up_to (λ j. f (3 + j)) (w * 2) = flat_ext g (λ i. up_to (λ j. f (3 + (i * 2 + j))) 2) w e ∙ flat_up_to (λ j. f (3 + j)) 2 w in
    (cc) ∙ sym (up_to_add f 3 (w * 2)) ∙ ap (up_to f) swap

module _ (s : List ℕ) (small : Bytes s) (ok : FileMeets s) where
  abbrev h : Network
  h = header_of s

  abbrev S : Set
  S = set_of s

  byte : (p q : ℕ) → p ≡ q → get_or s p 0 ≡ get_or s q 0
  byte p q e = ap (λ (x : ℕ). get_or s x 0) e

  both : (p q r : ℕ) → p ≡ q → p + 1 ≡ r → bytes2 (two s p) ≡ get_or s q 0 ∷ get_or s r 0 ∷ []
  unfolding two
  both p q r e f = two_back (get_or s p 0) (get_or s (p + 1) 0) (byte_small s small (p + 1)) ∙ ap₂ (λ (x y : ℕ). x ∷ y ∷ []) (byte p q e) (byte (p + 1) r f)

  header_again : header_bytes h ≡ up_to (λ x. get_or s x 0) 8
  unfolding header_bytes header_of up_to
  header_again =
      let m = ok.header.marked in
      ap₂ (λ (x y : ℕ). x ∷ y ∷ get_or s 2 0 ∷ (bytes2 (two s 3) ++ (get_or s 5 0 ∷ bytes2 (two s 6)))) (sym m.first) (sym m.second)
      ∙ ap₂ (λ (x y : List ℕ). get_or s 0 0 ∷ get_or s 1 0 ∷ get_or s 2 0 ∷ (x ++ (get_or s 5 0 ∷ y))) (both 3 3 4 refl refl) (both 6 6 7 refl refl)

  link_again : (l : ℕ) → l < h.m → link_bytes S l ≡ up_to (λ j. get_or s (8 + (l * 6 + j)) 0) 6
  unfolding link_bytes up_to link_place end_a end_b link_weight
  link_again l p =
      let at : ℕ = 8 + 6 * l in
      let m = (ok.links l p).marked in
      let b0 : 0x4C ≡ get_or s (8 + (l * 6 + 0)) 0 = sym m.first ∙ byte at _ (omega arith) in
      let b1 : 0x4B ≡ get_or s (8 + (l * 6 + 1)) 0 = sym m.second ∙ byte (at + 1) _ (omega arith) in
      let b2 : get_or S.a l 0 ≡ get_or s (8 + (l * 6 + 2)) 0 = a_held s l p ∙ byte (at + 2) _ (omega arith) in
      let b3 : get_or S.b l 0 ≡ get_or s (8 + (l * 6 + 3)) 0 = b_held s l p ∙ byte (at + 3) _ (omega arith) in
      let b4 : bytes2 (get_or S.weights l 0) ≡ get_or s (8 + (l * 6 + 4)) 0 ∷ get_or s (8 + (l * 6 + 5)) 0 ∷ [] =
      ap bytes2 (weight_held s l p) ∙ both (at + 4) _ _ (omega arith) (omega arith)
      in
      cc (b0, b1, b2, b3, b4)

  home_again : (v : ℕ) → v < home_records h → home_bytes S v ≡ up_to (λ j. get_or s (8 + (h.m * 6 + (v * 4 + j))) 0) 4
  unfolding home_bytes up_to link_place home_place home_node home_topology home
  home_again v p =
      let at : ℕ = 8 + 6 * h.m + 4 * v in
      let z = ok.homes v p in
      let b0 : 0x48 ≡ get_or s (8 + (h.m * 6 + (v * 4 + 0))) 0 = sym z.marked.first ∙ byte at _ (omega arith) in
      let b1 : 0x4D ≡ get_or s (8 + (h.m * 6 + (v * 4 + 1))) 0 = sym z.marked.second ∙ byte (at + 1) _ (omega arith) in
      let b2 : v ≡ get_or s (8 + (h.m * 6 + (v * 4 + 2))) 0 = sym z.node ∙ byte (at + 2) _ (omega arith) in
      let b3 : get_or S.homes v 0 ≡ get_or s (8 + (h.m * 6 + (v * 4 + 3))) 0 = home_held s v p ∙ byte (at + 3) _ (omega arith) in
      cc (b0, b1, b2, b3)

  row_again : (j : ℕ) → j < h.k → row_bytes S j ≡ up_to (λ x. get_or s (8 + (h.m * 6 + (home_records h * 4 + (j * row_length h + x)))) 0) (row_length h)
  unfolding row_bytes link_place home_place row_place row_topology row_weight set_of up_to
  row_again j p =
      let at : ℕ = 8 + 6 * h.m + 4 * home_records h + j * row_length h in
      let z = ok.rows j p in
      let f : ℕ → ℕ = λ x. get_or s (8 + (h.m * 6 + (home_records h * 4 + (j * row_length h + x)))) 0 in
      let b0 : 0x42 ≡ f 0 = sym z.marked.first ∙ byte at _ (omega arith) in
      let b1 : 0x57 ≡ f 1 = sym z.marked.second ∙ byte (at + 1) _ (omega arith) in
      let b2 : suc j ≡ f 2 = sym z.topology ∙ byte (at + 2) _ (omega arith) in
      let weight : (x : ℕ) → x < row_weights h → bytes2 (get_or S.rows (row_start h j + x) 0) ≡ up_to (λ t. f (3 + (x * 2 + t))) 2 =
      λ x q. ap bytes2 (row_held s j x p q) ∙ both (at + 3 + 2 * x) _ _ (omega arith) (omega arith)
      in
      row_parts h f 0x42 0x57 (suc j) (λ x. bytes2 (get_or S.rows (row_start h j + x) 0)) b0 b1 b2 weight

  long_parts : length s ≡ 8 + (h.m * 6 + (home_records h * 4 + h.k * row_length h))
  unfolding file_length row_place home_place link_place
  long_parts = omega (arith, ok.header.long)

  pub encode_again : encode S ≡ s
  unfolding encode set_of
  encode_again =
      let m : ℕ = h.m * 6 in
      let v : ℕ = home_records h * 4 in
      let r : ℕ = h.k * row_length h in
      let f : ℕ → ℕ = λ x. get_or s x 0 in
      ap₂ ◌++◌ header_again
      (ap₂ ◌++◌ (flat_ext (link_bytes S) (λ l. up_to (λ j. f (8 + (l * 6 + j))) 6) h.m link_again ∙ flat_up_to (λ x. f (8 + x)) 6 h.m)
      (ap₂ ◌++◌ (flat_ext (home_bytes S) (λ x. up_to (λ j. f (8 + (m + (x * 4 + j)))) 4) (home_records h) home_again ∙ flat_up_to (λ x. f (8 + (m + x))) 4 (home_records h))
      (flat_ext (row_bytes S) (λ j. up_to (λ x. f (8 + (m + (v + (j * row_length h + x))))) (row_length h)) h.k row_again ∙ flat_up_to (λ x. f (8 + (m + (v + x)))) (row_length h) h.k)))
      ∙ ap (λ (l : List ℕ). up_to f 8 ++ (up_to (λ x. f (8 + x)) m ++ l)) (sym (up_to_add (λ x. f (8 + (m + x))) v r))
      ∙ ap (λ (l : List ℕ). up_to f 8 ++ l) (sym (up_to_add (λ x. f (8 + x)) m (v + r)))
      ∙ sym (up_to_add f 8 (m + (v + r)))
      ∙ up_to_get_d s (8 + (m + (v + r))) 0 long_parts
