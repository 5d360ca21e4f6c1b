-- The bytes stored are those of the filled set.
use mathlib.Core.Path.{◌≡◌, refl, sym, ap, ap₂, ◌∙◌}
use mathlib.Core.List.{List, ◌∷◌, ◌++◌}
use Prim.Native.Nat.{ℕ, suc, ◌+◌, ◌≤◌, ◌<◌}
use lib.ListN.{length, get_or}
use Rattle.rules.specs.declared.Network.{Network}
use Rattle.rules.specs.Basics.{up_to, laid}
use Rattle.rules.specs.Limits.{row_weights, home_records, file_length}
use Rattle.rules.specs.File.{set_of, header_of, bytes2, header_bytes, link_bytes, home_bytes, row_start, row_bytes, encode}
use Rattle.rules.specs.Isolation.{class, home}
use Rattle.rules.specs.Building.{with_homes, on_normal, highest, filled}
use Rattle.rules.proofs.Ground.Rows.{length_up_to, get_d_up_to, get_d_flat, flat_ext}
use Rattle.rules.proofs.File.Encoded.{encode_long}
use Rattle.rules.proofs.File.SetOfBytes.{a_held, b_held, weight_held}
use Rattle.rules.proofs.Isolation.HomesAndRows.{isolated_by_home}
use Rattle.slices.specs.Stores.{put}
use Rattle.slices.proofs.Stores.{put_laid}
use Rattle.layout.specs.Records.{link_record, home_record, home_of, row_head}
use Rattle.filling.specs.Filled.{link_copy, weight_in, filled_bytes, filled_row, filled_file}

module _ (s homes : List ℕ) where
  link_is : (l : ℕ) → l < (header_of s).m → link_copy s l ≡ link_bytes (filled (set_of s) homes) l
  unfolding link_copy link_record link_bytes filled
  link_is l h = rw (a_held s l h, b_held s l h, weight_held s l h)

  home_is : (v : ℕ) → home_of homes v ≡ home_bytes (filled (set_of s) homes) v
  unfolding home_of home_record home_bytes filled
  home_is v = refl

  weight_is : (j x : ℕ) → x < (header_of s).m → weight_in s homes (suc j) x ≡ on_normal (class (with_homes (set_of s) homes) (suc j) x) (get_or (set_of s).weights x 0)
  unfolding weight_in class with_homes home
  weight_is j x h =
      rw (isolated_by_home (with_homes (set_of s) homes) j (get_or (set_of s).a x 0), isolated_by_home (with_homes (set_of s) homes) j (get_or (set_of s).b x 0), a_held s x h, b_held s x h, weight_held s x h)

  row_held_is : (j x : ℕ) → j < highest homes (header_of s).n → x < (header_of s).m
      → get_or (filled (set_of s) homes).rows (row_start (filled (set_of s) homes).net j + x) 0 ≡ weight_in s homes (suc j) x
  unfolding filled row_start row_weights set_of
  row_held_is j x hj hx =
      get_d_flat (λ i. up_to (λ l. on_normal (class (with_homes (set_of s) homes) (suc i) l) (get_or (set_of s).weights l 0)) (header_of s).m) (header_of s).m (highest homes (header_of s).n) j x 0
      (λ y l. length_up_to (λ l. on_normal (class (with_homes (set_of s) homes) (suc y) l) (get_or (set_of s).weights l 0)) (header_of s).m) hj hx
      ∙ get_d_up_to (λ l. on_normal (class (with_homes (set_of s) homes) (suc j) l) (get_or (set_of s).weights l 0)) (header_of s).m x 0 hx
      ∙ sym (weight_is j x hx)

  row_is : (j : ℕ) → j < highest homes (header_of s).n → filled_row s homes (header_of s).m j ≡ row_bytes (filled (set_of s) homes) j
  unfolding filled_row row_head row_bytes filled_bytes row_weights set_of filled
  row_is j h =
      ap (λ (l : List ℕ). 0x42 ∷ 0x57 ∷ suc j ∷ l)
      (flat_ext (filled_bytes s homes (suc j)) (λ x. bytes2 (get_or (filled (set_of s) homes).rows (row_start (filled (set_of s) homes).net j + x) 0)) (header_of s).m (λ x hx. ap bytes2 (sym (row_held_is j x h hx))))

  file_is : (h : Network) → h ≡ (filled (set_of s) homes).net → filled_file s homes h ≡ encode (filled (set_of s) homes)
  unfolding filled_file encode filled set_of
  file_is h e =
      rw e
      (ap₂ (λ (l r : List ℕ). header_bytes (filled (set_of s) homes).net ++ (l ++ r)) (flat_ext (link_copy s) (link_bytes (filled (set_of s) homes)) (header_of s).m link_is)
      (ap₂ ◌++◌ (flat_ext (home_of homes) (home_bytes (filled (set_of s) homes)) (home_records (filled (set_of s) homes).net) (λ v l. home_is v))
      (flat_ext (filled_row s homes (header_of s).m) (row_bytes (filled (set_of s) homes)) (highest homes (header_of s).n) row_is)))

  pub written_is : (d : List ℕ) (h : Network) → h ≡ (filled (set_of s) homes).net → file_length h ≤ length d → put d 0 (filled_file s homes h) ≡ laid (encode (filled (set_of s) homes)) d
  written_is d h e room =
      let long : length (encode (filled (set_of s) homes)) ≤ length d = rw (encode_long (filled (set_of s) homes), ← e) room in
      ap (put d 0) (file_is h e) ∙ put_laid (encode (filled (set_of s) homes)) d long
