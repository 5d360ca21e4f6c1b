-- Square tables one after the other as bytes, and one more after them: where each entry stands, whatever the entries are.
use mathlib.Core.Path.{◌≡◌, sym, ap, ap₂, ◌∙◌}
use mathlib.Core.List.{List, ◌++◌}
use Prim.Native.Nat.{ℕ, suc, ◌+◌, ◌*◌, ◌≤◌, ◌<◌}
use native.Mathlib.Nat.{suc-mul, mul-le-mul_right}
use native.Mathlib.Omega.{arith}
use lib.ListN.{length, get_or, length-append, get_or-append}
use lib.Seq.{get_or-append-add}
use Rattle.rules.specs.Basics.{up_to, flat}
use Rattle.rules.proofs.Ground.Rows.{length_up_to, get_d_up_to, length_flat, get_d_flat}

-- c tables of n rows and n columns with the entries f, and one with the entries g
module _ (f : ℕ → ℕ → ℕ → ℕ) (g : ℕ → ℕ → ℕ) (n c : ℕ) where
  abbrev table : ℕ → List ℕ
  table i = flat (λ u. up_to (f i u) n) n

  abbrev tables : List ℕ
  tables = flat table c

  abbrev behind : List ℕ
  behind = flat (λ u. up_to (g u) n) n

  table_long : (i : ℕ) → length (table i) ≡ n * n
  table_long i = length_flat (λ u. up_to (f i u) n) n n (λ u l. length_up_to (f i u) n)

  front_long : length tables ≡ c * (n * n)
  front_long = length_flat table (n * n) c (λ i l. table_long i)

  pub tables_long : length (tables ++ behind) ≡ c * (n * n) + n * n
  tables_long = length-append tables behind ∙ ap₂ (λ (x y : ℕ). x + y) front_long (length_flat (λ u. up_to (g u) n) n n (λ u l. length_up_to (g u) n))

  cell : (u t : ℕ) → u < n → t < n → u * n + t < n * n
  cell u t lu lt = omega (arith, suc-mul u n, mul-le-mul_right {m = suc u} n lu)

  -- every entry lies in the bytes
  pub inside : (i u t : ℕ) → i ≤ c → u < n → t < n → i * (n * n) + (u * n + t) < length (tables ++ behind)
  inside i u t li lu lt = omega (arith, tables_long, cell u t lu lt, mul-le-mul_right {m = i} {n = c} (n * n) li)

  pub entry_at : (i u t : ℕ) → i < c → u < n → t < n → get_or (tables ++ behind) (i * (n * n) + (u * n + t)) 0 ≡ f i u t
  entry_at i u t li lu lt =
      let l : i * (n * n) + (u * n + t) < length tables = omega (arith, front_long, cell u t lu lt, suc-mul i (n * n), mul-le-mul_right {m = suc i} {n = c} (n * n) li) in
      get_or-append tables behind 0 (i * (n * n) + (u * n + t)) l
      ∙ get_d_flat table (n * n) c i (u * n + t) 0 (λ j h. table_long j) li (cell u t lu lt)
      ∙ get_d_flat (λ x. up_to (f i x) n) n n u t 0 (λ x h. length_up_to (f i x) n) lu lt
      ∙ get_d_up_to (f i u) n t 0 lt

  pub last_at : (u v : ℕ) → u < n → v < n → get_or (tables ++ behind) (c * (n * n) + (u * n + v)) 0 ≡ g u v
  last_at u v lu lv =
      ap (λ (x : ℕ). get_or (tables ++ behind) (x + (u * n + v)) 0) (sym front_long)
      ∙ get_or-append-add tables behind (u * n + v) 0
      ∙ get_d_flat (λ x. up_to (g x) n) n n u v 0 (λ x h. length_up_to (g x) n) lu lv
      ∙ get_d_up_to (g u) n v 0 lv
