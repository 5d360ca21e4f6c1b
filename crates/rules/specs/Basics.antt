-- The few words of these definitions that are not 01's: tests in order, all and any, how many, the lowest, the least, and lists by index.
use Rattle.std.specs.Prelude.{Bool, true, false, ◌&&◌, ◌||◌, List, [], ◌∷◌, ◌++◌, ℕ, zero, suc, ◌+◌, min, length, drop, if◌then◌else◌}

-- a test that is needed: where it holds the rest decides, where it does not this refusal number stands. 0 is no refusal
unfoldable pub need : Bool → ℕ → ℕ → ℕ
need true number rest = rest
need false number rest = number

-- every number below n passes
unfoldable pub all : (ℕ → Bool) → ℕ → Bool
all p zero = true
all p (suc n) = all p n && p n

-- some number below n passes
unfoldable pub any : (ℕ → Bool) → ℕ → Bool
any p zero = false
any p (suc n) = any p n || p n

-- how many numbers below n pass
unfoldable pub count : (ℕ → Bool) → ℕ → ℕ
count p zero = 0
count p (suc n) = (if p n then 1 else 0) + count p n

-- the lowest number below n that passes, or `other` where none does
unfoldable pub lowest : (ℕ → Bool) → ℕ → ℕ → ℕ
lowest p zero other = other
lowest p (suc n) other = lowest p n (if p n then n else other)

-- the least key of the numbers below n that pass, and of `other`
unfoldable pub least : (ℕ → Bool) → (ℕ → ℕ) → ℕ → ℕ → ℕ
least p key zero other = other
least p key (suc n) other = if p n then min (key n) (least p key n other) else least p key n other

-- the list f 0, f 1, .., n entries long
unfoldable pub up_to {ℓ} : {A : Type ℓ} → (ℕ → A) → ℕ → List A
up_to f zero = []
up_to f (suc n) = up_to f n ++ (f n ∷ [])

-- the lists f 0, f 1, .., n of them, one after the other
unfoldable pub flat : (ℕ → List ℕ) → ℕ → List ℕ
flat f zero = []
flat f (suc n) = flat f n ++ f n

-- what a lent list holds once `new` is written at its front: the rest stays as it came
unfoldable pub laid : List ℕ → List ℕ → List ℕ
laid new old = new ++ drop (length new) old
