-- Rounds of spreading: from one number along a relation. A round adds a number or it and all later ones change nothing, so n rounds reach what walks reach.
use mathlib.Core.Path.{◌≡◌, refl, sym, ap, ◌∙◌}
use mathlib.Core.Bool.{Bool, true, false, not, ◌&&◌, ◌||◌, false≢true}
use mathlib.Core.Logic.{◌⊎◌, inl, inr}
use Prim.Native.Nat.{ℕ, zero, suc, ◌≤◌, ◌<◌}
use native.Mathlib.Omega.{arith}
use lib.Dec.{ltb}
use borrow.Author.Tests.{lt-ltb, not-true}
use Rattle.rules.specs.Basics.{any, count}
use Rattle.rules.specs.Sets.{Walk, stay, go}
use Rattle.rules.proofs.Ground.Choices.{and_of, and_left, and_right, or_left, or_right, or_cases, clash, true_of}
use Rattle.rules.proofs.Ground.Numbers.{any_at, any_of, count_lt, count_all, none_of}

-- In h v: v is reached in h rounds. The root and all that R leads to lie below n
pub record Spreading (n root : ℕ) (R In : ℕ → ℕ → Bool) : Type 0 where
  pub low : root < n
  pub below : (u v : ℕ) → R u v ≡ true → v < n
  pub begun : In 0 root ≡ true
  pub alone : (v : ℕ) → In 0 v ≡ true → v ≡ root
  pub next : (h v : ℕ) → In (suc h) v ≡ (ltb v n && (In h v || any (λ u. In h u && R u v) n))

module _ {n root : ℕ} {R In : ℕ → ℕ → Bool} (s : Spreading n root R In) where
  -- what is reached in one round more was reached, or R leads to it from such a number
  came : (h v : ℕ) → In (suc h) v ≡ true → (In h v ≡ true) ⊎ ((u : ℕ) × (In h u ≡ true) × (R u v ≡ true))
  came h v e = pick (or_cases (In h v) (any (λ u. In h u && R u v) n) (and_right (ltb v n) _ (sym (s.next h v) ∙ e)))
    where
      pick : (In h v ≡ true) ⊎ (any (λ u. In h u && R u v) n ≡ true) → (In h v ≡ true) ⊎ ((u : ℕ) × (In h u ≡ true) × (R u v ≡ true))
      pick (inl q) = inl q
      pick (inr q) =
          let a = any_at (λ u. In h u && R u v) n q in
          inr (a.0, and_left (In h a.0) (R a.0 v) a.2, and_right (In h a.0) (R a.0 v) a.2)

  pub walked : (h v : ℕ) → In h v ≡ true → Walk R root v
  walked zero v e = rw (s.alone v e) stay
  walked (suc h) v e = pick (walked h) (came h v e)
    where
      pick : ((u : ℕ) → In h u ≡ true → Walk R root u) → (In h v ≡ true) ⊎ ((u : ℕ) × (In h u ≡ true) × (R u v ≡ true)) → Walk R root v
      pick r (inl q) = r v q
      pick r (inr a) = go (r a.0 a.1) a.2

  node : (v : ℕ) → Walk R root v → v < n
  node v stay = s.low
  node v (go {w = u} q e) = s.below u v e

  keeps : (h v : ℕ) → In h v ≡ true → In (suc h) v ≡ true
  keeps h v e =
      s.next h v ∙ and_of (ltb v n) _ (lt-ltb v n (node v (walked h v e))) (or_left (In h v) _ e)

  takes : (h u v : ℕ) → In h u ≡ true → R u v ≡ true → In (suc h) v ≡ true
  takes h u v e d =
      s.next h v ∙ and_of (ltb v n) _ (lt-ltb v n (s.below u v d))
      (or_right (In h v) _ (any_of (λ x. In h x && R x v) n u (node u (walked h u e)) (and_of (In h u) (R u v) e d)))

  -- the next round adds nothing
  Settled : ℕ → Type 0
  Settled h = (v : ℕ) → In (suc h) v ≡ true → In h v ≡ true

  settles : (h : ℕ) → Settled h ⊎ (h < count (In h) n)
  unfolding Settled
  settles zero = let c = count_lt (λ v. false) (In 0) n root (λ v l e. absurd (false≢true e)) s.low refl s.begun in inr (omega arith)
  settles (suc h) = pick (settles h) (any new n) refl
    where
      new : ℕ → Bool
      new v = In (suc h) v && not (In h v)

      again : Settled h → Settled (suc h)
      again still v e = from (came (suc h) v e)
        where
          from : (In (suc h) v ≡ true) ⊎ ((u : ℕ) × (In (suc h) u ≡ true) × (R u v ≡ true)) → In (suc h) v ≡ true
          from (inl q) = q
          from (inr a) = takes h a.0 v (still a.0 a.1) a.2

      none : any new n ≡ false → Settled h
      none e v q =
          true_of (In h v)
          (λ r. clash (new v) (and_of (In (suc h) v) (not (In h v)) q (ap not r)) (none_of new n e v (node v (walked (suc h) v q))))

      pick : Settled h ⊎ (h < count (In h) n) → (t : Bool) → any new n ≡ t → Settled (suc h) ⊎ (suc h < count (In (suc h)) n)
      pick (inl still) t e = inl (again still)
      pick (inr l) false e = inl (again (none e))
      pick (inr l) true e =
          let a = any_at new n e in
          let i = and_left (In (suc h) a.0) (not (In h a.0)) a.2 in
          let o = not-true (In h a.0) (and_right (In (suc h) a.0) (not (In h a.0)) a.2) in
          let c = count_lt (In h) (In (suc h)) n a.0 (λ v lv q. keeps h v q) a.1 o i in
          inr (omega arith)

  settled : (h : ℕ) → n ≤ h → Settled h
  settled h l = pick (settles h)
    where
      pick : Settled h ⊎ (h < count (In h) n) → Settled h
      pick (inl q) = q
      pick (inr q) = let c = count_all (In h) n in absurd (omega arith)

  root_in : (h : ℕ) → In h root ≡ true
  root_in zero = s.begun
  root_in (suc h) = keeps h root (root_in h)

  -- n rounds, or more, reach what a walk reaches
  pub reaches : (h v : ℕ) → n ≤ h → Walk R root v → In h v ≡ true
  unfolding Settled
  reaches h v l stay = root_in h
  reaches h v l (go {w = u} q e) = settled h l v (takes h u v (reaches h u l q) e)
