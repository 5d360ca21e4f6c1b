-- The run as the code makes it, hop by hop: what was visited so far, and the run from where the packet is.
use mathlib.Core.Path.{◌≡◌, refl, sym, ap, ap₂, ◌∙◌}
use mathlib.Core.List.{List, [], ◌∷◌, ◌++◌, append-nil, append_assoc}
use Prim.Native.Nat.{ℕ, zero, suc, ◌+◌, ◌-◌, ◌≤◌, ◌<◌}
use native.Mathlib.Omega.{arith}
use lib.ListN.{length, set, length-append}
use Rattle.rules.specs.declared.Packet.{Packet}
use Rattle.rules.specs.declared.Failure.{Failure}
use Rattle.rules.specs.declared.Journey.{Journey}
use Rattle.rules.specs.declared.Kind.{Kind}
use Rattle.rules.specs.declared.Kind.TheVariants as change
use Rattle.rules.specs.declared.Step.{Step}
use Rattle.rules.specs.declared.Step.TheVariants.{Delivered, Moved, Dropped}
use Rattle.rules.specs.declared.Outcome.{Outcome}
use Rattle.rules.specs.declared.Outcome.TheVariants as ended
use Rattle.rules.specs.Basics.{laid}
use Rattle.rules.specs.Forwarding.{Run, hops, trail, stop, first_kind, onward, after_step, run}
use Rattle.rules.proofs.Ground.Rows.{laid_more}
use Rattle.slices.specs.Stores.{put}
use Rattle.slices.proofs.Stores.{length_put, put_inside}
use Rattle.onehop.specs.Hop.{step_at}
use Rattle.travel.specs.Trip.{run_at, journey_of, RunsAs, Begun}

-- ---- kinds

pub kind_first : (k next : Kind) → k ≡ change.Unchanged → next ≡ first_kind k next
unfolding first_kind
kind_first k next e = rw e

pub kind_kept : (k next : Kind) → (k ≡ change.Unchanged → ⊥) → k ≡ first_kind k next
unfolding first_kind
kind_kept change.Unchanged next ne = absurd (ne refl)
kind_kept change.T next ne = refl
kind_kept change.S next ne = refl
kind_kept change.D next ne = refl

kind_alone : (k : Kind) → first_kind k change.Unchanged ≡ k
unfolding first_kind
kind_alone change.Unchanged = refl
kind_alone change.T = refl
kind_alone change.S = refl
kind_alone change.D = refl

kind_then : (k next last : Kind) → first_kind k (first_kind next last) ≡ first_kind (first_kind k next) last
unfolding first_kind
kind_then change.Unchanged next last = refl
kind_then change.T next last = refl
kind_then change.S next last = refl
kind_then change.D next last = refl

-- ---- the trail

laid_first : (old : List ℕ) (v : ℕ) → 0 < length old → set old 0 v ≡ laid (v ∷ []) (set old 0 v)
unfolding laid
laid_first [] v h = absurd (omega arith)
laid_first (x ∷ l) v h = refl

-- what stood first does not matter
laid_over : (v w : ℕ) (new old : List ℕ) → laid (v ∷ new) (set old 0 w) ≡ laid (v ∷ new) old
unfolding laid
laid_over v w new [] = refl
laid_over v w new (x ∷ l) = refl

-- ---- the run

module _ (s tables : List ℕ) (f : Failure) where
  pub run_delivered : (m : ℕ) (p q : Packet) → step_at s tables f p ≡ Delivered q → run_at s tables f m p ≡ stop q ended.Delivered
  unfolding run_at step_at run after_step
  run_delivered zero p q e = rw e
  run_delivered (suc m) p q e = rw e

  pub run_dropped : (m : ℕ) (p q : Packet) → step_at s tables f p ≡ Dropped q → run_at s tables f m p ≡ stop q ended.Dropped
  unfolding run_at step_at run after_step
  run_dropped zero p q e = rw e
  run_dropped (suc m) p q e = rw e

  run_under_way : (p q : Packet) (k : Kind) → step_at s tables f p ≡ Moved q k → run_at s tables f 0 p ≡ stop p ended.UnderWay
  unfolding run_at step_at run after_step
  run_under_way p q k e = rw e

  pub run_moved : (m : ℕ) (p q : Packet) (k : Kind) → step_at s tables f p ≡ Moved q k → run_at s tables f (suc m) p ≡ onward q.place k (run_at s tables f m q)
  unfolding run_at step_at run after_step
  run_moved m p q k e = rw e

  -- after so many hops: the nodes visited, and the run from the packet's place, which ends as the whole run does
  pub record Travelling (start : Packet) (most : ℕ) (t₀ : List ℕ) (p : Packet) (count : ℕ) (kind : Kind) (t : List ℕ) : Type 0 where
    pub low : count ≤ most
    pub visited : List ℕ
    pub counted : length visited ≡ count
    pub written : t ≡ laid (start.place ∷ visited) t₀
    pub long : length t ≡ length t₀
    pub outcome : (run_at s tables f most start).outcome ≡ (run_at s tables f (most - count) p).outcome
    pub nodes : (run_at s tables f most start).visited ≡ visited ++ (run_at s tables f (most - count) p).visited
    pub topology : (run_at s tables f most start).topology ≡ (run_at s tables f (most - count) p).topology
    pub first : (run_at s tables f most start).kind ≡ first_kind kind (run_at s tables f (most - count) p).kind

  pub travel_none : (start : Packet) (most : ℕ) (t : List ℕ) → Begun start most t → Travelling start most t start 0 change.Unchanged t
  unfolding first_kind
  travel_none start most t B =
      let z : most ≡ most - 0 = omega arith in
      record {
        low = omega arith;
        visited = [];
        counted = refl;
        written = B.first;
        long = refl;
        outcome = ap (λ (x : ℕ). (run_at s tables f x start).outcome) z;
        nodes = ap (λ (x : ℕ). (run_at s tables f x start).visited) z;
        topology = ap (λ (x : ℕ). (run_at s tables f x start).topology) z;
        first = ap (λ (x : ℕ). (run_at s tables f x start).kind) z;
      }

  pub travel_more : (start p q : Packet) (most count more : ℕ) (kind next k : Kind) (t₀ t t' : List ℕ) (st : Step) → more ≡ count + 1 → Travelling start most t₀ p count kind t → st ≡ step_at s tables f p → st ≡ Moved q next
      → count < most → Begun start most t₀ → t' ≡ put t more (q.place ∷ []) → k ≡ first_kind kind next → Travelling start most t₀ q more k t'
  unfolding onward
  travel_more start p q most count more kind next k t₀ t t' st one T e d l B v z =
      let r = B.room in
      let m : most - count ≡ suc (most - more) = omega arith in
      let R : run_at s tables f (most - count) p ≡ onward q.place next (run_at s tables f (most - more) q) = ap (λ (x : ℕ). run_at s tables f x p) m ∙ run_moved (most - more) p q next (sym e ∙ d) in
      let at : more ≡ length (start.place ∷ T.visited) = omega (arith, T.counted) in
      record {
        low = omega arith;
        visited = T.visited ++ (q.place ∷ []);
        counted = length-append T.visited (q.place ∷ []) ∙ ap (λ (x : ℕ). x + 1) T.counted ∙ sym one;
        written =
            v ∙ ap₂ (λ (l : List ℕ) (x : ℕ). put l x (q.place ∷ [])) T.written at
            ∙ sym (put_inside (laid (start.place ∷ T.visited) t₀) (length (start.place ∷ T.visited)) q.place)
            ∙ laid_more (start.place ∷ T.visited) t₀ q.place (omega arith);
        long = ap length v ∙ length_put t more (q.place ∷ []) ∙ T.long;
        outcome = T.outcome ∙ ap (λ (x : Run). x.outcome) R;
        nodes = T.nodes ∙ ap (λ (x : Run). T.visited ++ x.visited) R ∙ sym (append_assoc T.visited (q.place ∷ []) (run_at s tables f (most - more) q).visited);
        topology = T.topology ∙ ap (λ (x : Run). x.topology) R;
        first =
            T.first ∙ ap (λ (x : Run). first_kind kind x.kind) R
            ∙ kind_then kind next (run_at s tables f (most - more) q).kind
            ∙ ap (λ (x : Kind). first_kind x (run_at s tables f (most - more) q).kind) (sym z);
      }

  -- the run stops at p: what the whole run is
  stopped : (start p q : Packet) (most count : ℕ) (kind : Kind) (t₀ t : List ℕ) (o : Outcome) (j : Journey) → Travelling start most t₀ p count kind t
      → run_at s tables f (most - count) p ≡ stop q o → j ≡ record { outcome = o; hops = count; topology = q.topology; kind = kind } → RunsAs s tables f start most t₀ j t
  unfolding stop journey_of hops trail
  stopped start p q most count kind t₀ t o j T R g =
      let all : (run_at s tables f most start).visited ≡ T.visited = T.nodes ∙ ap (λ (x : Run). T.visited ++ x.visited) R ∙ append-nil T.visited in
      let a : o ≡ (run_at s tables f most start).outcome = sym (T.outcome ∙ ap (λ (x : Run). x.outcome) R) in
      let b : count ≡ length (run_at s tables f most start).visited = sym (ap length all ∙ T.counted) in
      let c : q.topology ≡ (run_at s tables f most start).topology = sym (T.topology ∙ ap (λ (x : Run). x.topology) R) in
      let d : kind ≡ (run_at s tables f most start).kind = sym (T.first ∙ ap (λ (x : Run). first_kind kind x.kind) R ∙ kind_alone kind) in
      record {
        answer = g ∙ (λ i. record { outcome = a i; hops = b i; topology = c i; kind = d i });
        written = T.written ∙ ap (λ (l : List ℕ). laid (start.place ∷ l) t₀) (sym all);
      }

  pub travel_delivered : (start p q : Packet) (most count : ℕ) (kind : Kind) (t₀ t : List ℕ) (st : Step) (j : Journey) → Travelling start most t₀ p count kind t → st ≡ step_at s tables f p → st ≡ Delivered q
      → j ≡ record { outcome = ended.Delivered; hops = count; topology = q.topology; kind = kind } → RunsAs s tables f start most t₀ j t
  travel_delivered start p q most count kind t₀ t st j T d e g = stopped start p q most count kind t₀ t ended.Delivered j T (run_delivered (most - count) p q (sym d ∙ e)) g

  pub travel_dropped : (start p q : Packet) (most count : ℕ) (kind : Kind) (t₀ t : List ℕ) (st : Step) (j : Journey) → Travelling start most t₀ p count kind t → st ≡ step_at s tables f p → st ≡ Dropped q
      → j ≡ record { outcome = ended.Dropped; hops = count; topology = q.topology; kind = kind } → RunsAs s tables f start most t₀ j t
  travel_dropped start p q most count kind t₀ t st j T d e g = stopped start p q most count kind t₀ t ended.Dropped j T (run_dropped (most - count) p q (sym d ∙ e)) g

  pub travel_under_way : (start p q : Packet) (most count : ℕ) (kind next : Kind) (t₀ t : List ℕ) (st : Step) (j : Journey) → Travelling start most t₀ p count kind t → st ≡ step_at s tables f p → st ≡ Moved q next → most ≤ count
      → j ≡ record { outcome = ended.UnderWay; hops = count; topology = p.topology; kind = kind } → RunsAs s tables f start most t₀ j t
  travel_under_way start p q most count kind next t₀ t st j T d e l g =
      let z : most - count ≡ 0 = omega arith in
      stopped start p p most count kind t₀ t ended.UnderWay j T (ap (λ (x : ℕ). run_at s tables f x p) z ∙ run_under_way p q next (sym d ∙ e)) g

  -- ---- from a trail as it came

  pub begun : (start : Packet) (most : ℕ) (old t : List ℕ) → t ≡ put old 0 (start.place ∷ []) → most < length old → Begun start most t
  begun start most old t v l =
      let e : t ≡ set old 0 start.place = v ∙ sym (put_inside old 0 start.place) in
      record { first = rw e (laid_first old start.place (omega arith)); room = omega (arith, ap length v, length_put old 0 (start.place ∷ [])) }

  pub runs_whole : (start : Packet) (most : ℕ) (old t t' : List ℕ) (j : Journey) → t ≡ put old 0 (start.place ∷ []) → RunsAs s tables f start most t j t' → RunsAs s tables f start most old j t'
  unfolding trail
  runs_whole start most old t t' j v R =
      record {
        answer = R.answer;
        written =
            R.written ∙ ap (laid (start.place ∷ (run_at s tables f most start).visited)) (v ∙ sym (put_inside old 0 start.place))
            ∙ laid_over start.place start.place (run_at s tables f most start).visited old;
      }

-- ---- the hops that are left

pub fewer_left : (count more most : ℕ) → more ≡ count + 1 → count < most → most - more < most - count
fewer_left count more most e l = omega arith

-- two results that the promise allows coincide: the whole answer, and every byte of the trail
pub one_run : (s tables : List ℕ) (f : Failure) (start : Packet) (most : ℕ) (old new new' : List ℕ) (r r' : Journey)
    → RunsAs s tables f start most old r new → RunsAs s tables f start most old r' new' → (r ≡ r') × (new ≡ new')
one_run s tables f start most old new new' r r' p q = (p.answer ∙ sym q.answer, p.written ∙ sym q.written)

pub ruleset travelling = (kind_first, kind_kept, travel_none, travel_more, travel_delivered, travel_dropped, travel_under_way, begun, runs_whole, fewer_left)
