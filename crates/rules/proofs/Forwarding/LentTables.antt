-- Tables as bytes: what stands at each entry, and that a step or a run by the bytes of a set's own tables is the one by its rules.
use Rattle.std.specs.Prelude.{if◌then◌else◌}
use mathlib.Core.Path.{◌≡◌, refl, sym, ap, ◌∙◌}
use mathlib.Core.Bool.{Bool, true, false}
use mathlib.Core.List.{List}
use Prim.Native.Nat.{ℕ, zero, suc, ◌+◌, ◌≤◌, ◌<◌}
use native.Mathlib.Omega.{arith}
use lib.Dec.{eqb}
use lib.ListN.{length, get_or}
use borrow.Author.Tests.{eqb-false}
use Rattle.rules.specs.declared.Packet.{Packet}
use Rattle.rules.specs.declared.Kind.{Kind}
use Rattle.rules.specs.declared.Step.{Step}
use Rattle.rules.specs.declared.Step.TheVariants.{Delivered, Moved, Dropped}
use Rattle.rules.specs.declared.Kind.TheVariants as change
use Rattle.rules.specs.declared.Outcome.TheVariants as ended
use Rattle.rules.specs.Basics.{laid}
use Rattle.rules.specs.Limits.{tables_length}
use Rattle.rules.specs.File.{Set}
use Rattle.rules.specs.Isolation.{home}
use Rattle.rules.specs.Distance.{next_hop, alternate, table_bytes}
use Rattle.rules.specs.Forwarding.{Tables, tables_of, entry_place, lent_tables, move_or_drop, change_to, blocked, toward, step, Run, stop, onward, after_step, run}
use Rattle.rules.specs.Sets.{AcceptedSet}
use Rattle.rules.proofs.Ground.Choices.{if_yes}
use Rattle.rules.proofs.Ground.Rows.{get_d_laid}
use Rattle.rules.proofs.Ground.Square.{tables_long, inside, entry_at, last_at}
use Rattle.rules.proofs.Isolation.Homes.{home_high}
use Rattle.rules.proofs.Distance.NextHops.{least_next_hops}
use Rattle.rules.proofs.Forwarding.Runs.{Within, advance}

-- ---- the bytes

module _ (S : Set) where
  pub bytes_long : length (table_bytes S) ≡ tables_length S.net
  unfolding table_bytes tables_length
  bytes_long = tables_long (next_hop S) (alternate S) S.net.n (S.net.k + 1)

  -- every entry lies in the bytes
  pub entry_inside : (i u t : ℕ) → i ≤ S.net.k + 1 → u < S.net.n → t < S.net.n → entry_place S.net i u t < length (table_bytes S)
  unfolding entry_place table_bytes
  entry_inside i u t li lu lt = inside (next_hop S) (alternate S) S.net.n (S.net.k + 1) i u t li lu lt

  pub next_at : (i u t : ℕ) → i ≤ S.net.k → u < S.net.n → t < S.net.n → get_or (table_bytes S) (entry_place S.net i u t) 0 ≡ next_hop S i u t
  unfolding table_bytes entry_place
  next_at i u t li lu lt = entry_at (next_hop S) (alternate S) S.net.n (S.net.k + 1) i u t (omega arith) lu lt

  pub alternate_at : (u v : ℕ) → u < S.net.n → v < S.net.n → get_or (table_bytes S) (entry_place S.net (S.net.k + 1) u v) 0 ≡ alternate S u v
  unfolding table_bytes entry_place
  alternate_at u v lu lv = last_at (next_hop S) (alternate S) S.net.n (S.net.k + 1) u v lu lv

-- ---- a step and a run by tables that agree with the rules

pub record Agree (S : Set) (tables : Tables) : Type 0 where
  pub next : (i u t : ℕ) → i ≤ S.net.k → u < S.net.n → t < S.net.n → tables.next i u t ≡ next_hop S i u t
  pub alternate : (u v : ℕ) → u < S.net.n → v < S.net.n → tables.alternate u v ≡ alternate S u v

-- bytes that begin with a set's own tables
pub lent_agree : (S : Set) (old : List ℕ) → Agree S (lent_tables S.net (laid (table_bytes S) old))
unfolding lent_tables
lent_agree S old =
    record {
      next = λ i u t li lu lt. get_d_laid (table_bytes S) old (entry_place S.net i u t) 0 (below i u t (omega arith) lu lt) ∙ next_at S i u t li lu lt;
      alternate = λ u v lu lv. get_d_laid (table_bytes S) old (entry_place S.net (S.net.k + 1) u v) 0 (below (S.net.k + 1) u v (omega arith) lu lv) ∙ alternate_at S u v lu lv;
    }
  where
    below : (i u t : ℕ) → i ≤ S.net.k + 1 → u < S.net.n → t < S.net.n → entry_place S.net i u t < length (table_bytes S)
    below i u t li lu lt = entry_inside S i u t li lu lt

module _ (S : Set) (A : AcceptedSet S) (on : ℕ → ℕ → Bool) (tables : Tables) (G : Agree S tables) where
  change_same : (p : Packet) (v w : ℕ) → p.place < S.net.n → v < S.net.n → change_to S tables on p v w ≡ change_to S (tables_of S) on p v w
  unfolding change_to tables_of
  change_same p v w lu lv = ap (λ (x : ℕ). if eqb w v then move_or_drop on p x (home S p.place) change.D else move_or_drop on p w (home S v) (if eqb p.destination v then change.S else change.T)) (G.alternate p.place v lu lv)

  blocked_same : (p : Packet) (v : ℕ) → Within S p → v < S.net.n → blocked S tables on p v ≡ blocked S (tables_of S) on p v
  unfolding blocked
  blocked_same p v W lv =
      let e : tables.next (home S v) p.place p.destination ≡ (tables_of S).next (home S v) p.place p.destination = unfold tables_of in (G.next (home S v) p.place p.destination (home_high S A v lv) W.node W.end) in
      ap (λ (s : Step). if eqb p.topology 0 then s else Dropped p)
      (ap (change_to S tables on p v) e ∙ change_same p v ((tables_of S).next (home S v) p.place p.destination) W.node lv)

  pub step_same : (p : Packet) → Within S p → step S tables on p ≡ step S (tables_of S) on p
  unfolding step toward tables_of
  step_same p W = by (eqb p.place p.destination) refl
    where
      v : ℕ
      v = next_hop S p.topology p.place p.destination

      by : (t : Bool) → eqb p.place p.destination ≡ t → step S tables on p ≡ step S (tables_of S) on p
      by true e = if_yes (eqb p.place p.destination) _ _ e ∙ sym (if_yes (eqb p.place p.destination) _ _ e)
      by false e =
          let lv = (least_next_hops S A p.topology p.place p.destination W.known W.node W.end (eqb-false p.place p.destination e)).node in
          ap (λ (s : Step). if eqb p.place p.destination then Delivered p else s)
          (ap (toward S tables on p) (G.next p.topology p.place p.destination W.known W.node W.end)
          ∙ ap (λ (s : Step). if on p.place v then Moved (record { place = v; destination = p.destination; topology = p.topology }) change.Unchanged else s) (blocked_same p v W lv))

  after_same : (s : Step) (f g : Packet → Kind → Run) → ((q : Packet) (kind : Kind) → s ≡ Moved q kind → f q kind ≡ g q kind) → after_step s f ≡ after_step s g
  unfolding after_step
  after_same (Delivered q) f g h = refl
  after_same (Dropped q) f g h = refl
  after_same (Moved q kind) f g h = h q kind refl

  -- what the run answers is what repeated steps by the tables give
  pub run_same : (h : ℕ) (p : Packet) → Within S p → run S tables on h p ≡ run S (tables_of S) on h p
  unfolding run
  run_same zero p W = ap (λ (s : Step). after_step s (λ q kind. stop p ended.UnderWay)) (step_same p W)
  run_same (suc h) p W =
      ap (λ (s : Step). after_step s (λ q kind. onward q.place kind (run S tables on h q))) (step_same p W)
      ∙ after_same (step S (tables_of S) on p) (λ q kind. onward q.place kind (run S tables on h q)) (λ q kind. onward q.place kind (run S (tables_of S) on h q))
      (λ q kind e. ap (onward q.place kind) (run_same h q (advance S A on p W q kind e).within))
