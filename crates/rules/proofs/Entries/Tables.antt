-- Demand 2 of the entry `tables`: what it accepts, and what it then answers and leaves, byte by byte.
use Rattle.std.specs.Prelude.{Ok}
use mathlib.Core.Path.{◌≡◌, refl, sym, ap, subst, ◌∙◌}
use mathlib.Core.Bool.{Bool, true, false, not, ◌&&◌}
use mathlib.Core.Logic.{◌⊎◌, inl, inr}
use mathlib.Core.List.{List}
use Prim.Native.Nat.{ℕ, ◌+◌, ◌≤◌, ◌<◌}
use native.Mathlib.Omega.{arith}
use lib.Dec.{eqb}
use lib.ListN.{length, get_or, drop}
use borrow.Author.Tests.{eq-eqb}
use Rattle.rules.specs.declared.Network.{Network}
use Rattle.rules.specs.Verdict.{Accepted, Refused}
use Rattle.rules.specs.Basics.{laid}
use Rattle.rules.specs.Limits.{tables_length}
use Rattle.rules.specs.File.{Set, header_of, set_of}
use Rattle.rules.specs.Isolation.{neighbours, home}
use Rattle.rules.specs.Distance.{next_hop, alternate, table_bytes}
use Rattle.rules.specs.Forwarding.{entry_place}
use Rattle.rules.specs.Judgement.{take_in, need_room}
use Rattle.rules.specs.Entries.Tables.{tables_entry}
use Rattle.rules.specs.Sets.{Bytes}
use Rattle.rules.specs.Demands.Form.{AcceptsExactly, ThenGives, IsLength}
use Rattle.rules.specs.Demands.Two.{NextHopIs, AlternateIs, TablesMeet, TablesGive}
use Rattle.rules.proofs.Ground.Choices.{if_yes, if_no, then_no, then_both, then_first, then_second}
use Rattle.rules.proofs.Ground.Rows.{get_d_laid, laid_rest}
use Rattle.rules.proofs.Ground.Square.{tables_long, inside, entry_at, last_at}
use Rattle.rules.proofs.File.SetOfBytes.{net_held}
use Rattle.rules.proofs.File.TakenIn.{set_stops}
use Rattle.rules.proofs.File.AcceptedFile.{file_taken, its_header, its_set, accepted_file}
use Rattle.rules.proofs.Distance.NextHops.{least_next_hops, nearest_alternates}
use Rattle.rules.proofs.Entries.Answering.{told, left, accepts, length_values, length_is}
use Rattle.rules.proofs.Refusals.Needs.{room_ok, room_long}

-- what taking in refuses is told first
pub tables_stops : (s lent : List ℕ) (number place : ℕ) → take_in s ≡ Refused number place → tables_entry.verdict s lent ≡ Refused number place
unfolding tables_entry
tables_stops s lent number place e = then_no _ _ number place (set_stops s number place e)

pub tables_meets : (S : Set) (s lent : List ℕ) → TablesMeet S s lent → tables_entry.verdict s lent ≡ Accepted
unfolding tables_entry
tables_meets S s lent M =
    let taken = file_taken S s M.file in
    let room = ap (λ (h : Network). need_room (tables_length h) lent) (its_header S s M.file) ∙ room_ok (tables_length S.net) lent M.room in
    search then_both

pub tables_accepts : AcceptsExactly tables_entry IsLength Bytes TablesMeet
unfolding tables_entry
tables_accepts =
    accepts tables_entry IsLength Bytes TablesMeet length_values (λ s d r e. (tables_length (header_of s), length_is r (tables_length (header_of s)) e)) tables_asked tables_meets
  where
    tables_asked : (s lent : List ℕ) → Bytes s → tables_entry.verdict s lent ≡ Accepted → (S : Set) × TablesMeet S s lent
    tables_asked s lent small e = (
      set_of s,
      record {
        file = accepted_file s small (then_first _ _ e);
        room = subst (λ (h : Network). tables_length h ≤ length lent) (sym (net_held s)) (room_long (tables_length (header_of s)) lent (then_second _ _ e));
      },
    )

own_entry : (S : Set) (i u : ℕ) → next_hop S i u u ≡ u
unfolding next_hop
own_entry S i u = if_yes (eqb u u) u _ (eq-eqb u u refl)

no_alternate : (S : Set) (u v : ℕ) → (neighbours S u v ≡ false) ⊎ (home S u ≡ home S v) → alternate S u v ≡ 255
unfolding alternate
no_alternate S u v h = if_no (neighbours S u v && not (eqb (home S u) (home S v))) _ 255 (apart (neighbours S u v) (eqb (home S u) (home S v)) h)
  where
    apart : (a b : Bool) → (a ≡ false) ⊎ (home S u ≡ home S v) → (a && not (eqb (home S u) (home S v))) ≡ false
    apart a b (inl e) = rw e
    apart true b (inr e) = rw (eq-eqb (home S u) (home S v) e)
    apart false b (inr e) = refl

pub tables_gives : ThenGives tables_entry TablesMeet TablesGive
unfolding tables_entry table_bytes entry_place tables_length
tables_gives S s before after r P M =
    let e = tables_meets S s before M in
    let A = M.file.accepted in
    let lent : after ≡ laid (table_bytes S) before = left tables_entry s before after r P e ∙ ap (λ (T : Set). laid (table_bytes T) before) (its_set S s M.file) in
    let n : ℕ = S.net.n in
    let c : ℕ = S.net.k + 1 in
    let next_there : (i u t : ℕ) → i ≤ S.net.k → u < n → t < n → get_or after (entry_place S.net i u t) 0 ≡ next_hop S i u t =
    λ i u t li lu lt. ap (λ (l : List ℕ). get_or l (entry_place S.net i u t) 0) lent
    ∙ get_d_laid (table_bytes S) before (entry_place S.net i u t) 0 (inside (next_hop S) (alternate S) n c i u t (omega arith) lu lt)
    ∙ entry_at (next_hop S) (alternate S) n c i u t (omega arith) lu lt
    in
    let alternate_there : (u v : ℕ) → u < n → v < n → get_or after (entry_place S.net c u v) 0 ≡ alternate S u v =
    λ u v lu lv. ap (λ (l : List ℕ). get_or l (entry_place S.net c u v) 0) lent
    ∙ get_d_laid (table_bytes S) before (entry_place S.net c u v) 0 (inside (next_hop S) (alternate S) n c c u v (omega arith) lu lv)
    ∙ last_at (next_hop S) (alternate S) n c u v lu lv
    in
    record {
      answer = length_is r (tables_length (header_of s)) (told tables_entry s before after r P e) ∙ ap (λ (h : Network). Ok (tables_length h)) (its_header S s M.file);
      next = λ i u t li lu lt ne. subst (λ (w : ℕ). NextHopIs S i u t w) (sym (next_there i u t li lu lt)) (least_next_hops S A i u t li lu lt ne);
      own = λ i u li lu. next_there i u u li lu lu ∙ own_entry S i u;
      alternate = λ u v lu lv joined apart. subst (λ (w : ℕ). AlternateIs S u v w) (sym (alternate_there u v lu lv)) (nearest_alternates S A u v lu lv joined apart);
      none = λ u v lu lv h. alternate_there u v lu lv ∙ no_alternate S u v h;
      rest = ap (drop (tables_length S.net)) lent ∙ ap (λ (x : ℕ). drop x (laid (table_bytes S) before)) (sym (tables_long (next_hop S) (alternate S) n c))
          ∙ laid_rest (table_bytes S) before ∙ ap (λ (x : ℕ). drop x before) (tables_long (next_hop S) (alternate S) n c);
    }
