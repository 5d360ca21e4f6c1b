-- Demand 2: an accepted file written out again is the same bytes, and a set written out reads back as itself. Both from what `read` and `write` accept and give.
use Rattle.std.specs.Prelude.{Ok}
use mathlib.Core.Path.{◌≡◌, refl, sym, ap, subst, ◌∙◌}
use mathlib.Core.List.{List}
use Prim.Native.Nat.{ℕ, ◌*◌, ◌≤◌}
use native.Mathlib.Omega.{arith}
use lib.ListN.{length, take, length-take}
use Rattle.rules.specs.declared.Network.{Network}
use Rattle.rules.specs.Limits.{row_weights, home_records, file_length}
use Rattle.rules.specs.File.{Set, encode}
use Rattle.rules.specs.Entries.Lists.{Lists, LongLists}
use Rattle.rules.specs.Sets.{WithinLimits, MeetsRules, PublishedFile}
use Rattle.rules.specs.Demands.Form.{Front}
use Rattle.rules.specs.Demands.Two.{ReadGives, cut_to, SameBytes, SameLists, ReadsBack}
use Rattle.rules.proofs.File.Encoded.{encode_long}
use Rattle.rules.proofs.File.WithinCounts.{same_set}
use Rattle.rules.proofs.Entries.Read.{only_file, read_accepts, read_gives}
use Rattle.rules.specs.Answers.{ReadAnswer, LengthAnswer}
use Rattle.rules.proofs.Entries.Write.{write_accepts, write_gives}

same_counts : (h h' : Network) → ◌≡◌ {A = ReadAnswer} (Ok h) (Ok h') → h ≡ h'
same_counts h h' e = cc

same_length : (x y : ℕ) → ◌≡◌ {A = LengthAnswer} (Ok x) (Ok y) → x ≡ y
same_length x y e = cc

-- ---- a set's entries at the front of a list

-- the front of a list by its count
front_count : (new before after : List ℕ) (count : ℕ) → length new ≡ count → Front new before after → take count after ≡ new
front_count new before after count e F = ap (λ (x : ℕ). take x after) (sym e) ∙ F.is

-- a list is as long as what stands at its front
front_long : (new before after : List ℕ) (count : ℕ) → length new ≡ count → Front new before after → count ≤ length after
front_long new before after count e F = omega (arith, length-take (length new) after, ap length F.is)

module _ (S : Set) (R : MeetsRules S) (s : List ℕ) (before after : Lists) (r : ReadAnswer) (G : ReadGives S s before r after) where
  -- what reading left holds the set, cut to its counts
  lists_hold : S ≡ cut_to S.net after
  unfolding cut_to
  lists_hold =
      same_set S (cut_to S.net after) refl
      (sym (front_count S.a before.a after.a S.net.m R.links_long.0 G.a))
      (sym (front_count S.b before.b after.b S.net.m R.links_long.1 G.b))
      (sym (front_count S.weights before.weights after.weights S.net.m R.links_long.2 G.weights))
      (sym (front_count S.homes before.homes after.homes (home_records S.net) R.homes_long G.homes))
      (sym (front_count S.rows before.rows after.rows (S.net.k * row_weights S.net) R.rows_long G.rows))

  lists_long : LongLists S.net after
  lists_long =
      record {
        a = front_long S.a before.a after.a S.net.m R.links_long.0 G.a;
        b = front_long S.b before.b after.b S.net.m R.links_long.1 G.b;
        weights = front_long S.weights before.weights after.weights S.net.m R.links_long.2 G.weights;
        homes = front_long S.homes before.homes after.homes (home_records S.net) R.homes_long G.homes;
        rows = front_long S.rows before.rows after.rows (S.net.k * row_weights S.net) R.rows_long G.rows;
      }

  -- two readings' lists agree within the counts where they are cut to one set
  same_lists : (d : Lists) → S ≡ cut_to S.net d → SameLists S.net after d
  unfolding cut_to
  same_lists d e =
      let both : cut_to S.net after ≡ cut_to S.net d = sym lists_hold ∙ e in
      record {
        a = ap (λ (T : Set). T.a) both;
        b = ap (λ (T : Set). T.b) both;
        weights = ap (λ (T : Set). T.weights) both;
        homes = ap (λ (T : Set). T.homes) both;
        rows = ap (λ (T : Set). T.rows) both;
      }

-- ---- "An accepted file written out again is the same bytes"

pub same_bytes : SameBytes
same_bytes s small before after h P room written r enough Q =
    let M = (read_accepts s before after (Ok h) small P).0 (h, refl) in
    let S = M.0 in
    let R = M.1.file.published.rules in
    let G = read_gives S s before after (Ok h) P M.1 in
    let e : h ≡ S.net = same_counts h S.net G.answer in
    let bytes : length s ≡ file_length S.net = ap length (sym M.1.file.bytes) ∙ encode_long S in
    let W = write_gives S (record { net = h; lists = after }) room written r Q
    (record {
      limits = subst WithinLimits (sym e) R.limits;
      lists = subst (λ (g : Network). LongLists g after) (sym e) (lists_long S R s before after (Ok h) G);
      set = lists_hold S R s before after (Ok h) G ∙ ap (λ (g : Network). cut_to g after) (sym e);
      published = M.1.file.published;
      room = omega (arith, ap file_length e);
    })
    in
    (W.answer ∙ ap Ok (sym bytes), ap (λ (x : ℕ). take x written) (bytes ∙ sym (encode_long S)) ∙ W.file.is ∙ M.1.file.bytes)

-- ---- "a set written out reads back as itself"

pub reads_back : ReadsBack
unfolding cut_to
reads_back h d room written bytes P before after r room_enough Q =
    let M = (write_accepts (record { net = h; lists = d }) room written (Ok bytes) tt P).0 (bytes, refl) in
    let S = M.0 in
    let R = M.1.published.rules in
    let W = write_gives S (record { net = h; lists = d }) room written (Ok bytes) P M.1 in
    let e : S.net ≡ h = ap (λ (T : Set). T.net) M.1.set in
    let file : encode S ≡ take bytes written =
    sym (ap (λ (x : ℕ). take x written) (same_length bytes (file_length S.net) W.answer ∙ sym (encode_long S)) ∙ W.file.is)
    in
    let F : PublishedFile S (take bytes written) = record { published = M.1.published; bytes = file } in
    let G = read_gives S (take bytes written) before after r Q
    (record { file = F; only = λ S' F'. only_file S S' (take bytes written) F F'; room = subst (λ (g : Network). LongLists g before) (sym e) room_enough })
    in (
      G.answer ∙ ap Ok e,
      subst (λ (g : Network). SameLists g after d) e (same_lists S R (take bytes written) before after r G d (M.1.set ∙ ap (λ (g : Network). cut_to g d) (sym e))),
    )
