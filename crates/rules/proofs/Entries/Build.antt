-- Demand 3 of what the entry `build` returns: what it accepts, what it then answers and leaves, and that n as the cap succeeds exactly where any one node
-- can be removed.
use Rattle.std.specs.Prelude.{Ok}
use mathlib.Core.Path.{◌≡◌, sym, ap, subst, ◌∙◌}
use mathlib.Core.Bool.{true}
use mathlib.Core.List.{List}
use Prim.Native.Nat.{ℕ, ◌≤◌}
use native.Mathlib.Omega.{arith}
use lib.ListN.{length}
use Rattle.rules.specs.declared.Network.{Network}
use Rattle.rules.specs.Verdict.{Accepted, Refused}
use Rattle.rules.specs.Basics.{laid}
use Rattle.rules.specs.Limits.{file_length}
use Rattle.rules.specs.File.{Set, encode, header_of, set_of}
use Rattle.rules.specs.Building.{fits, built, build_number}
use Rattle.rules.specs.Judgement.{judge, take_in, need_fit, need_room}
use Rattle.rules.specs.Entries.Build.{BuildInput, built_from, build_entry}
use Rattle.rules.specs.Sets.{Bytes, MeetsRules}
use Rattle.rules.specs.Demands.Form.{AcceptsExactly, ThenGives, IsLength, Front}
use Rattle.rules.specs.Demands.Building.{Removable, topologies_needed, with_topologies, BuildMeets, BuildGives, BuildAnswers}
use Rattle.rules.proofs.Ground.Choices.{refuse_ok, refuse_zero, then_ok, then_no, then_first, then_second}
use Rattle.rules.proofs.File.Accepted.{judged}
use Rattle.rules.proofs.File.FileOf.{file_judged, file_set, judged_file}
use Rattle.rules.proofs.File.TakenIn.{taken_file, graph_taken}
use Rattle.rules.proofs.Building.FirstFit.{succeeds, fitted_removable}
use Rattle.rules.proofs.Building.BuiltAccepted.{built_accepted}
use Rattle.rules.proofs.Building.BuiltBy.{built_by, built_topologies, built_net}
use Rattle.rules.proofs.Building.BuildNumber.{fits_needs, zero_exactly}
use Rattle.rules.proofs.Entries.Answering.{was_accepted, told, left, accepts, front_laid, length_values, length_is}
use Rattle.rules.proofs.Refusals.Needs.{room_ok, room_long, graph_needed, graph_given, cap_needed, cap_given}

-- what taking in refuses is told first
pub build_stops : (i : BuildInput) (lent : List ℕ) (number place : ℕ) → take_in i.file ≡ Refused number place → build_entry.verdict i lent ≡ Refused number place
unfolding build_entry
build_stops i lent number place e = then_no _ _ number place e

-- ---- 9 and 10

pub fit_needed : (G : Set) (cap : ℕ) → MeetsRules G → need_fit G cap ≡ Accepted → fits G cap ≡ true
unfolding need_fit
fit_needed G cap R e = (zero_exactly G cap R).0 (refuse_zero (build_number G cap) 0 e)

fit_given : (G : Set) (cap : ℕ) → MeetsRules G → fits G cap ≡ true → need_fit G cap ≡ Accepted
unfolding need_fit
fit_given G cap R e = sym (refuse_ok (build_number G cap) 0 ((zero_exactly G cap R).1 e))

-- ---- what it accepts

-- what the verdict asks of the graph that the bytes hold
pub record Asked (i : BuildInput) (lent : List ℕ) : Type 0 where
  pub file : judge i.file ≡ Accepted
  pub graph : (header_of i.file).k ≡ 0
  pub cap : (1 ≤ i.cap) × (i.cap ≤ 32)
  pub fit : fits (set_of i.file) i.cap ≡ true
  pub room : file_length (built (set_of i.file) i.cap).net ≤ length lent

pub asked : (i : BuildInput) (lent : List ℕ) → build_entry.verdict i lent ≡ Accepted → Asked i lent
unfolding build_entry built_from
asked i lent e =
    let graph = then_second _ _ e in
    let cap = then_second _ _ graph in
    let fit = then_second _ _ cap in
    record {
      file = taken_file i.file (then_first _ _ e);
      graph = graph_needed (header_of i.file) (then_first _ _ graph);
      cap = cap_needed i.cap (then_first _ _ cap);
      fit = fit_needed (set_of i.file) i.cap (judged i.file (taken_file i.file (then_first _ _ e))).rules (then_first _ _ fit);
      room = room_long (file_length (built (set_of i.file) i.cap).net) lent (then_second _ _ fit);
    }

own_set : (G : Set) (i : BuildInput) (lent : List ℕ) → BuildMeets G i lent → set_of i.file ≡ G
own_set G i lent M = file_set G i.file M.file

-- first fit succeeds
its_fit : (G : Set) (i : BuildInput) (lent : List ℕ) → BuildMeets G i lent → fits G i.cap ≡ true
its_fit G i lent M = (fits_needs G i.cap M.file.rules M.removable).1 M.few

held_meets : (i : BuildInput) (lent : List ℕ) → BuildMeets (set_of i.file) i lent → build_entry.verdict i lent ≡ Accepted
unfolding build_entry built_from set_of
held_meets i lent M =
    let G : Set = set_of i.file in
    let ok = its_fit G i lent M in
    then_ok _ _ (graph_taken i.file (file_judged G i.file M.file) M.graph)
    ∙ then_ok _ _ (graph_given (header_of i.file) M.graph)
    ∙ then_ok _ _ (cap_given i.cap M.cap.0 M.cap.1)
    ∙ then_ok _ _ (fit_given G i.cap M.file.rules ok)
    ∙ ap (λ (h : Network). need_room (file_length h) lent) (built_net G i.cap ok M.file.rules)
    ∙ room_ok (file_length (with_topologies G.net (topologies_needed G))) lent M.room

build_meets : (G : Set) (i : BuildInput) (lent : List ℕ) → BuildMeets G i lent → build_entry.verdict i lent ≡ Accepted
build_meets G i lent M = held_meets i lent (subst (λ (T : Set). BuildMeets T i lent) (sym (own_set G i lent M)) M)

pub build_accepts : AcceptsExactly build_entry IsLength (λ i. Bytes i.file) BuildMeets
unfolding build_entry set_of
build_accepts =
    accepts build_entry IsLength (λ i. Bytes i.file) BuildMeets length_values
    (λ i d r e. (file_length (built_from i).net, length_is r (file_length (built_from i).net) e)) build_asked build_meets
  where
    build_asked : (i : BuildInput) (lent : List ℕ) → Bytes i.file → build_entry.verdict i lent ≡ Accepted → (G : Set) × BuildMeets G i lent
    build_asked i lent small e =
        let a = asked i lent e in
        let G : Set = set_of i.file in
        let R = (judged i.file a.file).rules in
        let O = fitted_removable G i.cap a.fit in (
          G,
          record {
            file = judged_file i.file small a.file;
            graph = a.graph;
            cap = a.cap;
            removable = O;
            few = (fits_needs G i.cap R O).0 a.fit;
            room = subst (λ (h : Network). file_length h ≤ length lent) (built_net G i.cap a.fit R) a.room;
          },
        )

-- ---- what it then answers and leaves

pub build_gives : ThenGives build_entry BuildMeets BuildGives
unfolding build_entry built_from
build_gives G i before after r P M =
    let e = build_meets G i before M in
    let ok = its_fit G i before M in
    let R = M.file.rules in
    let same : built (set_of i.file) i.cap ≡ built G i.cap = ap (λ (T : Set). built T i.cap) (own_set G i before M) in
    let lent : after ≡ laid (encode (built G i.cap)) before = left build_entry i before after r P e ∙ ap (λ (T : Set). laid (encode T) before) same in
    record {
      set = built G i.cap;
      accepted = built_accepted G i.cap R M.cap.1 ok;
      built = built_by G i.cap ok R;
      topologies = built_topologies G i.cap ok R;
      answer = length_is r (file_length (built (set_of i.file) i.cap).net) (told build_entry i before after r P e) ∙ ap (λ (T : Set). Ok (file_length T.net)) same;
      file = subst (λ (x : List ℕ). Front (encode (built G i.cap)) before x) (sym lent) (front_laid (encode (built G i.cap)) before);
    }

pub build_answers : BuildAnswers
unfolding build_entry
build_answers G i room after r F graph cap enough P = (
  λ y.
      let v = length_values r y in
      let a = asked i room (was_accepted build_entry i room after r P v.0 v.1) in
      subst Removable (file_set G i.file F) (fitted_removable (set_of i.file) i.cap a.fit),
  λ O.
      let n = F.rules.limits.nodes in
      let few = (fits_needs G i.cap F.rules O).0 (succeeds G i.cap F.rules O (omega arith)) in
      let M : BuildMeets G i room = record { file = F; graph = graph; cap = (omega arith, omega arith); removable = O; few = few; room = enough } in
      let g = build_gives G i room after r P M in
      (file_length g.set.net, g.answer),
)
