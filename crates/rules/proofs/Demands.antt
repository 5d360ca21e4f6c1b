-- Demands 1 to 3, each statement with its theorem; then what 02 asks to be shown.
use mathlib.Core.Path.{refl}
use Rattle.rules.specs.File.{header_of}
use Rattle.rules.specs.Entries.Read.{read_entry}
use Rattle.rules.specs.Entries.Write.{write_entry}
use Rattle.rules.specs.Entries.Build.{build_entry}
use Rattle.rules.specs.Entries.Tables.{tables_entry}
use Rattle.rules.specs.Entries.Step.{step_of, step_entry}
use Rattle.rules.specs.Entries.Run.{run_of, run_entry}
use Rattle.rules.specs.Entries.Report.{report_entry}
use Rattle.rules.specs.Demands.One.{no_lengths, its_length, list_lengths, run_lengths, Demand1}
use Rattle.rules.specs.Demands.Two.{Demand2}
use Rattle.rules.specs.Demands.Detections.{ExtrasAre}
use Rattle.rules.specs.Demands.Three.{Demand3}
use Rattle.rules.specs.Demands.TakingIn.{BrokenRefused}
use Rattle.rules.specs.Refusals.{RefusalsSaySo}
use Rattle.rules.proofs.File.LaidOut.{files_laid_out}
use Rattle.rules.proofs.File.Accepted.{accepted_exactly, one_set, longest_file}
use Rattle.rules.proofs.File.TakenIn.{taken_in_exactly, accepted_published}
use Rattle.rules.proofs.File.RoundTrip.{same_bytes, reads_back}
use Rattle.rules.proofs.Isolation.Sound.{fewer_isolated}
use Rattle.rules.proofs.Isolation.Degree.{links_enough}
use Rattle.rules.proofs.Isolation.Removal.{accepted_removable, accepted_connected}
use Rattle.rules.proofs.Distance.Reach.{least_distances}
use Rattle.rules.proofs.Distance.NextHops.{least_next_hops, nearest_alternates}
use Rattle.rules.proofs.Forwarding.Runs.{moves_on_usable, always_bounded}
use Rattle.rules.proofs.Forwarding.Delivery.{delivery, lost_with_node}
use Rattle.rules.proofs.Forwarding.ChangeKinds.{kinds}
use Rattle.rules.proofs.Building.FirstFit.{built_exactly}
use Rattle.rules.proofs.Building.BuiltAccepted.{built_accepted}
use Rattle.rules.proofs.Building.BuildNumber.{nine_exactly, ten_exactly}
use Rattle.rules.proofs.Report.Lines.{lines_are_runs}
use Rattle.rules.proofs.Report.Coverage.{coverage}
use Rattle.rules.proofs.Report.Extras.{extras_are}
use Rattle.rules.proofs.Entries.Determined.{takes_every_input, read_one, length_one, step_one, run_one, length_says, read_says, step_says, run_says}
use Rattle.rules.proofs.Entries.Read.{read_accepts, read_gives}
use Rattle.rules.proofs.Entries.Write.{write_accepts, write_gives}
use Rattle.rules.proofs.Entries.Build.{build_accepts, build_gives, build_answers}
use Rattle.rules.proofs.Entries.Tables.{tables_accepts, tables_gives}
use Rattle.rules.proofs.Entries.Step.{step_accepts, step_gives}
use Rattle.rules.proofs.Entries.Run.{run_accepts, run_gives, delivered_by_run}
use Rattle.rules.proofs.Entries.Report.{report_accepts, report_gives, report_fits}
use Rattle.rules.proofs.Entries.LengthsKept.{read_kept, write_kept, build_kept, tables_kept, report_kept, run_kept}
use Rattle.rules.proofs.Refusals.Refusing.{refusals_say_so}
use Rattle.rules.proofs.Refusals.Broken.{broken_refused}
use Rattle.rules.proofs.Refusals.Numbered.{read_numbered, write_numbered, build_numbered, tables_numbered, step_numbered, run_numbered, report_numbered}

pub demand_1 : Demand1
unfolding read_entry write_entry build_entry tables_entry step_entry step_of run_entry report_entry
demand_1 =
    record {
      read = takes_every_input read_entry list_lengths (λ v s d. read_says v (header_of s)) read_one read_kept read_numbered;
      write = takes_every_input write_entry its_length (λ v i d. length_says v _) length_one write_kept write_numbered;
      build = takes_every_input build_entry its_length (λ v i d. length_says v _) length_one build_kept build_numbered;
      tables = takes_every_input tables_entry its_length (λ v s d. length_says v _) length_one tables_kept tables_numbered;
      step = takes_every_input step_entry no_lengths (λ v i d. step_says v _) step_one (λ i d e. refl) step_numbered;
      run = takes_every_input run_entry run_lengths (λ v i d. run_says v (run_of i)) run_one run_kept run_numbered;
      report = takes_every_input report_entry its_length (λ v s d. length_says v _) length_one report_kept report_numbered;
    }

-- what a refusal's number and place say is so
pub demand_1_refusals : RefusalsSaySo
demand_1_refusals = refusals_say_so

pub demand_2 : Demand2
demand_2 =
    record {
      files_laid_out = files_laid_out;
      read_accepts = read_accepts;
      read_gives = read_gives;
      write_accepts = write_accepts;
      write_gives = write_gives;
      tables_accepts = tables_accepts;
      tables_gives = tables_gives;
      taken_in_exactly = taken_in_exactly;
      accepted_published = accepted_published;
      accepted_exactly = accepted_exactly;
      one_set = one_set;
      longest_file = longest_file;
      same_bytes = same_bytes;
      reads_back = reads_back;
      least_distances = least_distances;
      least_next_hops = least_next_hops;
      nearest_alternates = nearest_alternates;
    }

pub demand_3 : Demand3
demand_3 =
    record {
      bounded = always_bounded;
      delivery = delivery;
      lost_with_node = lost_with_node;
      moves_on_usable = moves_on_usable;
      kinds_are = λ S A on p q kind lu lt li. kinds S A on p (record { node = lu; end = lt; known = li }) q kind;
      step_accepts = step_accepts;
      step_gives = step_gives;
      run_accepts = run_accepts;
      run_gives = run_gives;
      delivered_by_run = delivered_by_run;
      report_accepts = report_accepts;
      report_gives = report_gives;
      report_fits = report_fits;
      lines_are_runs = lines_are_runs;
      covered = coverage;
      built_exactly = built_exactly;
      built_accepted = built_accepted;
      build_accepts = build_accepts;
      build_gives = build_gives;
      build_answers = build_answers;
      refused_exactly = λ G cap R. (nine_exactly G cap R, ten_exactly G cap R);
      accepted_graphs = λ S A. record { connected = accepted_connected S A; removable = accepted_removable S A; links = links_enough S A };
      fewer_isolated = fewer_isolated;
    }

-- 02, a: the extra hops of the report's lines
pub request_a : ExtrasAre
request_a = extras_are

-- 02, h: no entry but the step accepts a set that breaks 7 or 8
pub request_h : BrokenRefused
request_h = broken_refused
