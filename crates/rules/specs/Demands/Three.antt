-- Demand 3, all of its parts: those of `Delivery`, `Step`, `Run`, `Detections` and `Building`.
use Rattle.rules.specs.Entries.Build.{build_entry}
use Rattle.rules.specs.Entries.Step.{step_entry}
use Rattle.rules.specs.Entries.Run.{run_entry}
use Rattle.rules.specs.Entries.Report.{report_entry}
use Rattle.rules.specs.Sets.{Bytes}
use Rattle.rules.specs.Demands.Form.{AcceptsExactly, ThenGives, IsLength, IsTaken, IsEnded}
use Rattle.rules.specs.Demands.Delivery.{AlwaysBounded, Delivery, LostWithNode, MovesOnUsable, KindsAre}
use Rattle.rules.specs.Demands.Step.{StepMeets, StepGives}
use Rattle.rules.specs.Demands.Run.{RunMeets, RunGives, DeliveredByRun}
use Rattle.rules.specs.Demands.Detections.{ReportMeets, ReportGives, ReportFits, LinesAreRuns, Covered}
use Rattle.rules.specs.Demands.Building.{BuiltExactly, BuiltAccepted, RefusedExactly, BuildMeets, BuildGives, BuildAnswers, AcceptedGraphs, FewerIsolated}

-- demand 3
pub record Demand3 : Type 0 where
  pub bounded : AlwaysBounded
  pub delivery : Delivery
  pub lost_with_node : LostWithNode
  pub moves_on_usable : MovesOnUsable
  pub kinds_are : KindsAre
  pub step_accepts : AcceptsExactly step_entry IsTaken (λ i. Bytes i.file) StepMeets
  pub step_gives : ThenGives step_entry StepMeets StepGives
  pub run_accepts : AcceptsExactly run_entry IsEnded (λ i. Bytes i.file) RunMeets
  pub run_gives : ThenGives run_entry RunMeets RunGives
  pub delivered_by_run : DeliveredByRun
  pub report_accepts : AcceptsExactly report_entry IsLength Bytes ReportMeets
  pub report_gives : ThenGives report_entry ReportMeets ReportGives
  pub report_fits : ReportFits
  pub lines_are_runs : LinesAreRuns
  pub covered : Covered
  pub built_exactly : BuiltExactly
  pub built_accepted : BuiltAccepted
  pub build_accepts : AcceptsExactly build_entry IsLength (λ i. Bytes i.file) BuildMeets
  pub build_gives : ThenGives build_entry BuildMeets BuildGives
  pub build_answers : BuildAnswers
  pub refused_exactly : RefusedExactly
  pub accepted_graphs : AcceptedGraphs
  pub fewer_isolated : FewerIsolated
