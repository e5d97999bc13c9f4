-- What is answered of a run that has ended.
use Rattle.std.proofs.Common.{ℕ, Bool, Option, Result, Ok, Err, List, refl}
use Rattle.irq_base.specs.declared.devices.Answer.{Answer}
use Rattle.irq_base.specs.declared.devices.Run.{Run}
use Rattle.irq_base.specs.declared.entries.Entry.{Entry}
use Rattle.irq_base.specs.declared.reporting.LineReport.{LineReport}
use Rattle.board_core.specs.declared.ends.PlayEnd.{PlayEnd}
use Rattle.board_def.specs.Seen.{BoardSeen}
use Rattle.board_report.specs.Headline.{Histories, histories_of}
use Rattle.play_report.proofs.Answered.{answers_as, without_step}
use Rattle.play_report.specs.Answers.{Answers, HandsOutStep}
use Rattle.play_report.specs.declared.failing.PlayFailed.{PlayFailed}
use Rattle.play_report.specs.declared.failing.PlayFailed.TheVariants as fails
use Rattle.irq_run.specs.Given.{EachGiven, lines_with}
use Rattle.irq_run.specs.Ran.{HandsOut, RefusedStep, ReportsRun, RunsBoard}
use Rattle.irq_run.specs.Report.{run_text}

module _ (may_want : Option Entry → Type 0) (b : BoardSeen) (summary : Bool) (entries : Histories) (reports : List LineReport)
    (before now : Option (List ℕ)) where
  plain : (end : Result PlayEnd PlayFailed) → ReportsRun may_want b summary entries reports before now end
      → Answers (run_text b summary (histories_of b entries)) (HandsOut b entries) reports before now end
  plain end h = answers_as (run_text b summary (histories_of b entries)) (run_text b summary (histories_of b entries))
      (HandsOutStep (HandsOut b entries) (RefusedStep may_want b entries)) (HandsOut b entries) refl
      (λ ended rs. without_step (HandsOut b entries) (RefusedStep may_want b entries) ended rs) reports before now end h

  -- a run with these histories is one with some
  pub runs_board : (gave : Run → Answer → Type 0) → EachGiven gave (lines_with b entries) → (end : Result PlayEnd PlayFailed)
      → ReportsRun may_want b summary entries reports before now end → RunsBoard gave b summary reports before now end
  runs_board gave given (Ok end) h = record { entries = entries; given = given; reports = plain (Ok end) h }
  runs_board gave given (Err (fails.Write failed)) h = record { entries = entries; given = given; reports = plain (Err (fails.Write failed)) h }
  runs_board gave given (Err (fails.Step refused)) h = record { entries = entries; given = given; reports = plain (Err (fails.Step refused)) h }
  runs_board gave given (Err fails.NoMemory) h = absurd h
