-- What is told of a system in which its board was played.
use Rattle.std.proofs.Common.{◌≡◌, ℕ, ◌++◌, true, Option, Result, Ok, Err, List, map, sym, subst}
use Rattle.irq_base.specs.declared.entries.Entry.{Entry}
use Rattle.irq_base.specs.declared.reporting.LineReport.{LineReport}
use Rattle.irq_line.specs.declared.answers.StepRefused.{StepRefused}
use Rattle.irq_io.specs.Whole.{WritesAll}
use Rattle.board_core.specs.Seen.{SystemSeen}
use Rattle.board_core.specs.declared.ends.PlayEnd.{PlayEnd}
use Rattle.board_core.specs.declared.ends.PlayEnd.TheVariants as ends
use Rattle.board_def.specs.Seen.{BoardSeen}
use Rattle.board_report.specs.Headline.{LineHistory, told_by}
use Rattle.board_report.specs.Totals.{totals_text}
use Rattle.log_text.specs.LayoutRows.{layout_rows}
use Rattle.irq_play.specs.Headline.{CutShort, RefusedStep, histories_of}
use Rattle.irq_play.specs.Played.{HandsOutSystem, TellsStep}
use Rattle.irq_play.specs.Report.{report_text}
use Rattle.play_report.proofs.Answered as answered
use Rattle.play_report.proofs.Answered.{printed}
use Rattle.play_report.specs.Answers.{Answers, Prints}
use Rattle.play_report.specs.declared.failing.PlayFailed.{PlayFailed}
use Rattle.play_report.specs.declared.failing.PlayFailed.TheVariants as fails

module _ (may_want : Option Entry → Type 0) (b : BoardSeen) (s : SystemSeen) (of : s.board ≡ b) (reports : List LineReport)
    (before now : Option (List ℕ)) (end : Result PlayEnd PlayFailed) where
  pub tells_step : (text : List ℕ) → Answers text (HandsOutSystem may_want s) reports before now end → TellsStep may_want b reports end
  tells_step text told =
      subst (λ (c : BoardSeen). TellsStep may_want c reports end) of
      (answered.tells_step (CutShort s.board) (RefusedStep may_want s.board) text (HandsOutSystem may_want s) s.log (λ rs h. h) reports before now end told)

-- a summary that was printed of the reports, if the play came to its end
module _ (may_want : Option Entry → Type 0) (b : BoardSeen) (s : SystemSeen) (of : s.board ≡ b) (reports : List LineReport)
    (before now : Option (List ℕ)) where
  -- the histories that are handed out, by how the play ended
  told_histories : (e : PlayEnd) → HandsOutSystem may_want s (Ok e) reports → map told_by reports ≡ histories_of s.board s.log
  told_histories ends.Settled h = h.handed_out
  told_histories (ends.Hung line actor) h = h.handed_out

  of_told : (end : Result PlayEnd PlayFailed)
      → Answers (layout_rows s.board ++ totals_text (map told_by reports)) (HandsOutSystem may_want s) reports before now end
      → Answers (report_text s.board true s.log) (HandsOutSystem may_want s) reports before now end
  of_told (Ok e) h = record {
    handed_out = h.handed_out;
    prints = subst (λ (hs : List LineHistory). WritesAll before now (layout_rows s.board ++ totals_text hs) (Ok tt)) (told_histories e h.handed_out) h.prints;
  }
  of_told (Err (fails.Write failed)) h = (
    h.0,
    record {
      handed_out = h.1.handed_out;
      prints = subst (λ (hs : List LineHistory). WritesAll before now (layout_rows s.board ++ totals_text hs) (Err failed))
          (told_histories h.0 h.1.handed_out) h.1.prints;
    },
  )
  of_told (Err (fails.Step refused)) h = h
  of_told (Err fails.NoMemory) h = h

  pub summed : (ended : Result PlayEnd StepRefused) (end : Result PlayEnd PlayFailed)
      → Prints (layout_rows b ++ totals_text (map told_by reports)) ended before now end → HandsOutSystem may_want s ended reports
      → Answers (report_text b true s.log) (HandsOutSystem may_want s) reports before now end
  summed ended end p h =
      subst (λ (c : BoardSeen). Answers (report_text c true s.log) (HandsOutSystem may_want s) reports before now end) of
      (of_told end
      (printed (layout_rows s.board ++ totals_text (map told_by reports)) (HandsOutSystem may_want s) ended reports before now end
      (subst (λ (c : BoardSeen). Prints (layout_rows c ++ totals_text (map told_by reports)) ended before now end) (sym of) p) h))
