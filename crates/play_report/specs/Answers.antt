-- What is answered and printed of a play, by how it ended.
use Rattle.std.specs.Prelude.{◌≡◌, ℕ, IsOk, Option, Result, Ok, Err, List, []}
use Rattle.irq_base.specs.declared.devices.Run.{Run}
use Rattle.irq_base.specs.declared.reporting.LineReport.{LineReport}
use Rattle.irq_io.specs.Whole.{WritesAll}
use Rattle.irq_io.specs.declared.whole.WriteFailed.{WriteFailed}
use Rattle.irq_line.specs.declared.answers.StepRefused.{StepRefused}
use Rattle.irq_line.specs.declared.answers.StepRefused.TheVariants as refusals
use Rattle.board_core.specs.declared.ends.PlayEnd.{PlayEnd}
use Rattle.play_report.specs.declared.failing.PlayFailed.{PlayFailed}
use Rattle.play_report.specs.declared.failing.PlayFailed.TheVariants as fails

-- What the printing of a play comes to that ended so. A play that came to its end is printed: all
-- of the text, or after a fault a beginning of it. Nothing is printed of another.
abbrev pub Prints : List ℕ → Result PlayEnd StepRefused → Option (List ℕ) → Option (List ℕ)
    → Result PlayEnd PlayFailed → Type 0
Prints text ended before now (Ok end) = (ended ≡ Ok end) × WritesAll before now text (Ok tt)
Prints text ended before now (Err (fails.Write failed)) =
    IsOk ended × WritesAll before now text (Err failed)
Prints text ended before now (Err (fails.Step refused)) = ended ≡ Err refused
Prints text ended before now (Err fails.NoMemory) = ⊥

-- `text` is what is printed of the play, and `HandsOut` what the reports hand out of it, by how it
-- ended
module _ (text : List ℕ) (HandsOut : Result PlayEnd StepRefused → List LineReport → Type 0) where
  -- The play came to this end, and the reports hand it out. It was printed: all of it, or after a
  -- fault a beginning of it.
  pub record IsPrinted (play_end : PlayEnd) (reports : List LineReport)
      (before now : Option (List ℕ)) (end : Result Unit WriteFailed) : Type 0 where
    pub handed_out : HandsOut (Ok play_end) reports
    pub prints : WritesAll before now text end

  -- Nothing is printed unless the play came to its end. If a step was refused, the board was played
  -- up to it. A play doesn't fail by memory that was refused for anything else.
  abbrev pub Answers : List LineReport → Option (List ℕ) → Option (List ℕ)
      → Result PlayEnd PlayFailed → Type 0
  Answers reports before now (Ok end) = IsPrinted end reports before now (Ok tt)
  Answers reports before now (Err (fails.Write failed)) =
      (end : PlayEnd) × IsPrinted end reports before now (Err failed)
  Answers reports before now (Err (fails.Step refused)) = HandsOut (Err refused) reports
  Answers reports before now (Err fails.NoMemory) = ⊥

-- What is answered of a play with some log: `text` and `HandsOut` are by the log, and so is `runs`,
-- the runs of handlers that its moves ended, the newest first. For these handlers were called, in
-- their order, and for no other: `heard` says of runs that this is so of them. If memory was
-- refused for anything but a step, nothing was played.
module _ {E : Type 0} (text : List E → List ℕ)
    (HandsOut : List E → Result PlayEnd StepRefused → List LineReport → Type 0)
    (runs : List E → List Run) (heard : List Run → Type 0) where
  abbrev pub AnswersOfSome : List LineReport → Option (List ℕ) → Option (List ℕ)
      → Result PlayEnd PlayFailed → Type 0
  AnswersOfSome reports before now (Err fails.NoMemory) = (reports ≡ []) × heard []
  AnswersOfSome reports before now end =
      (log : List E) × Answers (text log) (HandsOut log) reports before now end × heard (runs log)

-- what the reports hand out, and of a step that was refused memory which it was, as `Step` says
module _ (HandsOut : Result PlayEnd StepRefused → List LineReport → Type 0)
    (Step : List LineReport → Type 0) where
  abbrev pub HandsOutStep : Result PlayEnd StepRefused → List LineReport → Type 0
  HandsOutStep (Err refusals.NoMemory) reports =
      HandsOut (Err refusals.NoMemory) reports × Step reports
  HandsOutStep ended reports = HandsOut ended reports

-- If a step was refused memory, it is told which step it was: `Cut` is what reports hand out of a
-- log up to it, `Step` what they tell of it.
module _ {E : Type 0} (Cut Step : List E → List LineReport → Type 0) where
  abbrev pub TellsOfSome : List LineReport → Result PlayEnd PlayFailed → Type 0
  TellsOfSome reports (Err (fails.Step refusals.NoMemory)) =
      (log : List E) × Cut log reports × Step log reports
  TellsOfSome reports end = Unit {0}
