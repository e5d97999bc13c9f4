-- What the exploring of a board says when a play is asked for that comes to a log, by how it ended.
use Rattle.std.specs.Prelude.{◌≡◌, ℕ, Bool, true, false, Option, Some, None, List, []}
use Rattle.std.specs.Prelude.{Result, Ok, Err}
use Rattle.board_def.specs.Seen.{BoardSeen}
use Rattle.explore_picks.specs.Printed.{HeardSome, PrintsPlayTo}
use Rattle.explore_picks.specs.declared.failing.ExploreFailed.{ExploreFailed}
use Rattle.explore_picks.specs.declared.failing.ExploreFailed.TheVariants as fails
use Rattle.explore_picks.specs.Made.{IsAlone}
use Rattle.irq_base.specs.declared.devices.Run.{Run}
use Rattle.irq_base.specs.declared.entries.Entry.{Entry}
use Rattle.irq_base.specs.declared.numbers.LineNo.{LineNo}
use Rattle.irq_io.specs.Whole.{WritesAll}
use Rattle.irq_io.specs.declared.whole.WriteFailed.{WriteFailed}
use Rattle.line_survey.specs.declared.answer.Answer.{Answer}
use Rattle.line_survey.specs.declared.answer.Answer.TheVariants as answers
use Rattle.line_wanted.specs.declared.wanted.Wanted.{Wanted}
use Rattle.irq_explore.specs.Answered.{Answered, answer_text}
use Rattle.irq_explore.specs.Explored.{found_by}
use Rattle.irq_explore.specs.Present.{has_all}
use Rattle.irq_explore.specs.declared.exploring.Explored.{Explored}
use Rattle.irq_explore.specs.declared.exploring.Explored.TheVariants as finds

-- What is written of an answer, and which runs are heard. Of a log that was found a play of the
-- board whose part on the line it is, and the runs that it ends; else the answer's text, and none.
abbrev pub WritesPlay : BoardSeen → LineNo → (List Run → Type 0) → Option (List ℕ)
    → Option (List ℕ) → Result Unit WriteFailed → Answer → Type 0
WritesPlay b line heard before now write (answers.Found es) =
    PrintsPlayTo b line es.items heard before now write
WritesPlay b line heard before now write answers.Never =
    WritesAll before now (answer_text line answers.Never) write × heard []
WritesPlay b line heard before now write (answers.NotWithin n) =
    WritesAll before now (answer_text line (answers.NotWithin n)) write × heard []

-- this is the answer, and the output gained the play, or that there is none
pub record SaysPlay (states : ℕ) (b : BoardSeen) (line : LineNo) (wanted : Wanted)
    (heard : List Run → Type 0) (before now : Option (List ℕ))
    (write : Result Unit WriteFailed) (answer : Answer) : Type 0 where
  pub there : has_all b line wanted ≡ true
  pub answered : Answered states b line wanted answer
  pub written : WritesPlay b line heard before now write answer

-- the log that was found
abbrev pub log_of : Answer → Option (List Entry)
log_of (answers.Found es) = Some es.items
log_of answers.Never = None
log_of (answers.NotWithin n) = None

-- a log as wanted was found; another line takes part, or there is no room for the log
pub record FindsLog (states : ℕ) (b : BoardSeen) (line : LineNo) (wanted : Wanted) : Type 0 where
  pub there : has_all b line wanted ≡ true
  pub answer : Answer
  pub answered : Answered states b line wanted answer
  pub entries : List Entry
  pub found : log_of answer ≡ Some entries
  pub not_alone : IsAlone b line entries → ⊥

-- What is wanted of a line was looked for, through its states up to a limit, and of a log that
-- was found a play. It is printed, or after a fault of the output a beginning of it; or no play was
-- found; or the board lacks what the row names; or memory was refused. Where no play is printed,
-- the runs are heard that a play ended which was tried, or none.
abbrev pub ExploresPlay : ℕ → BoardSeen → LineNo → Wanted → (List Run → Type 0)
    → Option (List ℕ) → Option (List ℕ) → Result Explored ExploreFailed → Type 0
ExploresPlay states b line wanted heard before now (Err fails.NotThere) =
    (has_all b line wanted ≡ false) × heard []
ExploresPlay states b line wanted heard before now (Err fails.NoMemory) = HeardSome b heard
ExploresPlay states b line wanted heard before now (Err (fails.Write failed)) =
    (answer : Answer) × SaysPlay states b line wanted heard before now (Err failed) answer
ExploresPlay states b line wanted heard before now (Ok finds.NoPlay) =
    FindsLog states b line wanted × HeardSome b heard
ExploresPlay states b line wanted heard before now (Ok found) =
    (answer : Answer) × (found ≡ found_by line answer)
    × SaysPlay states b line wanted heard before now (Ok tt) answer

-- what was found of a log, by whether a play was
abbrev pub found_by_play : Bool → Explored
found_by_play true = finds.Done
found_by_play false = finds.NoPlay
