-- What the exploring of a board says, by how it ended.
use Rattle.std.specs.Prelude.{◌≡◌, ℕ, Bool, true, false, Option, Some, None, List, Result, Ok, Err}
use Rattle.board_def.specs.Seen.{BoardSeen}
use Rattle.board_stated.specs.OfVersion.{IsOfItsVersion}
use Rattle.explore_picks.specs.declared.failing.ExploreFailed.{ExploreFailed}
use Rattle.explore_picks.specs.declared.failing.ExploreFailed.TheVariants as fails
use Rattle.irq_base.specs.declared.numbers.LineNo.{LineNo}
use Rattle.irq_io.specs.Whole.{WritesAll}
use Rattle.irq_io.specs.declared.whole.WriteFailed.{WriteFailed}
use Rattle.line_survey.specs.declared.answer.Answer.{Answer}
use Rattle.line_survey.specs.declared.answer.Answer.TheVariants as answers
use Rattle.line_wanted.specs.declared.wanted.Wanted.{Wanted}
use Rattle.irq_explore.specs.Answered.{Answered, IsLawful, answer_text}
use Rattle.irq_explore.specs.Present.{has_all}
use Rattle.irq_explore.specs.Surveyed.{AreSurveys, first_cut, has_asked, surveys_text}
use Rattle.irq_explore.specs.declared.surveying.LineSurvey.{LineSurvey}
use Rattle.irq_explore.specs.declared.exploring.Explored.{Explored}
use Rattle.irq_explore.specs.declared.exploring.Explored.TheVariants as finds

-- what was found with this answer: a log; or that there is none; or that there is none up to a
-- length, and the line has further states
abbrev pub found_by : LineNo → Answer → Explored
found_by line (answers.Found es) = finds.Done
found_by line answers.Never = finds.Never
found_by line (answers.NotWithin n) = finds.Cut line

-- this is the answer, a log in it is lawful if the board has what its version has, and the output
-- gained its text
pub record SaysAnswer (states : ℕ) (b : BoardSeen) (line : LineNo) (wanted : Wanted)
    (before now : Option (List ℕ)) (write : Result Unit WriteFailed) (answer : Answer)
    : Type 0 where
  pub there : has_all b line wanted ≡ true
  pub answered : Answered states b line wanted answer
  pub lawful : IsOfItsVersion b → IsLawful b line answer
  pub written : WritesAll before now (answer_text line answer) write

-- What is wanted of a line was looked for, through its states up to a limit. The answer is
-- printed, or after a fault of the output a beginning of it; or the board lacks what the row names;
-- or memory was refused.
abbrev pub ExploresRow : ℕ → BoardSeen → LineNo → Wanted → Option (List ℕ) → Option (List ℕ)
    → Result Explored ExploreFailed → Type 0
ExploresRow states b line wanted before now (Ok found) =
    (answer : Answer) × (found ≡ found_by line answer)
    × SaysAnswer states b line wanted before now (Ok tt) answer
ExploresRow states b line wanted before now (Err fails.NotThere) = has_all b line wanted ≡ false
ExploresRow states b line wanted before now (Err fails.NoMemory) = Unit {0}
ExploresRow states b line wanted before now (Err (fails.Write failed)) =
    (answer : Answer) × SaysAnswer states b line wanted before now (Err failed) answer

-- what was found with the surveys: no search was cut; or the first that was cut is this line's
abbrev pub found_in : Option LineNo → Explored
found_in None = finds.Done
found_in (Some line) = finds.Cut line

-- These are the surveys of the lines that are asked for, each by a search through at most `states`
-- states, and the output gained their text behind the layout.
pub record SaysSurveys (b : BoardSeen) (states : ℕ) (asked : Option LineNo)
    (before now : Option (List ℕ)) (write : Result Unit WriteFailed) (said : List LineSurvey)
    : Type 0 where
  pub there : has_asked b asked ≡ true
  pub surveys : AreSurveys b states asked said
  pub written : WritesAll before now (surveys_text b said) write

-- The lines were surveyed that are asked for. The surveys are printed, or after a fault of the
-- output a beginning of them; or the board lacks the line; or memory was refused.
abbrev pub ExploresLines : BoardSeen → ℕ → Option LineNo → Option (List ℕ) → Option (List ℕ)
    → Result Explored ExploreFailed → Type 0
ExploresLines b states asked before now (Ok found) =
    (surveys : List LineSurvey) × (found ≡ found_in (first_cut surveys))
    × SaysSurveys b states asked before now (Ok tt) surveys
ExploresLines b states asked before now (Err fails.NotThere) = has_asked b asked ≡ false
ExploresLines b states asked before now (Err fails.NoMemory) = Unit {0}
ExploresLines b states asked before now (Err (fails.Write failed)) =
    (surveys : List LineSurvey) × SaysSurveys b states asked before now (Err failed) surveys

abbrev pub is_write_fault : Result Explored ExploreFailed → Bool
is_write_fault (Err (fails.Write failed)) = true
is_write_fault _ = false

-- all is printed
abbrev pub is_printed : Result Explored ExploreFailed → Bool
is_printed (Ok finds.Done) = true
is_printed (Ok finds.Never) = true
is_printed (Ok (finds.Cut line)) = true
is_printed (Ok finds.NoPlay) = false
is_printed (Err failed) = false

-- something may have been printed
abbrev pub is_printing : Result Explored ExploreFailed → Bool
is_printing (Err (fails.Write failed)) = true
is_printing end = is_printed end
