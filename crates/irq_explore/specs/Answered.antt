-- The answer to what is wanted of a board's line.
use Rattle.std.specs.Prelude.{◌≡◌, ℕ, Some, None, List, [], ◌++◌, codes, decimal, false}
use Rattle.std.specs.Prelude.{slice_get}
use Rattle.board_def.specs.Layout.{layout_of}
use Rattle.board_def.specs.LineOf.{line_of_row}
use Rattle.board_def.specs.Seen.{BoardSeen}
use Rattle.board_def.specs.declared.rows.LineRow.{LineRow}
use Rattle.domain_rules.specs.declared.layouts.Placement.{Placement}
use Rattle.domain_rules.specs.declared.layouts.Placement.TheVariants as placements
use Rattle.irq_base.specs.declared.numbers.LineNo.{LineNo}
use Rattle.line_survey.specs.declared.answer.Answer.{Answer}
use Rattle.line_survey.specs.declared.answer.Answer.TheVariants as answers
use Rattle.line_survey.specs.Answers.{IsAnswer}
use Rattle.line_wanted.specs.declared.left.Left.{Left}
use Rattle.line_wanted.specs.declared.left.Standing.TheVariants as standings
use Rattle.line_wanted.specs.declared.wanted.Wanted.{Wanted}
use Rattle.line_wanted.specs.declared.wanted.Wanted.TheVariants as wants
use Rattle.log_check.specs.Verdicts.{ChecksLog}
use Rattle.log_check.specs.declared.verdict.Verdict.TheVariants as verdicts
use Rattle.log_text.specs.Rows.{history_text}

-- as a line is left to which nothing has happened
abbrev pub untouched : Left
untouched = record {
  hung = None;
  standing = standings.Stopped;
  unserved = 0;
  stored = false;
  pending = false;
}

-- of a line that the layout refuses: it has the empty history alone, at rest from the beginning
abbrev pub AnsweredRefused : Wanted → Answer → Type 0
AnsweredRefused (wants.Row e) answer = answer ≡ answers.Never
AnsweredRefused (wants.Rest left) (answers.Found es) = (left ≡ untouched) × (es.items ≡ [])
AnsweredRefused (wants.Rest left) answers.Never = left ≡ untouched → ⊥
AnsweredRefused (wants.Rest left) (answers.NotWithin n) = ⊥

-- by a search through at most `states` states of the line
module _ (states : ℕ) where
  -- the answer for a line of the board, by whether it is mapped or refused
  abbrev pub AnsweredLine : BoardSeen → LineRow → Placement → Wanted → Answer → Type 0
  AnsweredLine b row (placements.Mapped virq path) wanted answer =
      IsAnswer states (line_of_row b row) wanted answer
  AnsweredLine b row (placements.Refused why) wanted answer = AnsweredRefused wanted answer

  -- the answer for the board's line at index i
  abbrev pub AnsweredAt : BoardSeen → ℕ → Wanted → Answer → Type 0
  AnsweredAt b i wanted answer =
      (row : LineRow) (placement : Placement) → slice_get b.lines i ≡ Some row
      → slice_get (layout_of b) i ≡ Some placement → AnsweredLine b row placement wanted answer

  -- the answer for the board's line with this number
  abbrev pub Answered : BoardSeen → LineNo → Wanted → Answer → Type 0
  Answered b line wanted answer =
      (i : ℕ) (row : LineRow) (placement : Placement) → slice_get b.lines i ≡ Some row
      → row.line ≡ line → slice_get (layout_of b) i ≡ Some placement
      → AnsweredLine b row placement wanted answer

-- what is printed: the rows of the log that was found; or that there is none; or that there is none
-- up to a length
abbrev pub answer_text : LineNo → Answer → List ℕ
answer_text line (answers.Found es) = history_text line es.items
answer_text line answers.Never = codes "never\n"
answer_text line (answers.NotWithin n) = codes "not within " ++ decimal n ++ codes "\n"

-- if a log was found: `check` says of its text, behind the board's, that it is lawful
abbrev pub IsLawful : BoardSeen → LineNo → Answer → Type 0
IsLawful b line (answers.Found es) = ChecksLog b (history_text line es.items) verdicts.Lawful
IsLawful b line answers.Never = Unit {0}
IsLawful b line (answers.NotWithin n) = Unit {0}
