-- What is said of the lines of a board that are surveyed.
use Rattle.std.specs.Prelude.{◌≡◌, ℕ, Bool, true, if◌then◌else◌, Option, Some, None}
use Rattle.std.specs.Prelude.{List, [], ◌∷◌, ◌++◌, All, is_some}
use Rattle.std.specs.List.{AllZip, filter, flat_map}
use Rattle.board_def.specs.Rules.{has_line}
use Rattle.board_def.specs.Seen.{BoardSeen}
use Rattle.board_play.specs.Lines.{defs_of}
use Rattle.irq_base.specs.declared.lines.LineDef.{LineDef}
use Rattle.irq_base.specs.declared.numbers.LineNo.{LineNo}
use Rattle.irq_model.specs.Kinds.{same_line}
use Rattle.line_survey.specs.Seen.{LineSearchSeen}
use Rattle.line_survey.specs.Surveyed.{IsSurvey}
use Rattle.line_survey.specs.declared.survey.Survey.{Survey}
use Rattle.log_text.specs.LayoutRows.{layout_rows}
use Rattle.irq_explore.specs.SurveyTexts.{HasRow, survey_text}
use Rattle.line_survey.specs.Searched.{IsSearchOf}
use Rattle.irq_explore.specs.declared.surveying.LineSurvey.{LineSurvey}

-- the survey is of a search through at most `most` states of the line
abbrev pub Surveys : ℕ → LineDef → Survey → Type 0
Surveys most def v = (search : LineSearchSeen) × IsSearchOf most def search × IsSurvey search v

-- the survey of the line, with its number
abbrev pub IsSurveyOf : ℕ → LineDef → LineSurvey → Type 0
IsSurveyOf most def s = (s.line ≡ def.line) × Surveys most def s.survey

-- the line is asked for: each is, or the one with this number
abbrev pub is_asked : Option LineNo → LineDef → Bool
is_asked None def = true
is_asked (Some line) def = same_line def.line line

-- a survey for each line that takes part and is asked for, in the board's order
abbrev pub AreSurveys : BoardSeen → ℕ → Option LineNo → List LineSurvey → Type 0
AreSurveys b most asked surveys =
    AllZip (IsSurveyOf most) (filter (is_asked asked) (defs_of b)) surveys

-- the board has the line that is asked for
abbrev pub has_asked : BoardSeen → Option LineNo → Bool
has_asked b None = true
has_asked b (Some line) = has_line b.lines line

-- the layout, and the rows of the surveys
abbrev pub line_text : LineSurvey → List ℕ
line_text s = survey_text s.line s.survey

abbrev pub surveys_text : BoardSeen → List LineSurvey → List ℕ
surveys_text b surveys = layout_rows b ++ flat_map line_text surveys

-- the first line whose search was cut
abbrev pub first_cut : List LineSurvey → Option LineNo
first_cut [] = None
first_cut (s ∷ ss) = if is_some s.survey.cut then Some s.line else first_cut ss

-- each row of the survey can be printed
abbrev pub HasRows : LineSurvey → Type 0
HasRows s = All HasRow s.survey.rows.items
