-- The rows of a survey, as bytes.
use Rattle.std.specs.Prelude.{ℕ, Option, Some, None, List, [], ◌++◌, codes, decimal}
use Rattle.std.specs.List.{flat_map}
use Rattle.explore_words.specs.Rows.{joined, wanted_words}
use Rattle.irq_base.specs.declared.numbers.LineNo.{LineNo}
use Rattle.line_survey.specs.declared.survey.EntryRow.{EntryRow}
use Rattle.line_survey.specs.declared.survey.RestRow.{RestRow}
use Rattle.line_survey.specs.declared.survey.Survey.{Survey}
use Rattle.line_wanted.specs.declared.wanted.Wanted.TheVariants as wants
use Rattle.log_text.specs.EntryWords.{IsPrintable}
use Rattle.log_text.specs.Rows.{entry_text}

-- at which length the search was cut, if it was
abbrev pub cut_text : Option ℕ → List ℕ
cut_text None = []
cut_text (Some n) = codes " cut " ++ decimal n

-- the totals: the states, the moves, the states at rest
abbrev pub totals_text : LineNo → Survey → List ℕ
totals_text line v =
    codes "line " ++ decimal line.0 ++ codes " states " ++ decimal v.states ++ codes " moves "
    ++ decimal v.moves ++ codes " rest " ++ decimal v.rest ++ cut_text v.cut ++ codes "\n"

-- a way in which the line can be left: the length of a shortest log, the words that ask for it, and
-- in how many states the line is left so
abbrev pub rest_text : LineNo → RestRow → List ℕ
rest_text line r =
    decimal r.len ++ codes " " ++ joined (wanted_words line (wants.Rest r.left))
    ++ codes " states " ++ decimal r.states ++ codes "\n"

-- a row that can come: the length of a shortest log, and the row
abbrev pub came_text : LineNo → EntryRow → List ℕ
came_text line r = decimal r.len ++ codes " " ++ entry_text line r.entry

abbrev pub survey_text : LineNo → Survey → List ℕ
survey_text line v = totals_text line v ++ flat_map (rest_text line) v.rests.items
    ++ flat_map (came_text line) v.rows.items

-- the row's entry has a row
abbrev pub HasRow : EntryRow → Type 0
HasRow r = IsPrintable r.entry
