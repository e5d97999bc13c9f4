-- Which answers can be printed.
use Rattle.std.specs.Prelude.{All}
use Rattle.line_survey.specs.declared.answer.Answer.{Answer}
use Rattle.line_survey.specs.declared.answer.Answer.TheVariants as answers
use Rattle.log_text.specs.EntryWords.{IsPrintable}
use Rattle.log_text.specs.Formed.{HasSmallNumbers}

-- each entry that was found has a row
abbrev pub IsPrintableAnswer : Answer → Type 0
IsPrintableAnswer (answers.Found es) = All IsPrintable es.items
IsPrintableAnswer answers.Never = Unit {0}
IsPrintableAnswer (answers.NotWithin n) = Unit {0}

-- each number of its rows is small
abbrev pub HasSmallAnswer : Answer → Type 0
HasSmallAnswer (answers.Found es) = All HasSmallNumbers es.items
HasSmallAnswer answers.Never = Unit {0}
HasSmallAnswer (answers.NotWithin n) = Unit {0}
