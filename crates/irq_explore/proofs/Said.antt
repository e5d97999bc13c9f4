-- What is said, and who and what it is said of.
use Rattle.std.proofs.Common.{◌≡◌, ℕ, Bool, true, false, Option, Some, None, Result, List, sym, ◌∙◌}
use Rattle.std.specs.Prelude.{MatchOption, is_some}
use Rattle.std.proofs.lemmas.Bool.{and_from, and_parts}
use Rattle.board_def.specs.Rules.{has_line}
use Rattle.board_def.specs.Seen.{BoardSeen}
use Rattle.irq_base.specs.declared.numbers.LineNo.{LineNo}
use Rattle.irq_io.specs.Whole.{WritesAll}
use Rattle.irq_io.specs.declared.whole.WriteFailed.{WriteFailed}
use Rattle.line_survey.specs.declared.answer.Answer.{Answer}
use Rattle.line_wanted.specs.declared.wanted.Wanted.{Wanted}
use Rattle.log_read.proofs.Telling.{present}
use Rattle.log_read.specs.Adding.{IsPlaceOf}
use Rattle.log_text.specs.Formed.{IsSmall}
use Rattle.irq_explore.proofs.Lawful.{lawful}
use Rattle.irq_explore.specs.Answered.{Answered, answer_text}
use Rattle.irq_explore.specs.Explored.{SaysAnswer}
use Rattle.irq_explore.specs.Present.{has_all, has_named}
use Rattle.irq_explore.specs.Printing.{HasSmallAnswer, IsPrintableAnswer}

module _ (states : ℕ) (b : BoardSeen) (line : LineNo) (wanted : Wanted) (before now : Option (List ℕ)) where
  pub says : (answer : Answer) (end : Result Unit WriteFailed) → has_all b line wanted ≡ true → Answered states b line wanted answer → IsPrintableAnswer answer
      → IsSmall line.0 → HasSmallAnswer answer → WritesAll before now (answer_text line answer) end → SaysAnswer states b line wanted before now end answer
  says answer end there answered rows number small written = record {
    there = there;
    answered = answered;
    lawful = lawful states b line wanted answer answered (and_parts (has_line b.lines line) (has_named b line wanted) there).0 number rows small;
    written = written;
  }

-- the board has all
pub all_there : (b : BoardSeen) (line : LineNo) (wanted : Wanted) (place : ℕ) (named : Bool) → IsPlaceOf b.lines line place
    → named ≡ has_named b line wanted → named ≡ true → has_all b line wanted ≡ true
all_there b line wanted place named at is it =
    and_from (has_line b.lines line) (has_named b line wanted) (present b.lines line place at) (sym is ∙ it)

-- the board has the line, or not
pub is_there : (b : BoardSeen) (line : LineNo) (place : Option ℕ) → MatchOption place (has_line b.lines line ≡ false) (λ at. IsPlaceOf b.lines line at)
    → is_some place ≡ has_line b.lines line
is_there b line None none = sym none
is_there b line (Some place) at = sym (present b.lines line place at)
