-- The judgement of an input.
use Rattle.std.specs.Prelude.{◌≡◌, ℕ, nat_lt, if◌then◌else◌, Option, Some, None, Result, Ok, Err}
use Rattle.std.specs.Prelude.{Bool, true, false, IfSome, List, length, slice_get}
use Rattle.std.specs.List.{AllZip}
use Rattle.board_def.specs.Seen.{BoardSeen}
use Rattle.board_def.specs.declared.rows.LineRow.{LineRow}
use Rattle.board_stated.specs.TextOf.{board_of_text, whole}
use Rattle.board_words.specs.declared.faults.BoardFault.{BoardFault}
use Rattle.board_words.specs.declared.faults.FaultKind.TheVariants as faults
use Rattle.irq_base.specs.declared.numbers.LineNo.{LineNo}
use Rattle.log_check.specs.Judging.{part_at}
use Rattle.log_check.specs.Verdicts.{ChecksLog}
use Rattle.log_check.specs.Why.{IsPrintableDue, IsUndue}
use Rattle.log_check.specs.declared.verdict.Verdict.{Verdict}
use Rattle.log_check.specs.declared.verdict.Verdict.TheVariants as verdicts
use Rattle.log_check.specs.declared.why.Undue.{Undue}
use Rattle.log_read.specs.LogOf.{IsRowOn, LineEntry, rows_of, saying}
use Rattle.board_text.specs.declared.reading.BoardRefused.{BoardRefused}
use Rattle.board_text.specs.declared.reading.BoardRefused.TheVariants as refusals
use Rattle.irq_check.specs.Parts.{parts_of}
use Rattle.irq_check.specs.declared.answers.Judgement.{Judgement}

-- the most bytes of an input
abbrev pub longest_input : ℕ
longest_input = 67108864

abbrev pub with_log : List ℕ → Result BoardSeen BoardFault → Result (BoardSeen × List ℕ) BoardFault
with_log log (Ok b) = Ok (b, log)
with_log log (Err fault) = Err fault

-- the board of an input's first part, with the log; or the first fault: there is no log, or the
-- first fault of the board's text
abbrev pub board_and_log : Option (List ℕ × List ℕ) → Result (BoardSeen × List ℕ) BoardFault
board_and_log None = Err (whole faults.NoLog)
board_and_log (Some (text, log)) = with_log log (board_of_text text)

-- the board and the text of the log that an input states, or its first fault
abbrev pub checked : List ℕ → Result (BoardSeen × List ℕ) BoardFault
checked input =
    if nat_lt longest_input (length input) then Err (whole faults.TooLong)
    else board_and_log (parts_of input)

-- the line's history in the text of the log isn't legal for this reason
pub record IsWhy (board : BoardSeen) (log : List ℕ) (line : LineNo) (undue : Undue) : Type 0 where
  pub place : ℕ
  pub row : LineRow
  pub at : slice_get board.lines place ≡ Some row
  pub of : row.line ≡ line
  pub said : List LineEntry
  pub each : AllZip (IsRowOn board) (saying (rows_of log)) said
  pub is : IsUndue (part_at board row place) line (rows_of log) said undue

-- why a log has this verdict: there is a reason exactly if it is unlawful
abbrev pub IsReason : BoardSeen → List ℕ → Verdict → Option Undue → Type 0
IsReason board log (verdicts.Unlawful line entry) (Some undue) = IsWhy board log line undue
IsReason board log (verdicts.Unlawful line entry) None = ⊥
IsReason board log verdict why = why ≡ None

-- the reason is said if it was asked
abbrev pub IsExplained : BoardSeen → List ℕ → (asked : Bool) → Judgement → Type 0
IsExplained board log true answer = IsReason board log answer.verdict answer.why
IsExplained board log false answer = answer.why ≡ None

-- what was due in place of the entry that wasn't has a row
abbrev pub IsPrintableAnswer : Judgement → Type 0
IsPrintableAnswer answer = IfSome answer.why (λ undue. IsPrintableDue undue.due)

-- the input states a board and a log of it, and this is the judgement of the log; `asked`: with the
-- reason
pub record IsChecked (asked : Bool) (input : List ℕ) (answer : Judgement) : Type 0 where
  pub board : BoardSeen
  pub log : List ℕ
  pub states : checked input ≡ Ok (board, log)
  pub judged : ChecksLog board log answer.verdict
  pub explained : IsExplained board log asked answer

-- the answer to an input: its judgement, or its first fault; memory may be refused
abbrev pub Checks : (asked : Bool) → List ℕ → Result Judgement BoardRefused → Type 0
Checks asked input (Ok answer) = IsChecked asked input answer
Checks asked input (Err (refusals.Fault fault)) = checked input ≡ Err fault
Checks asked input (Err refusals.NoMemory) = Unit {0}
