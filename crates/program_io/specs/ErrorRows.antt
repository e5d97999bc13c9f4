-- Rows on an error sink.
use Rattle.std.specs.Prelude.{ℕ, Option, Result, List, ◌++◌, codes, decimal}
use Rattle.irq_base.specs.declared.entries.Actor.{Actor}
use Rattle.irq_base.specs.declared.numbers.LineNo.{LineNo}
use Rattle.irq_io.specs.Faults.{Counts}
use Rattle.irq_io.specs.Whole.{KeepsNone, WritesAll, writing_failed}
use Rattle.irq_io.specs.declared.whole.WriteFailed.{WriteFailed}
use Rattle.board_words.specs.FaultTexts.{fault_text}
use Rattle.log_text.specs.EntryWords.{actor_word}
use Rattle.board_words.specs.declared.faults.BoardFault.{BoardFault}

-- the row of a fault: at which text line, and which fault
abbrev pub fault_row : BoardFault → List ℕ
fault_row fault =
    codes "board: line " ++ decimal fault.at ++ codes ": " ++ fault_text fault.kind ++ codes "\n"

-- the row of a full log: which line's, and how many entries it has
abbrev pub full_row : LineNo → ℕ → List ℕ
full_row line len =
    codes "log full: line " ++ decimal line.0 ++ codes " at " ++ decimal len ++ codes " entries\n"

-- the row of a play in which somebody hangs: on which line, and who
abbrev pub hung_row : LineNo → Actor → List ℕ
hung_row line actor =
    codes "hung: line " ++ decimal line.0 ++ codes " " ++ actor_word actor ++ codes "\n"

-- The error sink gained the row, and keeps nothing back; or its count of faults rose, and it gained
-- a beginning of the row.
pub record Tells (row : List ℕ) (written_before written_now : Option (List ℕ)) (kept_now : List ℕ)
    (faults_before faults_now : ℕ) : Type 0 where
  pub end : Result Unit WriteFailed
  pub content : WritesAll written_before written_now row end
  pub emptied : KeepsNone kept_now end
  pub cause : Counts faults_before faults_now (writing_failed end)
