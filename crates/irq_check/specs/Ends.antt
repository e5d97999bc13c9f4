-- How a check ends: what was read, and what the output gained.
use Rattle.std.specs.Prelude.{◌≡◌, ℕ, ◌+◌, ◌≤◌, Bool, true, false, Option, Some, None, List, []}
use Rattle.std.specs.Prelude.{drop, length, Result, Ok, Err}
use Rattle.board_words.specs.declared.faults.BoardFault.{BoardFault}
use Rattle.irq_io.specs.Told.{IsTold}
use Rattle.irq_io.specs.Whole.{WritesAll}
use Rattle.program_io.specs.declared.inputs.InputRefused.{InputRefused}
use Rattle.program_io.specs.declared.inputs.InputRefused.TheVariants as refusals
use Rattle.irq_check.specs.declared.failing.CheckFailed.{CheckFailed}
use Rattle.irq_check.specs.declared.failing.CheckFailed.TheVariants as fails
use Rattle.irq_check.specs.declared.answers.Judgement.{Judgement}
use Rattle.irq_check.specs.AnswerText.{answer_text}
use Rattle.irq_check.specs.Checked.{IsChecked, checked, longest_input}

-- what is left of a source after an input was read from it: at most the longest input and one byte
-- more are taken
abbrev pub left_after : List ℕ → List ℕ
left_after bytes = drop (longest_input + 1) bytes

-- the answer is the judgement of an input, and the input is what the source told
pub record IsSaid (asked : Bool) (told : Option (List ℕ)) (answer : Judgement) : Type 0 where
  pub input : List ℕ
  pub as_told : IsTold told input
  pub checked : IsChecked asked input answer

-- whether reading an input met a read fault
abbrev pub is_read_fault : Result Judgement InputRefused → Bool
is_read_fault (Err refusals.ReadFault) = true
is_read_fault _ = false

-- bytes, at most one more than the longest input has, with this first fault
pub record HasFault (fault : BoardFault) : Type 0 where
  pub input : List ℕ
  pub within : length input ≤ longest_input + 1
  pub fails : checked input ≡ Err fault

-- if the source tells what is left: the bytes were read to their end, and the answer is their
-- judgement; or they were read to their end or one byte past the longest input, and the answer is
-- their fault. If it doesn't tell, a fault is still that of some bytes that can have been read.
abbrev pub ReadsInput : (asked : Bool) → Option (List ℕ) → Option (List ℕ)
    → Result Judgement InputRefused → Type 0
ReadsInput asked (Some bytes) now (Ok answer) = IsChecked asked bytes answer × (now ≡ Some [])
ReadsInput asked (Some bytes) now (Err (refusals.Fault fault)) =
    (checked bytes ≡ Err fault) × (now ≡ Some (left_after bytes))
ReadsInput asked None now (Err (refusals.Fault fault)) = HasFault fault
ReadsInput asked _ _ _ = Unit {0}

-- what the whole call read, by how it ended: an output that fails comes after a judgement
abbrev pub Reads : (asked : Bool) → Option (List ℕ) → Option (List ℕ)
    → Result Judgement CheckFailed → Type 0
Reads asked before now (Ok answer) = ReadsInput asked before now (Ok answer)
Reads asked before now (Err (fails.Input refused)) = ReadsInput asked before now (Err refused)
Reads asked before now (Err (fails.Write failed)) =
    (answer : Judgement) × ReadsInput asked before now (Ok answer)

-- the output gained the rows with the judgement of the input; after a fault of the output a
-- beginning of them
abbrev pub SaysOrNot : (asked : Bool) → Option (List ℕ) → Option (List ℕ) → Option (List ℕ)
    → Result Judgement CheckFailed → Type 0
SaysOrNot asked told before now (Ok answer) =
    IsSaid asked told answer × WritesAll before now (answer_text answer) (Ok tt)
SaysOrNot asked told before now (Err (fails.Write failed)) =
    (answer : Judgement) × IsSaid asked told answer
    × WritesAll before now (answer_text answer) (Err failed)
SaysOrNot asked told before now (Err (fails.Input refused)) = Unit {0}

abbrev pub is_read_fault_end : Result Judgement CheckFailed → Bool
is_read_fault_end (Err (fails.Input refusals.ReadFault)) = true
is_read_fault_end _ = false

abbrev pub is_write_fault : Result Judgement CheckFailed → Bool
is_write_fault (Err (fails.Write failed)) = true
is_write_fault _ = false

-- something may have been printed
abbrev pub is_printing : Result Judgement CheckFailed → Bool
is_printing (Err (fails.Input refused)) = false
is_printing _ = true
