-- What reading a board answers.
use Rattle.std.specs.Prelude.{◌≡◌, ℕ, ◌+◌, ◌≤◌, Bool, true, false, Option, Some, None, List, []}
use Rattle.std.specs.Prelude.{length, drop, Result, Ok, Err}
use Rattle.board_def.specs.Seen.{BoardSeen}
use Rattle.board_stated.specs.TextOf.{board_of_text, longest_text}
use Rattle.board_words.specs.declared.faults.BoardFault.{BoardFault}
use Rattle.irq_io.specs.Told.{IsTold}
use Rattle.program_io.specs.declared.inputs.InputRefused.{InputRefused}
use Rattle.program_io.specs.declared.inputs.InputRefused.TheVariants as refusals

-- what is left of a source after a board's text was read from it: at most the longest text and one
-- byte more are taken
abbrev pub left_after : List ℕ → List ℕ
left_after bytes = drop (longest_text + 1) bytes

-- whether reading a board met a read fault
abbrev pub is_read_fault : Result BoardSeen InputRefused → Bool
is_read_fault (Err refusals.ReadFault) = true
is_read_fault _ = false

-- bytes, at most one more than the longest text has, with this first fault
pub record HasFault (fault : BoardFault) : Type 0 where
  pub text : List ℕ
  pub within : length text ≤ longest_text + 1
  pub fails : board_of_text text ≡ Err fault

-- If the source tells what is left: the bytes were read to their end, and the answer is the board
-- that they state; or they were read to their end or one byte past the longest text, and the answer
-- is their fault. If it doesn't tell, a fault is still that of some bytes that can have been read.
abbrev pub ReadsBoard : Option (List ℕ) → Option (List ℕ) → Result BoardSeen InputRefused → Type 0
ReadsBoard (Some bytes) now (Ok board) = (board_of_text bytes ≡ Ok board) × (now ≡ Some [])
ReadsBoard (Some bytes) now (Err (refusals.Fault fault)) =
    (board_of_text bytes ≡ Err fault) × (now ≡ Some (left_after bytes))
ReadsBoard None now (Err (refusals.Fault fault)) = HasFault fault
ReadsBoard _ _ _ = Unit {0}

-- a text states the board, and the text is what the source told
pub record IsStated (told : Option (List ℕ)) (board : BoardSeen) : Type 0 where
  pub text : List ℕ
  pub as_told : IsTold told text
  pub states : board_of_text text ≡ Ok board
