-- Why a source gave no board, by what reading its bytes or the board's text refused.
use Rattle.board_text.specs.declared.reading.BoardRefused.{BoardRefused}
use Rattle.board_text.specs.declared.reading.BoardRefused.TheVariants as boards
use Rattle.irq_io.specs.declared.whole.ReadRefused.{ReadRefused}
use Rattle.irq_io.specs.declared.whole.ReadRefused.TheVariants as reads
use Rattle.program_io.specs.declared.inputs.InputRefused.{InputRefused}
use Rattle.program_io.specs.declared.inputs.InputRefused.TheVariants as refusals

abbrev pub refusal_of_read : ReadRefused → InputRefused
refusal_of_read reads.Fault = refusals.ReadFault
refusal_of_read reads.NoMemory = refusals.NoMemory

abbrev pub refusal_of_board : BoardRefused → InputRefused
refusal_of_board (boards.Fault fault) = refusals.Fault fault
refusal_of_board boards.NoMemory = refusals.NoMemory
