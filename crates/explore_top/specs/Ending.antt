-- How the top call ends, by its ending: the exit status, and the row on the error sink.
use Rattle.std.specs.Prelude.{ℕ, Bool, true, false, Result, Ok, Err, List, [], ◌++◌, codes, decimal}
use Rattle.explore_picks.specs.declared.failing.ExploreFailed.{ExploreFailed}
use Rattle.explore_picks.specs.declared.failing.ExploreFailed.TheVariants as fails
use Rattle.irq_explore.specs.declared.exploring.Explored.{Explored}
use Rattle.irq_explore.specs.declared.exploring.Explored.TheVariants as finds
use Rattle.program_io.specs.ErrorRows.{fault_row}
use Rattle.program_io.specs.Streams.{EndSeen}
use Rattle.program_io.specs.declared.inputs.InputRefused.{InputRefused}
use Rattle.program_io.specs.declared.inputs.InputRefused.TheVariants as refusals
use Rattle.explore_top.specs.declared.ending.Ending.{Ending}
use Rattle.explore_top.specs.declared.ending.Ending.TheVariants as endings

abbrev pub status_of : Ending → ℕ
status_of endings.Done = 0
status_of endings.Never = 1
status_of endings.Usage = 2
status_of (endings.Board fault) = 3
status_of endings.NotThere = 3
status_of endings.ReadFault = 4
status_of endings.WriteFault = 5
status_of endings.NoMemory = 7
status_of (endings.Cut line states) = 8
status_of endings.NoPlay = 8

abbrev pub error_text : Ending → List ℕ
error_text endings.Done = []
error_text endings.Never = []
error_text endings.Usage =
    codes "usage: genirq-explore [--states N] [--line L | [--play] ROW]\n"
error_text (endings.Board fault) = fault_row fault
error_text endings.NotThere = codes "board: line 0: not there\n"
error_text endings.ReadFault = codes "read fault\n"
error_text endings.WriteFault = codes "write fault\n"
error_text endings.NoMemory = codes "out of memory\n"
error_text (endings.Cut line states) =
    codes "states: line " ++ decimal line.0 ++ codes " has more than " ++ decimal states
    ++ codes "\n"
error_text endings.NoPlay = codes "play: none was found\n"

-- the ending of an exploring with this limit of states a line
abbrev pub ending_of : ℕ → Result Explored ExploreFailed → Ending
ending_of states (Ok finds.Done) = endings.Done
ending_of states (Ok finds.Never) = endings.Never
ending_of states (Ok (finds.Cut line)) = endings.Cut line states
ending_of states (Ok finds.NoPlay) = endings.NoPlay
ending_of states (Err fails.NotThere) = endings.NotThere
ending_of states (Err fails.NoMemory) = endings.NoMemory
ending_of states (Err (fails.Write failed)) = endings.WriteFault

abbrev pub ending_of_refusal : InputRefused → Ending
ending_of_refusal (refusals.Fault fault) = endings.Board fault
ending_of_refusal refusals.ReadFault = endings.ReadFault
ending_of_refusal refusals.NoMemory = endings.NoMemory

abbrev pub is_read_fault_end : Ending → Bool
is_read_fault_end endings.ReadFault = true
is_read_fault_end _ = false

abbrev pub is_write_fault_end : Ending → Bool
is_write_fault_end endings.WriteFault = true
is_write_fault_end _ = false

-- all that can be said of what was asked is printed
abbrev pub is_printed : Ending → Bool
is_printed endings.Done = true
is_printed endings.Never = true
is_printed (endings.Cut line states) = true
is_printed _ = false

-- the ending at which something may have been printed
abbrev pub is_printing : Ending → Bool
is_printing endings.WriteFault = true
is_printing ending = is_printed ending

-- nothing is said on the error sink
abbrev pub is_quiet : Ending → Bool
is_quiet endings.Done = true
is_quiet endings.Never = true
is_quiet _ = false

-- what an ending says of the streams
abbrev pub end_seen : Ending → EndSeen
end_seen ending = record {
  printed = is_printed ending;
  printing = is_printing ending;
  is_quiet = is_quiet ending;
  row = error_text ending;
  read_failed = is_read_fault_end ending;
  write_failed = is_write_fault_end ending;
}
