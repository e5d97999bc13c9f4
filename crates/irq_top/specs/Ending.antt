-- How the top call ends, by its ending: the exit status, and the row on the error sink.
use Rattle.std.specs.Prelude.{ℕ, Bool, true, false, List, [], ◌++◌, codes, Result}
use Rattle.std.specs.Prelude.{Ok, Err}
use Rattle.program_io.specs.ErrorRows.{fault_row, full_row, hung_row}
use Rattle.program_io.specs.Streams.{EndSeen}
use Rattle.program_io.specs.declared.inputs.InputRefused.{InputRefused}
use Rattle.program_io.specs.declared.inputs.InputRefused.TheVariants as refusals
use Rattle.board_core.specs.declared.ends.PlayEnd.{PlayEnd}
use Rattle.board_core.specs.declared.ends.PlayEnd.TheVariants as ends
use Rattle.log_check.specs.declared.verdict.Verdict.{Verdict}
use Rattle.log_check.specs.declared.verdict.Verdict.TheVariants as verdicts
use Rattle.irq_check.specs.declared.answers.Judgement.{Judgement}
use Rattle.irq_check.specs.declared.failing.CheckFailed.{CheckFailed}
use Rattle.irq_check.specs.declared.failing.CheckFailed.TheVariants as checks
use Rattle.irq_line.specs.declared.answers.StepRefused.TheVariants as steps
use Rattle.play_report.specs.declared.failing.PlayFailed.{PlayFailed}
use Rattle.play_report.specs.declared.failing.PlayFailed.TheVariants as plays
use Rattle.irq_top.specs.declared.ending.Ending.{Ending}
use Rattle.irq_top.specs.declared.ending.Ending.TheVariants as endings

abbrev pub status_of : Ending → ℕ
status_of endings.Done = 0
status_of (endings.Unlawful line entry) = 1
status_of (endings.Malformed row) = 1
status_of (endings.Hung line actor) = 9
status_of endings.Usage = 2
status_of (endings.Board fault) = 3
status_of endings.ReadFault = 4
status_of endings.WriteFault = 5
status_of (endings.Step (steps.Full line len)) = 6
status_of (endings.Step steps.NoMemory) = 7
status_of endings.NoMemory = 7

abbrev pub error_text : Ending → List ℕ
error_text endings.Done = []
error_text (endings.Unlawful line entry) = []
error_text (endings.Malformed row) = []
error_text (endings.Hung line actor) = hung_row line actor
error_text endings.Usage =
    codes "usage: genirq run [--summary] | play [--summary] | check [--why] | gen N"
    ++ codes " | chained | hotplug V EVENT... | sleep LINE...\n"
error_text (endings.Board fault) = fault_row fault
error_text endings.ReadFault = codes "read fault\n"
error_text endings.WriteFault = codes "write fault\n"
error_text (endings.Step (steps.Full line len)) = full_row line len
error_text (endings.Step steps.NoMemory) = codes "out of memory\n"
error_text endings.NoMemory = codes "out of memory\n"

abbrev pub ending_of_refusal : InputRefused → Ending
ending_of_refusal (refusals.Fault fault) = endings.Board fault
ending_of_refusal refusals.ReadFault = endings.ReadFault
ending_of_refusal refusals.NoMemory = endings.NoMemory

abbrev pub ending_of_play : Result PlayEnd PlayFailed → Ending
ending_of_play (Ok ends.Settled) = endings.Done
ending_of_play (Ok (ends.Hung line actor)) = endings.Hung line actor
ending_of_play (Err plays.NoMemory) = endings.NoMemory
ending_of_play (Err (plays.Step refused)) = endings.Step refused
ending_of_play (Err (plays.Write failed)) = endings.WriteFault

abbrev pub ending_of_verdict : Verdict → Ending
ending_of_verdict verdicts.Lawful = endings.Done
ending_of_verdict (verdicts.Unlawful line entry) = endings.Unlawful line entry
ending_of_verdict (verdicts.Malformed row) = endings.Malformed row

abbrev pub ending_of_check : Result Judgement CheckFailed → Ending
ending_of_check (Ok answer) = ending_of_verdict answer.verdict
ending_of_check (Err (checks.Input refused)) = ending_of_refusal refused
ending_of_check (Err (checks.Write failed)) = endings.WriteFault

abbrev pub is_read_fault_end : Ending → Bool
is_read_fault_end endings.ReadFault = true
is_read_fault_end _ = false

abbrev pub is_write_fault_end : Ending → Bool
is_write_fault_end endings.WriteFault = true
is_write_fault_end _ = false

-- the work was done, and all of its result is printed
abbrev pub is_printed : Ending → Bool
is_printed endings.Done = true
is_printed (endings.Unlawful line entry) = true
is_printed (endings.Malformed row) = true
is_printed (endings.Hung line actor) = true
is_printed _ = false

-- the ending has no row on the error sink
abbrev pub is_quiet : Ending → Bool
is_quiet endings.Done = true
is_quiet (endings.Unlawful line entry) = true
is_quiet (endings.Malformed row) = true
is_quiet _ = false

-- the ending at which something may have been printed
abbrev pub is_printing : Ending → Bool
is_printing endings.WriteFault = true
is_printing ending = is_printed ending

-- what an ending says of the streams
abbrev pub end_seen : Ending → EndSeen
end_seen ending = record {
  printed = is_printed ending;
  printing = is_printing ending;
  is_quiet = is_quiet ending;
  row = error_text ending;
  read_failed = is_read_fault_end ending;
  write_failed = is_write_fault_end ending;
}
