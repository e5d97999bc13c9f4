-- What a step of a line makes of a system's parts.
use Rattle.std.specs.Prelude.{◌≡◌, ℕ, Option, Some, None, Result, Ok, Err, List, slice_get}
use Rattle.std.specs.Prelude.{slice_set}
use Rattle.irq_base.specs.declared.entries.Actor.{Actor}
use Rattle.irq_base.specs.declared.entries.Actor.TheVariants as actors
use Rattle.irq_base.specs.declared.entries.Entry.{Entry}
use Rattle.irq_base.specs.declared.numbers.DriverNo.{DriverNo}
use Rattle.irq_base.specs.declared.numbers.LineNo.{LineNo}
use Rattle.irq_line.specs.declared.answers.StepRefused.{StepRefused}
use Rattle.irq_line.specs.declared.answers.StepRefused.TheVariants as refusals
use Rattle.irq_line.specs.declared.answers.Stepped.{Stepped}
use Rattle.irq_line.specs.declared.answers.Stepped.TheVariants as stepped
use Rattle.board_core.specs.Scripts.{ScriptSeen, advanced}
use Rattle.board_play.specs.Lines.{Move}
use Rattle.board_core.specs.Seen.{SystemSeen}
use Rattle.board_core.specs.Turns.{TurnsBy}
use Rattle.board_core.specs.declared.turns.Turn.{Turn}
use Rattle.board_core.specs.declared.turns.Turn.TheVariants as turns

-- what a step answers and leaves; `due` is the move to be made, if there is one; memory may be
-- refused at any step
abbrev pub StepsBy : SystemSeen → Option Move → Result Turn StepRefused → SystemSeen → Type 0
StepsBy old due (Err refusals.NoMemory) new = new ≡ old
StepsBy old due turn new = TurnsBy old due turn new

-- the place of a driver's script; none for a thread or a processor
abbrev pub IsScriptOf : List DriverNo → Actor → Option ℕ → Type 0
IsScriptOf drivers (actors.Driver r) None = ⊥
IsScriptOf drivers (actors.Driver r) (Some j) = slice_get drivers j ≡ Some r
IsScriptOf drivers _ None = Unit {0}
IsScriptOf drivers _ (Some j) = ⊥

abbrev pub script_after : Option ScriptSeen → ℕ → Entry → List ScriptSeen → List ScriptSeen
script_after None j e scripts = scripts
script_after (Some s) j e scripts = slice_set scripts j (advanced e s)

-- the scripts after the step: the one at place j goes on by the entry that was added
abbrev pub scripts_after : {L : Type 0} → Option ℕ → Result (Stepped L) StepRefused
    → List ScriptSeen → List ScriptSeen
scripts_after (Some j) (Ok (stepped.Added e)) scripts
    = script_after (slice_get scripts j) j e scripts
scripts_after _ _ scripts = scripts

abbrev pub turn_of : {L : Type 0} → LineNo → Result (Stepped L) StepRefused
    → Result Turn StepRefused
turn_of line (Ok (stepped.Added entry)) = Ok (turns.Moved line entry)
turn_of line (Ok _) = Ok turns.NotYet
turn_of line (Err refused) = Err refused
