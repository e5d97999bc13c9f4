-- What a step is about is there: a linked device, a handler at work, a thread, a call that is left.
use Rattle.std.specs.Prelude.{◌≡◌, true, Some, IsSome}
use Rattle.irq_base.specs.declared.devices.Part.TheVariants as parts
use Rattle.irq_base.specs.declared.numbers.DevNo.{DevNo}
use Rattle.device_table.specs.Rows.{at}
use Rattle.act_list.specs.Actions.{has}
use Rattle.line_state.specs.Seen.{LineStateSeen, HasCall}
use Rattle.line_state.specs.declared.due.CpuStep.{CpuStep}
use Rattle.line_state.specs.declared.due.CpuStep.TheVariants as cpus
use Rattle.line_state.specs.declared.due.DueStep.{DueStep}
use Rattle.line_state.specs.declared.due.DueStep.TheVariants as steps
use Rattle.line_state.specs.declared.due.ThreadStep.{ThreadStep}
use Rattle.line_state.specs.declared.due.ThreadStep.TheVariants as threads

-- a handler that is called is linked; one that calls or returns is at work
abbrev pub IsAboutCpu : LineStateSeen → CpuStep → Type 0
IsAboutCpu l (cpus.Begin dev) = has dev l.state.list.actions ≡ true
IsAboutCpu l (cpus.Call dev step) =
    (l.state.round.working ≡ Some dev) × HasCall l parts.Primary dev
IsAboutCpu l (cpus.Return dev) = l.state.round.working ≡ Some dev
IsAboutCpu l _ = Unit {0}

-- a run that calls has a call left
abbrev pub MayCall : LineStateSeen → DevNo → ThreadStep → Type 0
MayCall l dev (threads.Call step) = HasCall l parts.Thread dev
MayCall l dev _ = Unit {0}

-- the line has the device
abbrev pub IsAboutThread : LineStateSeen → DevNo → ThreadStep → Type 0
IsAboutThread l dev step = IsSome (at l.state.threads dev) × MayCall l dev step

abbrev pub IsAbout : LineStateSeen → DueStep → Type 0
IsAbout l (steps.Cpu cpu step) = IsAboutCpu l step
IsAbout l (steps.Thread dev step) = IsAboutThread l dev step
IsAbout l (steps.Driver driver step) = Unit {0}
