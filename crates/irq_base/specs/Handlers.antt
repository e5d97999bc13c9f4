-- How a device's handlers answer (ours), by the kind of the device.
use Rattle.std.specs.Prelude.{ℕ, Bool, true, false, nat_lt, if◌then◌else◌, Option, Some, None}
use Rattle.irq_base.specs.declared.devices.Kind.{Kind}
use Rattle.irq_base.specs.declared.devices.Kind.TheVariants as kinds
use Rattle.irq_base.specs.declared.devices.Part.{Part}
use Rattle.irq_base.specs.declared.devices.Part.TheVariants as parts
use Rattle.irq_base.specs.declared.devices.Answer.{Answer}
use Rattle.irq_base.specs.declared.devices.Answer.TheVariants as answers
use Rattle.irq_base.specs.declared.devices.ToldAnswer.{ToldAnswer}
use Rattle.irq_base.specs.declared.devices.ToldAnswer.TheVariants as tolds
use Rattle.irq_base.specs.declared.devices.Run.{Run}

-- what the kernel is told; a thread wakes nobody
abbrev pub answer_of_told : Option ToldAnswer → Answer
answer_of_told (Some tolds.Handled) = answers.Handled
answer_of_told (Some tolds.Claims) = answers.Handled
answer_of_told (Some tolds.Wake) = answers.Wake
answer_of_told (Some tolds.Nothing) = answers.Nothing
answer_of_told None = answers.Nothing

-- the answer of a run that begins with n unserved asks; a device without a thread never
-- runs one
abbrev pub answer_of : Kind → Part → ℕ → Option ToldAnswer → Answer
answer_of kinds.Direct parts.Primary unserved told =
    if nat_lt 0 unserved then answers.Handled else answers.Nothing
answer_of kinds.Check parts.Primary unserved told =
    if nat_lt 0 unserved then answers.Wake else answers.Nothing
answer_of kinds.Null parts.Primary unserved told = answers.Wake
answer_of kinds.Check parts.Thread unserved told =
    if nat_lt 0 unserved then answers.Handled else answers.Nothing
answer_of kinds.Null parts.Thread unserved told =
    if nat_lt 0 unserved then answers.Handled else answers.Nothing
answer_of (kinds.Told threaded) part unserved told = answer_of_told told
answer_of _ part unserved told = answers.Nothing

abbrev pub answer_of_run : Run → Answer
answer_of_run run = answer_of run.def.kind run.part run.unserved run.told

-- whether the device has a thread
abbrev pub has_thread : Kind → Bool
has_thread kinds.Direct = false
has_thread kinds.Check = true
has_thread kinds.Null = true
has_thread kinds.Stuck = false
has_thread kinds.Odd = false
has_thread (kinds.Told threaded) = threaded

-- the part whose runs serve by returning, if one does. A told device serves in one part alone: runs
-- of two that serve would overlap, and which ask is whose wouldn't be said.
abbrev pub serving_part : Kind → Option Part
serving_part kinds.Direct = Some parts.Primary
serving_part kinds.Check = Some parts.Thread
serving_part kinds.Null = Some parts.Thread
serving_part kinds.Stuck = None
serving_part kinds.Odd = Some parts.Primary
serving_part (kinds.Told threaded) = if threaded then Some parts.Thread else Some parts.Primary
