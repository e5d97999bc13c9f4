-- When a step may be refused for memory.
use Rattle.std.specs.Prelude.{◌≤◌, Option, Result, Err}
use Rattle.irq_base.specs.declared.entries.Actor.{Actor}
use Rattle.irq_base.specs.declared.entries.Entry.{Entry}
use Rattle.irq_model.specs.Next.{next}
use Rattle.irq_line.specs.Seen.{LineSeen}
use Rattle.irq_line.specs.declared.answers.StepRefused.{StepRefused}
use Rattle.irq_line.specs.declared.answers.StepRefused.TheVariants as refusals

-- if the history has room for one more entry, memory is refused only where the line may want some
-- for what is due of the actor
abbrev pub WantsMemory : {A : Type 0} (may_want : Option Entry → Type 0) → LineSeen → Actor
    → Result A StepRefused → Type 0
WantsMemory may_want old who (Err refusals.NoMemory) =
    1 ≤ old.spare → may_want (next old.def old.entries who)
WantsMemory may_want old who _ = Unit {0}
