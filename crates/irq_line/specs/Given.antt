-- What handlers that threads share gave.
use Rattle.std.specs.Prelude.{IfSome, List, [], ◌∷◌}
use Rattle.irq_base.specs.declared.devices.Answer.{Answer}
use Rattle.irq_base.specs.declared.devices.Run.{Run}
use Rattle.irq_base.specs.declared.entries.Entry.{Entry}
use Rattle.irq_base.specs.declared.lines.LineDef.{LineDef}
use Rattle.callbacks.specs.Seen.{answer_to}
use Rattle.irq_line.specs.Runs.{run_ended}

-- each run that ended in this past, whose newest entry comes first, was answered by a call
abbrev pub AreGiven : (gave : Run → Answer → Type 0) → LineDef → List Entry → Type 0
AreGiven gave def [] = Unit {0}
AreGiven gave def (e ∷ past) = AreGiven gave def past
    × IfSome (run_ended def past e) (λ run. gave run (answer_to run))
