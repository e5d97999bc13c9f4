-- What a step makes of those who have the answers.
use Rattle.std.specs.Prelude.{◌≡◌, Some, Result, Ok, List, [], reverse}
use Rattle.irq_base.specs.declared.devices.Run.{Run}
use Rattle.irq_base.specs.declared.entries.Actor.{Actor}
use Rattle.callbacks.specs.Heard.{one_run}
use Rattle.irq_line.specs.Runs.{run_ended, run_of}
use Rattle.irq_line.specs.Seen.{LineSeen}
use Rattle.irq_line.specs.declared.answers.StepRefused.{StepRefused}
use Rattle.irq_line.specs.declared.answers.Stepped.{Stepped}
use Rattle.irq_line.specs.declared.answers.Stepped.TheVariants as stepped

-- the run that the step ended: that of the entry that it added, if that entry ends one
abbrev pub runs_by : {L : Type 0} → LineSeen → Result (Stepped L) StepRefused → List Run
runs_by old (Ok (stepped.Added entry)) =
    one_run (run_ended old.def (reverse old.entries) entry)
runs_by old _ = []

-- the answer that wasn't at hand is that of the run that ends with the entry that is due
pub record IsLacking {E L : Type 0} (lacks : E → Run → L → Type 0) (old : LineSeen) (who : Actor)
    (ears : E) (lack : L) : Type 0 where
  pub run : Run
  pub due : run_of old.def old.entries who ≡ Some run
  pub lacks_it : lacks ears run lack

abbrev pub Lacks : {E L : Type 0} → (lacks : E → Run → L → Type 0) → LineSeen → Actor → E
    → Result (Stepped L) StepRefused → Type 0
Lacks lacks old who ears (Ok (stepped.Lacks lack)) = IsLacking lacks old who ears lack
Lacks lacks old who ears _ = Unit {0}
