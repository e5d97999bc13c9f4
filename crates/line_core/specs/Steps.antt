-- A step of a line.
use Rattle.std.specs.Prelude.{◌≡◌, ◌+◌, ◌≤◌, true, Option, Some, Result, Ok, [], ◌∷◌, ◌++◌}
use Rattle.irq_base.specs.Seen.{HistorySeen}
use Rattle.irq_base.specs.declared.devices.Run.{Run}
use Rattle.irq_base.specs.declared.entries.Actor.{Actor}
use Rattle.irq_base.specs.declared.entries.Entry.{Entry}
use Rattle.callbacks.specs.Heard.{Heard, one_run}
use Rattle.irq_line.specs.Answers.{Answers}
use Rattle.irq_line.specs.Hearing.{Lacks, runs_by}
use Rattle.irq_line.specs.Memory.{WantsMemory}
use Rattle.irq_line.specs.Seen.{LineSeen}
use Rattle.irq_line.specs.declared.answers.StepRefused.{StepRefused}
use Rattle.irq_line.specs.declared.answers.Stepped.{Stepped}
use Rattle.irq_line.specs.declared.answers.Stepped.TheVariants as stepped
use Rattle.line_core.specs.Room.{links_next}

-- a step of an actor, by those who have the answers: all that is promised of it
pub record IsStep {E L : Type 0} (hears : E → Run → E → Type 0) (lacks : E → Run → L → Type 0)
    (old : LineSeen) (who : Actor) (ears : E) (result : Result (Stepped L) StepRefused)
    (new : LineSeen) (after : E) : Type 0 where
  pub def : new.def ≡ old.def
  pub answer : Answers old who result new
  pub heard : Heard hears (runs_by old result) ears after
  pub lacking : Lacks lacks old who ears result
  pub memory : WantsMemory (λ due. links_next due ≡ true) old who result

-- a step that ends no run, and asks nobody
pub record IsStepAlone {L : Type 0} (old : LineSeen) (who : Actor)
    (result : Result (Stepped L) StepRefused) (new : LineSeen) : Type 0 where
  pub def : new.def ≡ old.def
  pub answer : Answers old who result new
  pub unheard : runs_by old result ≡ []
  pub lacks_none : (lack : L) → result ≡ Ok (stepped.Lacks lack) → ⊥
  pub memory : WantsMemory (λ due. links_next due ≡ true) old who result

-- the entry stands at the history's end, and the answer of the run that it ends, if it ends one,
-- was had
pub record Puts {E : Type 0} (hears : E → Run → E → Type 0) (run : Option Run) (entry : Entry)
    (h : HistorySeen) (ears : E) (e : Entry) (longer : HistorySeen) (after : E) : Type 0 where
  pub made : e ≡ entry
  pub entries : longer.entries ≡ h.entries ++ e ∷ []
  pub spare : h.spare ≤ longer.spare + 1
  pub heard : Heard hears (one_run run) ears after

-- the step ends this run, whose answer isn't at hand
abbrev pub LacksAnswer : {E L : Type 0} → (lacks : E → Run → L → Type 0) → Option Run → E → L
    → Type 0
LacksAnswer lacks run ears lack = (ended : Run) × (run ≡ Some ended) × lacks ears ended lack

-- what came of a due step in a history with room: its entry was put, or nothing has changed
abbrev pub Acts : {E L : Type 0} → (hears : E → Run → E → Type 0)
    → (lacks : E → Run → L → Type 0) → Option Run → Entry → HistorySeen → E → Stepped L
    → HistorySeen → E → Type 0
Acts hears lacks run entry h ears (stepped.Added e) longer after =
    Puts hears run entry h ears e longer after
Acts hears lacks run entry h ears stepped.NotYet longer after = ⊥
Acts hears lacks run entry h ears (stepped.Lacks lack) longer after =
    LacksAnswer lacks run ears lack × (longer ≡ h) × (after ≡ ears)
