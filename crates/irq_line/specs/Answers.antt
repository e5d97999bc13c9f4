-- What a step answers, and what it leaves of the line.
--
-- The conditions of the answers other than `NoMemory` exclude one another, and one of them always
-- holds. So, but for `NoMemory`, each answer comes exactly if its condition holds.
use Rattle.std.specs.Prelude.{◌≡◌, ◌+◌, ◌<◌, ◌≤◌, ℕ, Some, None, IsSome, Result, Ok, Err}
use Rattle.std.specs.Prelude.{[], ◌∷◌, ◌++◌, length}
use Rattle.irq_base.specs.Who.{actor_of}
use Rattle.irq_base.specs.declared.entries.Actor.{Actor}
use Rattle.irq_base.specs.declared.entries.Entry.{Entry}
use Rattle.irq_base.specs.declared.numbers.LineNo.{LineNo}
use Rattle.irq_model.specs.Next.{next}
use Rattle.irq_line.specs.Runs.{run_of}
use Rattle.irq_line.specs.Seen.{LineSeen}
use Rattle.irq_line.specs.declared.answers.StepRefused.{StepRefused}
use Rattle.irq_line.specs.declared.answers.StepRefused.TheVariants as refusals
use Rattle.irq_line.specs.declared.answers.Stepped.{Stepped}
use Rattle.irq_line.specs.declared.answers.Stepped.TheVariants as stepped

-- an entry is due of the actor
abbrev pub IsDueOf : LineSeen → Actor → Type 0
IsDueOf line actor = IsSome (next line.def line.entries actor)

-- The entry that is due of the actor stands at the history's end, which had room for it. At most
-- one of the free places is gone.
pub record Adds (old : LineSeen) (who : Actor) (entry : Entry) (new : LineSeen) : Type 0 where
  pub due : next old.def old.entries who ≡ Some entry
  pub actor : actor_of entry ≡ who
  pub below : length old.entries < old.def.log
  pub def : new.def ≡ old.def
  pub entries : new.entries ≡ old.entries ++ entry ∷ []
  pub spare : old.spare ≤ new.spare + 1

-- The entry that is due of the actor ends a run, and no entry was added. Room for it may have been
-- made; where there was room, the line is as it was.
pub record WantsAnswer (old : LineSeen) (who : Actor) (new : LineSeen) : Type 0 where
  pub due : IsSome (run_of old.def old.entries who)
  pub below : length old.entries < old.def.log
  pub def : new.def ≡ old.def
  pub entries : new.entries ≡ old.entries
  pub spare : old.spare ≤ new.spare
  pub kept : 1 ≤ old.spare → new ≡ old

-- An entry is due, and the history has the greatest length that the definition allows; the answer
-- says the line and that length.
pub record IsFull (old : LineSeen) (who : Actor) (line : LineNo) (len : ℕ) : Type 0 where
  pub due : IsDueOf old who
  pub line_is : line ≡ old.def.line
  pub told : len ≡ length old.entries
  pub log : length old.entries ≡ old.def.log

abbrev pub Answers : {L : Type 0} → LineSeen → Actor → Result (Stepped L) StepRefused → LineSeen
    → Type 0
Answers old who (Ok (stepped.Added entry)) new = Adds old who entry new
Answers old who (Ok stepped.NotYet) new = (next old.def old.entries who ≡ None) × (new ≡ old)
Answers old who (Ok (stepped.Lacks lack)) new = WantsAnswer old who new
Answers old who (Err (refusals.Full line len)) new = IsFull old who line len × (new ≡ old)
Answers old who (Err refusals.NoMemory) new = new ≡ old
