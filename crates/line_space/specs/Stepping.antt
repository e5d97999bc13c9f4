-- What may come next of one actor, and where it leads.
use Rattle.std.specs.Prelude.{◌≡◌, ◌<◌, ℕ, Bool, Option, Some, None, is_some, List, [], ◌∷◌, ◌++◌}
use Rattle.std.specs.Prelude.{length}
use Rattle.irq_base.specs.declared.devices.DeviceDef.{DeviceDef}
use Rattle.irq_base.specs.declared.entries.Actor.{Actor}
use Rattle.irq_base.specs.declared.entries.Actor.TheVariants as actors
use Rattle.irq_base.specs.declared.entries.Entry.{Entry}
use Rattle.irq_base.specs.declared.lines.LineDef.{LineDef}
use Rattle.irq_base.specs.declared.numbers.CpuNo.{CpuNo}
use Rattle.irq_base.specs.declared.numbers.DriverNo.{DriverNo}
use Rattle.irq_model.specs.Legal.{IsLegalPast}
use Rattle.irq_model.specs.Next.{next_past}
use Rattle.line_marks.specs.Next.{due_by}
use Rattle.line_marks.specs.State.{StateSeen}
use Rattle.line_scripts.specs.Rows.{RowSeen}
use Rattle.line_words.specs.Node.{node}

-- a legal past of fewer than 100,000,000 entries has these numbers
abbrev pub IsReached : LineDef → List ℕ → Type 0
IsReached def ws =
    (past : List Entry) × IsLegalPast def past × (ws ≡ node def past) × (length past < 100000000)

-- the entry, if there is one, and the numbers after it
abbrev pub led_to : LineDef → List Entry → Option Entry → List (Entry × List ℕ)
led_to def past None = []
led_to def past (Some e) = (e, node def (e ∷ past)) ∷ []

abbrev pub steps_of : LineDef → List Entry → Actor → List (Entry × List ℕ)
steps_of def past a = led_to def past (next_past def past a)

-- of several actors, one after another
abbrev pub all_steps : LineDef → List Entry → List Actor → List (Entry × List ℕ)
all_steps def past [] = []
all_steps def past (a ∷ xs) = steps_of def past a ++ all_steps def past xs

-- ---- the actors for whom something may be due

abbrev pub cpus_in : Option CpuNo → List Actor
cpus_in None = []
cpus_in (Some c) = actors.Cpu c ∷ []

abbrev pub threads_in : List DeviceDef → List Actor
threads_in [] = []
threads_in (x ∷ xs) = actors.Thread x.dev ∷ threads_in xs

abbrev pub drivers_of : List DriverNo → List Actor
drivers_of [] = []
drivers_of (r ∷ rs) = actors.Driver r ∷ drivers_of rs

-- the threads, the processor of the flow, the one that takes, and the drivers
abbrev pub actors_by : LineDef → Option CpuNo → Option CpuNo → List DriverNo → List Actor
actors_by def flow taker rs =
    threads_in def.devices ++ (cpus_in flow ++ (cpus_in taker ++ drivers_of rs))

-- something is due of the actor by the state and the scripts
abbrev pub is_due_in : LineDef → StateSeen → List (DriverNo × RowSeen) → Actor → Bool
is_due_in def s scripts a = is_some (due_by def s scripts a)
