-- Where a board's lines are at each moment: at first, and after each event.
use Rattle.std.specs.Prelude.{◌≡◌, ℕ, ◌%◌, ◌<◌, ◌≤◌, ◌==◌, max, List, ◌++◌, length, filter}
use Rattle.std.specs.Prelude.{count_by, All}
use Rattle.irq_base.specs.declared.numbers.LineNo.{LineNo}
use Rattle.board_def.specs.Seen.{BoardSeen}
use Rattle.vector_matrix.specs.declared.view.Vector.{Vector}
use Rattle.irq_hotplug.specs.Berths.{IsPlaced, stands_at}
use Rattle.irq_hotplug.specs.Fleet.{FleetSeen, fleet_after}
use Rattle.irq_hotplug.specs.declared.events.Event.{Event}
use Rattle.irq_hotplug.specs.declared.rows.FleetRow.{FleetRow}
use Rattle.irq_hotplug.specs.declared.rows.FleetRow.TheVariants as rows

-- how many queues the line has: as many as devices, and at least one
abbrev pub queues_of : BoardSeen → LineNo → ℕ
queues_of b line = max 1 (length (filter (λ x. x.line.0 == line.0) b.devices))

-- what is said of a placing: it names a processor of the machine, how many queues the line has, and
-- the queue that this processor serves, which is the processor modulo the queues
abbrev pub IsPlacing : BoardSeen → FleetRow → Type 0
IsPlacing b (rows.Placed line v queues queue moved) =
    (v.cpu.0 < b.cpus) × (queues ≡ queues_of b line) × (queue ≡ v.cpu.0 % queues_of b line)
IsPlacing b _ = Unit {0}

-- The lines have places of their own.
pub record ArePlaced (b : BoardSeen) (vectors : ℕ) (f : FleetSeen) : Type 0 where
  -- of each processor of the machine it is said whether it is online, and each has its vectors
  pub cpus : length f.online ≡ b.cpus
  pub vectors_are : f.vectors ≡ vectors
  -- no two lines have the same vector
  pub differ : (v : Vector) → count_by (stands_at v) f.berths ≤ 1
  -- each line that has a vector has one of an online processor
  pub online : All (IsPlaced vectors f.online) f.berths
  -- each placing is said with its line's queues, and with the queue that is served there
  pub queues : All (IsPlacing b) f.said

-- the lines have places of their own at each moment
abbrev pub KeepPlaces : BoardSeen → ℕ → List Event → Type 0
KeepPlaces b vectors es = (before after : List Event) → es ≡ before ++ after
    → ArePlaced b vectors (fleet_after b vectors before)
