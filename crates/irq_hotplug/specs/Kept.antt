-- What a fleet keeps.
use Rattle.std.specs.Prelude.{◌≡◌, ℕ, ◌<◌, ◌≤◌, ◌==◌, Bool, true, None, List, length, count_by, All}
use Rattle.std.specs.List.{list_any}
use Rattle.irq_base.specs.declared.numbers.LineNo.{LineNo}
use Rattle.vector_matrix.specs.Vectors.{count_of}
use Rattle.vector_matrix.specs.declared.view.Vector.{Vector}
use Rattle.irq_hotplug.specs.Berths.{IsPlaced, stands_at}
use Rattle.irq_hotplug.specs.Held.{HeldSeen, IsSized}
use Rattle.irq_hotplug.specs.declared.berths.Berth.{Berth}
use Rattle.irq_hotplug.specs.declared.rows.FleetRow.{FleetRow}
use Rattle.irq_hotplug.specs.declared.rows.FleetRow.TheVariants as rows

abbrev pub HasQueue : Berth → Type 0
HasQueue b = 1 ≤ b.queues

-- a line before it is placed
pub record IsBare (b : Berth) : Type 0 where
  pub queue : HasQueue b
  pub place : b.place ≡ None

-- the line takes part
abbrev pub has_berth : List Berth → LineNo → Bool
has_berth berths line = list_any (λ b. b.line.0 == line.0) berths

-- what is said of a placing is said of a line that takes part, and of a processor of the machine
abbrev pub IsSaidOf : List Berth → FleetRow → Type 0
IsSaidOf berths (rows.Placed line v queues queue moved) =
    (has_berth berths line ≡ true) × (v.cpu.0 < 32)
IsSaidOf berths _ = Unit {0}

-- The vectors that are held are those of the lines, and each is one of an online processor's.
pub record IsFleet (h : HeldSeen) (vectors : ℕ) (online : List Bool) (berths : List Berth)
    (said : List FleetRow) : Type 0 where
  pub sized : IsSized h online
  pub number : h.vectors ≡ vectors
  pub tie : (v : Vector) → count_of v h.held ≡ count_by (stands_at v) berths
  pub queues : All HasQueue berths
  pub placed : All (IsPlaced vectors online) berths
  pub few : length berths ≤ 64
  pub rows : All (IsSaidOf berths) said
