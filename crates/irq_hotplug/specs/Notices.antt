-- Which placings are told.
use Rattle.std.specs.Prelude.{◌≡◌, List, [], ◌∷◌, ◌++◌}
use Rattle.std.specs.List.{flat_map}
use Rattle.notifiers.specs.Told.{Notice}
use Rattle.irq_hotplug.specs.declared.rows.FleetRow.{FleetRow}
use Rattle.irq_hotplug.specs.declared.rows.FleetRow.TheVariants as rows

-- what is told of a row: of a placing its line, its processor, and how many queues the line has
abbrev pub notice_of : FleetRow → List Notice
notice_of (rows.Placed line v queues queue moved) =
    record { line = line; cpu = v.cpu; queues = queues } ∷ []
notice_of _ = []

-- the placings among these rows, in their order
abbrev pub notices_of : List FleetRow → List Notice
notices_of said = flat_map notice_of said

-- Some rows were added, and the placings among them were told: `told` says of placings that these,
-- and no others, were.
pub record TellsMore (told : List Notice → Type 0) (before now : List FleetRow) : Type 0 where
  pub rows : List FleetRow
  pub said : now ≡ before ++ rows
  pub placings : told (notices_of rows)
