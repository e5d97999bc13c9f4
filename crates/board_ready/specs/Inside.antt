-- What is seen of the ready actors, and what their sets are.
use Rattle.std.specs.Prelude.{◌≤◌, length}
use Rattle.board_ready.specs.Kept.{AreThreads, AreFlows, AreSpinners, AreTakes, AreOnLines}
use Rattle.board_ready.specs.Kept.{AreWaiting, AreReady}
use Rattle.board_ready.specs.Seen.{ReadySeen}
use Rattle.board_ready.specs.declared.ready.ReadyActors.TheInside.{Inside}

abbrev pub seen : Inside → ReadySeen
seen s = record { lines = s.lines.items; drivers = s.drivers.items }

pub record IsKept (s : Inside) : Type 0 where
  pub few_lines : length s.lines.items ≤ 64
  pub few_drivers : length s.drivers.items ≤ 64
  pub threads : AreThreads s.lines.items s.threads
  pub flows : AreFlows s.lines.items s.flows
  pub spins : AreSpinners s.lines.items s.spins
  pub takes : AreTakes s.lines.items s.takes
  pub on_lines : AreOnLines s.drivers.items s.calls
  pub waiting : AreWaiting s.drivers.items s.calls
  pub ready : AreReady s.lines.items s.drivers.items s.ready
