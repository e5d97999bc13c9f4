-- The events of a plan, as words.
use Rattle.std.specs.Prelude.{ℕ, ◌≤◌, List, ◌++◌, length, codes, decimal}
use Rattle.std.specs.List.{AllByRecursion}
use Rattle.irq_hotplug.specs.declared.events.Event.{Event}
use Rattle.irq_hotplug.specs.declared.events.Event.TheVariants as events

abbrev pub event_word : Event → List ℕ
event_word (events.Off cpu) = codes "off:" ++ decimal cpu.0
event_word (events.On cpu) = codes "on:" ++ decimal cpu.0

-- the event's processor has a number from 0 to 31
abbrev pub IsEvent : Event → Type 0
IsEvent (events.Off cpu) = cpu.0 ≤ 31
IsEvent (events.On cpu) = cpu.0 ≤ 31

-- at most 64 events
pub record AreEvents (es : List Event) : Type 0 where
  pub few : length es ≤ 64
  pub each : AllByRecursion IsEvent es
