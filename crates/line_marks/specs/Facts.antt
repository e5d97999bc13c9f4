-- The facts of a line's devices, which no entry changes.
use Rattle.std.specs.Prelude.{Bool, List}
use Rattle.irq_base.specs.declared.devices.Kind.{Kind}
use Rattle.irq_base.specs.declared.devices.Part.{Part}
use Rattle.irq_base.specs.declared.numbers.DevNo.{DevNo}
use Rattle.irq_model.specs.Runs.{is_that_part}
use Rattle.ask_counts.specs.Facts.{facts_at}
use Rattle.ask_counts.specs.declared.facts.DeviceFacts.{DeviceFacts}

-- the kind of a device; a device that the line doesn't have counts as stuck, so it never serves
abbrev pub kind_at : List (DevNo × DeviceFacts) → DevNo → Kind
kind_at t d = (facts_at t d).kind

-- the runs of that part of the device serve as they return
abbrev pub serves_in : List (DevNo × DeviceFacts) → Part → DevNo → Bool
serves_in t part d = is_that_part part (facts_at t d).serving
