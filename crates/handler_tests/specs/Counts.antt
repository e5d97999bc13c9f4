-- What calls of handlers count.
use Rattle.std.specs.Prelude.{ℕ}
use Rattle.irq_base.specs.declared.devices.Part.{Part}
use Rattle.irq_base.specs.declared.devices.Part.TheVariants as parts

-- one for a call of a device's handler, ten for one of its thread's function
abbrev pub count_of : Part → ℕ
count_of parts.Primary = 1
count_of parts.Thread = 10
