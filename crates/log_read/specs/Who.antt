-- Who made an entry, as a row can name it.
use Rattle.irq_base.specs.declared.entries.Actor.{Actor}
use Rattle.irq_base.specs.declared.entries.Actor.TheVariants as actors
use Rattle.log_text.specs.Formed.{IsSmall}

-- the actor's number is small
abbrev pub HasSmallActor : Actor → Type 0
HasSmallActor (actors.Thread dev) = IsSmall dev.0
HasSmallActor (actors.Cpu cpu) = IsSmall cpu.0
HasSmallActor (actors.Driver driver) = IsSmall driver.0
