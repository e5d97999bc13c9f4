-- What is seen of a line over chips.
use Rattle.irq_base.specs.Wiring.{Wiring}
use Rattle.irq_line.specs.Seen.{LineSeen}

-- the line, and how its chips are wired, which nothing changes
pub record WiredSeen : Type 0 where
  pub line : LineSeen
  pub wiring : Wiring
