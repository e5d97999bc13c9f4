-- How the chips of a line are wired. Like the properties of their cell, this never changes.
use Rattle.std.specs.Prelude.{ℕ, Option}

pub record Wiring : Type 0 where
  -- how many levels the path from the device to the processors has (`parent_data` of
  -- `struct irq_data`, `include/linux/irq.h`)
  pub levels : ℕ
  -- the number that the path's messages carry, if it sends messages
  pub number : Option ℕ
