-- What is seen of the judge of a line.
use Rattle.std.specs.Prelude.{ℕ, Option}
use Rattle.irq_line.specs.Seen.{LineSeen}

pub record JudgeSeen : Type 0 where
  -- the line, while each entry so far was due
  pub line : Option LineSeen
  -- the number of the first entry that wasn't due, counted from 1
  pub first : Option ℕ
