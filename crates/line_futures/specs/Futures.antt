-- Pasts between which the future can't tell.
use Rattle.std.specs.Prelude.{◌≡◌, List}
use Rattle.irq_base.specs.declared.entries.Entry.{Entry}
use Rattle.irq_base.specs.declared.lines.LineDef.{LineDef}
use Rattle.line_marks.specs.State.{state_of}
use Rattle.line_futures.specs.Canon.{canon}
use Rattle.line_futures.specs.Places.{SamePlaces}

-- they have one canonical state, and each driver is as far after the one as after the other
pub record AreAlike (def : LineDef) (g h : List Entry) : Type 0 where
  pub state : canon (state_of def g) ≡ canon (state_of def h)
  pub places : SamePlaces def g h
