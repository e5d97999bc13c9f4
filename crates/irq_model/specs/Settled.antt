-- A settled line: no actor may add an entry, and every driver's calls on the line are complete. A
-- line that hangs may be settled too: a handler or a thread that waits for itself has no step, and
-- leaves no driver a call. That nobody hangs either is IsAtRest of Waits.
use Rattle.std.specs.Prelude.{◌≡◌, None, List, reverse}
use Rattle.irq_base.specs.declared.numbers.DriverNo.{DriverNo}
use Rattle.irq_base.specs.declared.lines.LineDef.{LineDef}
use Rattle.irq_base.specs.declared.entries.Actor.{Actor}
use Rattle.irq_base.specs.declared.entries.Entry.{Entry}
use Rattle.irq_model.specs.Next.{next}
use Rattle.irq_model.specs.Due.{due_call}

pub record IsSettled (def : LineDef) (h : List Entry) : Type 0 where
  pub still : (a : Actor) → next def h a ≡ None
  pub complete : (r : DriverNo) → due_call def r (reverse h) ≡ None
