-- What is said of workers' steps, whatever their lines and handlers are.
use Rattle.std.specs.Prelude.{Option, List}
use Rattle.irq_base.specs.declared.devices.Answer.{Answer}
use Rattle.irq_base.specs.declared.devices.Run.{Run}
use Rattle.irq_base.specs.declared.entries.Actor.{Actor}
use Rattle.irq_base.specs.declared.entries.Entry.{Entry}
use Rattle.irq_base.specs.declared.lines.LineDef.{LineDef}
use Rattle.irq_line.specs.Seen.{LineSeen}
use Rattle.workers.specs.Wanted.{Wanted}

pub record Terms : Type 1 where
  -- on what history of a line an actor may be refused memory
  pub wanted : LineDef → List Entry → Actor → Type 0
  -- the handlers gave this answer in a call for this run
  pub gave : Run → Answer → Type 0

-- those of lines of which contracts see `seen_of`, and which may want memory for what `may_want`
-- says, and of these handlers
abbrev pub terms_of : {T : Type 0} (seen_of : T → LineSeen) (may_want : Option Entry → Type 0)
    (gave : Run → Answer → Type 0) → Terms
terms_of seen_of may_want gave = record { wanted = Wanted seen_of may_want; gave = gave }
