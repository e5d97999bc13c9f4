-- When memory is refused to a worker.
use Rattle.std.specs.Prelude.{◌≡◌, ◌≤◌, Option, List}
use Rattle.irq_base.specs.declared.entries.Actor.{Actor}
use Rattle.irq_base.specs.declared.entries.Entry.{Entry}
use Rattle.irq_base.specs.declared.lines.LineDef.{LineDef}
use Rattle.irq_model.specs.Next.{next}
use Rattle.irq_line.specs.Seen.{LineSeen, IsSound}

-- There was a line of this definition, with this history. Either its history had no room for one
-- more entry, or it may want memory for what was due of the actor. What contracts see of a line is
-- `seen_of`.
pub record Wanted {T : Type 0} (seen_of : T → LineSeen) (may_want : Option Entry → Type 0)
    (whole : LineDef) (history : List Entry) (who : Actor) : Type 0 where
  pub line : T
  pub def : (seen_of line).def ≡ whole
  pub entries : (seen_of line).entries ≡ history
  pub sound : IsSound (seen_of line)
  pub wants : 1 ≤ (seen_of line).spare → may_want (next whole history who)
