-- What the handlers gave for the runs of a board's histories.
use Rattle.std.specs.Prelude.{◌≡◌, ℕ, Some, List, map, reverse, slice_get}
use Rattle.irq_base.specs.declared.devices.Answer.{Answer}
use Rattle.irq_base.specs.declared.devices.Run.{Run}
use Rattle.irq_base.specs.declared.lines.LineDef.{LineDef}
use Rattle.irq_line.specs.Given.{AreGiven}
use Rattle.board_def.specs.Seen.{BoardSeen}
use Rattle.board_play.specs.Lines.{BoardLine, defs_of}
use Rattle.board_report.specs.Headline.{Histories}

-- the board's lines that take part, with these histories
abbrev pub lines_with : BoardSeen → Histories → List BoardLine
lines_with b entries = map (λ (def : LineDef). record {
  def = def;
  past = reverse (entries def.line);
}) (defs_of b)

-- each run that ended on these lines was answered by a call
abbrev pub EachGiven : (gave : Run → Answer → Type 0) → List BoardLine → Type 0
EachGiven gave lines =
    (i : ℕ) (x : BoardLine) → slice_get lines i ≡ Some x → AreGiven gave x.def x.past
