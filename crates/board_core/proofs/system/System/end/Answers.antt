use Rattle.std.proofs.Common.{List, subst}
use Rattle.irq_line.specs.Seen.{LineSeen}
use Rattle.board_core.specs.Hung.{IsEndOf}
use Rattle.board_core.specs.Seen.{board_lines}
use Rattle.board_core.proofs.system.System.end.Goals as goal

pub returns : goal.returns
returns g c = subst (λ (lines : List LineSeen). IsEndOf (board_lines lines) c.end_of.result) c.lines.ensures c.end_of.ensures
