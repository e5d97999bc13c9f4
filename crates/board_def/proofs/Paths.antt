-- The lines of a board rise.
use Rattle.board_def.specs.Rules.{IsBoard}
use Rattle.board_def.specs.Seen.{BoardSeen}
use Rattle.board_def.specs.declared.rows.LineRow.{LineRow}
use Rattle.board_def.proofs.Rising.{Rises}

pub lines_rise : (b : BoardSeen) → IsBoard b → Rises (λ (row : LineRow). row.line.0) b.lines
lines_rise b board i row at = (board.lines i row at).rises
