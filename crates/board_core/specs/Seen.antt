-- What is seen of a system.
use Rattle.std.specs.Prelude.{List, map, reverse}
use Rattle.board_def.specs.Seen.{BoardSeen}
use Rattle.domain_rules.specs.declared.layouts.Placement.{Placement}
use Rattle.irq_line.specs.Seen.{LineSeen}
use Rattle.board_play.specs.Lines.{BoardLine, Move}

-- its board, the board's layout, the lines that take part, and the moves so far, the oldest first
pub record SystemSeen : Type 0 where
  pub board : BoardSeen
  pub layout : List Placement
  pub lines : List LineSeen
  pub log : List Move

-- a line as the order of moves sees it
abbrev pub board_line : LineSeen → BoardLine
board_line x = record { def = x.def; past = reverse x.entries }

abbrev pub board_lines : List LineSeen → List BoardLine
board_lines lines = map board_line lines
