-- What is seen of a demultiplexer, and what it keeps.
use Rattle.std.specs.Prelude.{◌≡◌, true, Option, List, length, reverse}
use Rattle.irq_base.specs.Cell.{Cell}
use Rattle.domain_rules.specs.declared.layouts.Placement.{Placement}
use Rattle.irq_line.specs.Seen.{LineSeen}
use Rattle.board_def.specs.Seen.{BoardSeen}
use Rattle.board_play.specs.Lines.{lines_of}
use Rattle.board_core.specs.Seen.{SystemSeen, board_lines}
use Rattle.irq_chained.specs.Chain.{IsChainLegal, children}
use Rattle.irq_chained.specs.Fits.{is_for_chain}
use Rattle.irq_chained.specs.Parent.{parent_cell}
use Rattle.irq_chained.specs.Walk.{AreWithin, IsWalkOf, merged}
use Rattle.irq_chained.specs.declared.chain.ChainEntry.{ChainEntry}
use Rattle.irq_chained.specs.declared.marks.Mark.{Mark}
use Rattle.irq_chained.specs.declared.marks.Walk.{Walk}

-- its board, the board's layout, the lines that take part, the steps so far, the oldest first, and
-- the cell of its parent
pub record DemuxSeen : Type 0 where
  pub board : BoardSeen
  pub layout : List Placement
  pub lines : List LineSeen
  pub log : List ChainEntry
  pub parent : Cell

abbrev pub seen_of : SystemSeen → List Mark → Cell → DemuxSeen
seen_of system marks parent = record {
  board = system.board;
  layout = system.layout;
  lines = system.lines;
  log = merged marks system.log 0;
  parent = parent;
}

pub record IsDemux (system : SystemSeen) (marks : List Mark) (walk : Option Walk) (cell : Cell)
    : Type 0 where
  pub fits : is_for_chain system.board ≡ true
  -- each step was the next one of its actor
  pub legal : IsChainLegal system.board (reverse (merged marks system.log 0))
  -- the system's moves are those of the children among the steps
  pub moves : children (reverse (merged marks system.log 0)) ≡ reverse system.log
  pub lines : board_lines system.lines ≡ lines_of system.board (reverse system.log)
  pub within : AreWithin (length system.log) marks
  pub walks : IsWalkOf (board_lines system.lines) (reverse (merged marks system.log 0)) walk
  pub parent : cell ≡ parent_cell system.board (reverse (merged marks system.log 0))
