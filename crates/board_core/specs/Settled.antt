-- What settling without a log leaves.
use Rattle.std.specs.Prelude.{◌≡◌, List}
use Rattle.irq_base.specs.declared.devices.Run.{Run}
use Rattle.callbacks.specs.Heard.{Heard}
use Rattle.board_play.specs.Lines.{Move}
use Rattle.board_core.specs.Playing.{AreLowestMoves, lines_after_all}
use Rattle.board_core.specs.Runs.{runs_from}
use Rattle.board_core.specs.Seen.{SystemSeen, board_lines}

-- From the old system to the new one the lowest actors moved and nobody else did: each history has
-- their entries among its own. Handlers were called for the runs that these moves ended, in their
-- order, and for no other.
pub record SettlesLines {H : Type 0} (hears : H → Run → H → Type 0) (old new : SystemSeen)
    (before after : H) : Type 0 where
  -- the newest first
  pub moves : List Move
  pub lowest : AreLowestMoves old.board (board_lines old.lines) moves
  pub lines : board_lines new.lines ≡ lines_after_all moves (board_lines old.lines)
  pub heard : Heard hears (runs_from (board_lines old.lines) moves) before after
