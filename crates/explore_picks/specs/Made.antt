-- A play that is made pick by pick, and its part on one line.
use Rattle.std.specs.Prelude.{◌≡◌, ◌<◌, ◌≤◌, Some, List, [], ◌∷◌, length, reverse}
use Rattle.irq_base.specs.declared.devices.Run.{Run}
use Rattle.irq_base.specs.declared.entries.Actor.{Actor}
use Rattle.irq_base.specs.declared.entries.Entry.{Entry}
use Rattle.irq_base.specs.declared.lines.LineDef.{LineDef}
use Rattle.irq_base.specs.declared.numbers.LineNo.{LineNo}
use Rattle.irq_model.specs.Legal.{IsLegal}
use Rattle.board_def.specs.Seen.{BoardSeen}
use Rattle.board_play.specs.Lines.{Move, part, defs_of, lines_of}
use Rattle.board_play.specs.Order.{due_move}
use Rattle.board_core.specs.Runs.{runs_of}
use Rattle.board_core.specs.Seen.{SystemSeen, board_lines}

-- each of the moves was due of the pick at its place, and its line had room for it; none of the
-- picks was passed over. Both newest first.
abbrev pub ArePicked : BoardSeen → List Actor → List Move → Type 0
ArePicked board [] [] = Unit {0}
ArePicked board (a ∷ picks) (m ∷ g) =
    ArePicked board picks g × (due_move board (lines_of board g) a ≡ Some m)
    × (length (part m.0 g) < board.log)
ArePicked board [] (m ∷ g) = ⊥
ArePicked board (a ∷ picks) [] = ⊥

-- the line is the only one of the board that takes part, the entries, oldest first, are a legal
-- history of it, and there is room for them in a line's history and among the picks
pub record IsAlone (board : BoardSeen) (line : LineNo) (es : List Entry) : Type 0 where
  pub def : LineDef
  pub only : defs_of board ≡ def ∷ []
  pub number : def.line ≡ line
  pub legal : IsLegal def es
  pub room : length es ≤ board.log
  pub few : length es ≤ 65536

-- The picks made the moves of the log, nothing else has happened, and the line's part of them are
-- these entries. Picks and entries oldest first.
pub record IsMade (s : SystemSeen) (picks : List Actor) (line : LineNo) (es : List Entry)
    : Type 0 where
  pub lines : board_lines s.lines ≡ lines_of s.board (reverse s.log)
  pub picked : ArePicked s.board (reverse picks) (reverse s.log)
  pub part : part line (reverse s.log) ≡ reverse es

-- The moves, the newest first, are a play of the board so far, each made by a pick, and these runs
-- were heard: those that the moves ended.
pub record IsHeardPlay (board : BoardSeen) (heard : List Run → Type 0) (g : List Move)
    : Type 0 where
  pub picks : List Actor
  pub picked : ArePicked board picks g
  pub runs : heard (runs_of board g)
