-- What a system keeps.
use Rattle.std.specs.Prelude.{◌≡◌, ℕ, Some, List, length, map, slice_get}
use Rattle.irq_base.specs.declared.numbers.DriverNo.{DriverNo}
use Rattle.board_def.specs.Seen.{BoardSeen}
use Rattle.domain_rules.specs.declared.layouts.Placement.{Placement}
use Rattle.irq_line.specs.Seen.{LineSeen, IsSound}
use Rattle.board_play.specs.Kept.{AreKept}
use Rattle.board_core.specs.Log.{IsWalk, moves_of}
use Rattle.board_core.specs.Pieces.{IsPieced}
use Rattle.board_core.specs.Scripts.{ScriptSeen, IsScript}
use Rattle.board_ready.specs.Seen.{ReadySeen}
use Rattle.board_core.specs.Numbers.{numbers_of_lines, numbers_of_drivers}
use Rattle.board_core.specs.ReadyFor.{IsReadyFor}
use Rattle.board_core.specs.Seen.{SystemSeen, board_lines}

abbrev pub seen_of : BoardSeen → List Placement → List LineSeen → List ℕ → SystemSeen
seen_of board layout lines order =
    record { board = board; layout = layout; lines = lines; log = moves_of order lines }

abbrev pub drivers_of : List ScriptSeen → List DriverNo
drivers_of scripts = map (λ (s : ScriptSeen). s.driver) scripts

pub record IsSystem (board : BoardSeen) (lines : List LineSeen) (scripts : List ScriptSeen)
    : Type 0 where
  -- the lines are the board's, each history is legal, and the drivers' calls are made in the order
  -- of their scripts
  pub kept : AreKept board (board_lines lines)
  pub sound : (i : ℕ) (x : LineSeen) → slice_get lines i ≡ Some x → IsSound x
  -- each driver has its script, which is at its current call
  pub drivers : drivers_of scripts ≡ board.drivers
  pub each : (i : ℕ) (s : ScriptSeen) → slice_get scripts i ≡ Some s
      → IsScript board.calls (board_lines lines) s

-- the parts of a system that its lines, its scripts and its order determine
pub record Parts : Type 0 where
  pub ready : ReadySeen
  -- how many entries each line had at first
  pub begun : List ℕ
  pub line_numbers : List ℕ
  pub driver_numbers : List ℕ
  -- for how many moves the log has taken memory
  pub capacity : ℕ

pub record IsKept (board : BoardSeen) (lines : List LineSeen) (scripts : List ScriptSeen)
    (order : List ℕ) (parts : Parts) : Type 0 where
  pub system : IsSystem board lines scripts
  pub ready : IsReadyFor lines scripts parts.ready
  -- the order tells what came after the entries that the lines had at first
  pub told : IsWalk parts.begun order lines
  pub line_numbers : parts.line_numbers ≡ numbers_of_lines lines
  pub driver_numbers : parts.driver_numbers ≡ numbers_of_drivers board.drivers
  pub pieced : IsPieced (length order) parts.capacity
