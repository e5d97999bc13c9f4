-- For which step of a sleep memory was refused.
use Rattle.std.specs.Prelude.{◌≡◌, Bool, IsSome, Option, Some, Result, Err, List, length, reverse}
use Rattle.irq_base.specs.declared.entries.Actor.{Actor}
use Rattle.irq_base.specs.declared.entries.Entry.{Entry}
use Rattle.irq_base.specs.declared.numbers.LineNo.{LineNo}
use Rattle.irq_line.specs.declared.answers.StepRefused.{StepRefused}
use Rattle.irq_line.specs.declared.answers.StepRefused.TheVariants as refusals
use Rattle.board_def.specs.Seen.{BoardSeen}
use Rattle.board_play.specs.Lines.{Move, lines_of}
use Rattle.board_play.specs.Order.{actors_of, due_move, line_for}
use Rattle.board_play.specs.Play.{first_move}
use Rattle.board_core.specs.Seen.{SystemSeen, board_lines}
use Rattle.board_core.specs.Turns.{CanMove, MayMove, move_of}
use Rattle.board_core.specs.Wanted.{HasSpare, WantedMemory}
use Rattle.board_play.specs.Orders.{IsMade}
use Rattle.irq_pm.specs.Phases.{Phase, Picking, sleep_next, sleep_order}
use Rattle.irq_pm.specs.SleepLog.{moves_of}
use Rattle.irq_pm.specs.declared.entries.SleepEntry.{SleepEntry}
use Rattle.irq_pm.specs.declared.entries.SleepEntry.TheVariants as sleeps
use Rattle.irq_sleeper.specs.Seen.{SleeperSeen, log_of}

-- A step was refused memory, on the line of this actor, which may move. If it can, its move was the
-- one that was due.
pub record WantsDue (may_want : Option Entry → Type 0) (s : SystemSeen) (due : Option Move)
    : Type 0 where
  pub actor : Actor
  pub can : MayMove s actor
  pub its : (m : Move) → move_of s actor ≡ Some m → due ≡ Some m
  pub step : WantedMemory may_want (HasSpare s.lines) (length s.log)
      (line_for s.board (board_lines s.lines) actor) actor

abbrev pub StepWants : (Option Entry → Type 0) → SystemSeen → Option Move
    → Result Bool StepRefused → Type 0
StepWants may_want s due (Err refusals.NoMemory) = WantsDue may_want s due
StepWants may_want s due _ = Unit {0}

-- The board was put to sleep with these picks, these lines armed and these steps, the oldest first,
-- and then a step was refused memory; somebody can move. If the actor of the step can, its move is
-- the next step.
pub record WantsNext (may_want : Option Entry → Type 0) (room : LineNo → Type 0) (b : BoardSeen)
    (armed : List LineNo) (picks : List Actor) (g : List SleepEntry) : Type 0 where
  pub at : Phase
  pub so_far : IsMade (sleep_order b armed) (Picking picks) (reverse g) at
  pub some : IsSome (first_move b (lines_of b (moves_of (reverse g))) (actors_of b))
  pub actor : Actor
  pub can : CanMove b (lines_of b (moves_of (reverse g))) actor
  pub next : (m : Move) → due_move b (lines_of b (moves_of (reverse g))) actor ≡ Some m
      → (after : Phase)
      × (sleep_next b armed (moves_of (reverse g)) at ≡ Some (sleeps.Step m.0 m.1, after))
  pub step : WantedMemory may_want room (length (moves_of (reverse g)))
      (line_for b (lines_of b (moves_of (reverse g))) actor) actor

abbrev pub PlayWants : (Option Entry → Type 0) → SleeperSeen → List Actor
    → Result Unit StepRefused → Type 0
PlayWants may_want s picks (Err refusals.NoMemory) =
    WantsNext may_want (HasSpare s.system.lines) s.system.board s.watch.armed picks (log_of s)
PlayWants may_want s picks end = Unit {0}
