-- What a step of a sleep comes to, and what a sleep has come to.
use Rattle.std.specs.Prelude.{◌≡◌, ◌≤◌, Bool, true, false, IfSome, IsSome, Option, Some, None}
use Rattle.std.specs.Prelude.{Result, Ok, Err, List, ◌∷◌, length, reverse}
use Rattle.irq_base.specs.declared.entries.Actor.{Actor}
use Rattle.irq_base.specs.declared.numbers.LineNo.{LineNo}
use Rattle.irq_line.specs.declared.answers.StepRefused.{StepRefused}
use Rattle.irq_line.specs.declared.answers.StepRefused.TheVariants as refusals
use Rattle.board_core.specs.Playing.{IsFresh as IsFreshSystem}
use Rattle.board_core.specs.Seen.{SystemSeen, board_lines}
use Rattle.board_core.specs.Turns.{Moves, IsFullFor, lowest_move}
use Rattle.board_core.specs.declared.turns.Turn.{Turn}
use Rattle.board_core.specs.declared.turns.Turn.TheVariants as turns
use Rattle.board_play.specs.Lines.{Move, lines_of, part}
use Rattle.board_play.specs.Play.{Done, Full}
use Rattle.board_play.specs.Orders.{IsMade}
use Rattle.irq_pm.specs.Phases.{Phase, Picking, Disabling, Asleep, Enabling, Going, ask_move}
use Rattle.irq_pm.specs.Phases.{inner_move, last_move, sleep_next, sleep_order}
use Rattle.irq_sleeper.specs.Seen.{SleeperSeen, log_of}
use Rattle.irq_pm.specs.SleepLog.{moves_of}
use Rattle.irq_pm.specs.Slept.{Sleeps}
use Rattle.irq_sleeper.specs.Watching.{Watches}

-- nothing has happened
pub record IsFresh (s : SleeperSeen) : Type 0 where
  pub system : IsFreshSystem s.system
  pub awake : s.watch.awake ≡ s.watch.armed
  pub woken : s.watch.woken ≡ None
  pub asleep : s.asleep ≡ None
  pub wake : s.wake ≡ None

-- ---- one step

-- the moves that may be due: of the system's driver, of the lowest thread or processor, of the
-- lowest driver that asks
abbrev pub last_of : SystemSeen → Option Move
last_of s = last_move s.board (board_lines s.lines)

abbrev pub inner_of : SystemSeen → Option Move
inner_of s = inner_move s.board (board_lines s.lines)

abbrev pub ask_of : SystemSeen → Option Move
ask_of s = ask_move s.board (board_lines s.lines)

-- the move that was due is made, and no mark
pub record Made (old : SleeperSeen) (due : Option Move) (new : SleeperSeen) : Type 0 where
  pub move : Move
  pub moves : Moves old.system due move new.system
  pub armed : new.watch.armed ≡ old.watch.armed
  pub asleep : new.asleep ≡ old.asleep
  pub wake : new.wake ≡ old.wake

-- and the watch knows of it
pub record Watched (old : SleeperSeen) (due : Option Move) (new : SleeperSeen) : Type 0 where
  pub made : Made old due new
  pub watch : (g : List Move) → Watches old.watch g → Watches new.watch (made.move ∷ g)

-- what the watch knows after the move, and nothing else has changed
pub record Heeded (old : SleeperSeen) (new : SleeperSeen) : Type 0 where
  pub system : new.system ≡ old.system
  pub armed : new.watch.armed ≡ old.watch.armed
  pub asleep : new.asleep ≡ old.asleep
  pub wake : new.wake ≡ old.wake

-- what is answered and left after a turn: whether it made a move
abbrev pub Heeds : SleeperSeen → Turn → Bool → SleeperSeen → Type 0
Heeds old (turns.Moved line e) made new = (made ≡ true) × Heeded old new
    × ((g : List Move) → Watches old.watch g → Watches new.watch ((line, e) ∷ g))
Heeds old turns.NotYet made new = (made ≡ false) × (new ≡ old)

-- the move that is due wasn't made: its line has no room, or memory was needed, which it is only
-- while somebody can move
abbrev pub IsRefused : SystemSeen → Option Move → StepRefused → Type 0
IsRefused s due (refusals.Full line len) = IsFullFor s due line len
IsRefused s due refusals.NoMemory = IsSome (lowest_move s)

-- what a step answers and leaves, true if a move was made; `due` is the move to be made, if there
-- is one
abbrev pub StepsBy : SleeperSeen → Option Move → Result Bool StepRefused → SleeperSeen → Type 0
StepsBy old due (Ok true) new = Watched old due new
StepsBy old due (Ok false) new = (due ≡ None) × (new ≡ old)
StepsBy old due (Err refused) new = IsRefused old.system due refused × (new ≡ old)

-- ---- a sleep

-- The log is the sleep of the board with these picks, done or full as was answered; a full one says
-- the length. If memory was refused it is the sleep so far, and somebody can move.
abbrev pub IsSleep : SleeperSeen → List Actor → Result Unit StepRefused → Type 0
IsSleep s picks (Ok _) =
    Sleeps s.system.board s.watch.armed picks (reverse (log_of s)) Done
IsSleep s picks (Err (refusals.Full line len)) =
    Sleeps s.system.board s.watch.armed picks (reverse (log_of s)) (Full line)
    × (length (part line (reverse s.system.log)) ≡ len)
IsSleep s picks (Err refusals.NoMemory) =
    (at : Phase) × IsMade (sleep_order s.system.board s.watch.armed) (Picking picks)
    (reverse (log_of s)) at × IsSome (lowest_move s.system)

-- the lines are as the moves leave them, and the log has the moves
pub record IsTold (s : SleeperSeen) : Type 0 where
  pub lines : board_lines s.system.lines ≡ lines_of s.system.board (reverse s.system.log)
  pub told : moves_of (reverse (log_of s)) ≡ reverse s.system.log

-- the marks stand as they do in the phase, no mark behind the log's end
abbrev pub AreMarked : Phase → SleeperSeen → Type 0
AreMarked (Picking picks) s = (s.asleep ≡ None) × (s.wake ≡ None)
AreMarked Disabling s = (s.asleep ≡ None) × (s.wake ≡ None)
AreMarked Asleep s = IfSome s.asleep (λ k. k ≤ length s.system.log) × (s.wake ≡ None)
AreMarked Enabling s = IfSome s.asleep (λ k. k ≤ length s.system.log)
    × IfSome s.wake (λ w. w.at ≤ length s.system.log)
AreMarked Going s = IfSome s.asleep (λ k. k ≤ length s.system.log)
    × IfSome s.wake (λ w. w.at ≤ length s.system.log)

-- each step so far was the next one, and the sleep stands in a phase with the same next step as
-- this one
pub record IsUnderway (s : SleeperSeen) (picks : List Actor) (at : Phase) : Type 0 where
  pub told : IsTold s
  pub marks : AreMarked at s
  pub watch : Watches s.watch (reverse s.system.log)
  pub phase : Phase
  pub made : IsMade (sleep_order s.system.board s.watch.armed) (Picking picks)
      (reverse (log_of s)) phase
  pub next : sleep_next s.system.board s.watch.armed (reverse s.system.log) phase
      ≡ sleep_next s.system.board s.watch.armed (reverse s.system.log) at

-- the board, its layout and the armed lines stay
pub record Stays (old new : SleeperSeen) : Type 0 where
  pub board : new.system.board ≡ old.system.board
  pub layout : new.system.layout ≡ old.system.layout
  pub armed : new.watch.armed ≡ old.watch.armed

-- from the first to the new the sleep goes on, and stands in this phase
abbrev pub GoesTo : SleeperSeen → SleeperSeen → List Actor → Phase → Type 0
GoesTo first new picks at = Stays first new × IsUnderway new picks at

-- or it ends so
abbrev pub EndsIn : SleeperSeen → SleeperSeen → List Actor → Result Unit StepRefused → Type 0
EndsIn first new picks end = Stays first new × (IsTold new × IsSleep new picks end)

-- it goes on to this phase, or a step is refused
abbrev pub Reaches : SleeperSeen → SleeperSeen → List Actor → Phase → Result Unit StepRefused
    → Type 0
Reaches first new picks at (Ok _) = GoesTo first new picks at
Reaches first new picks at (Err refused) = EndsIn first new picks (Err refused)

-- the lines are asleep, if that is answered; or no step is left before, or one is refused
abbrev pub Suspends : SleeperSeen → SleeperSeen → List Actor → Result Bool StepRefused → Type 0
Suspends first new picks (Ok true) = GoesTo first new picks Asleep
Suspends first new picks (Ok false) = EndsIn first new picks (Ok tt)
Suspends first new picks (Err refused) = EndsIn first new picks (Err refused)

-- a mark is set behind the log
abbrev pub IsAsleep : SleeperSeen → SleeperSeen → Type 0
IsAsleep old new = new ≡ record old { asleep = Some (length old.system.log) }

abbrev pub IsWoken : SleeperSeen → Option LineNo → SleeperSeen → Type 0
IsWoken old line new =
    new ≡ record old { wake = Some (record { at = length old.system.log; line = line }) }
