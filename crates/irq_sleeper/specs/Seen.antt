-- What is seen of a board that sleeps: its system, the watch, and where the marks stand.
use Rattle.std.specs.Prelude.{ℕ, ◌+◌, ◌==◌, if◌then◌else◌, Option, Some, None, List, [], ◌∷◌, ◌++◌}
use Rattle.board_core.specs.Seen.{SystemSeen}
use Rattle.board_play.specs.Lines.{Move}
use Rattle.irq_sleeper.specs.Watching.{WatchSeen}
use Rattle.irq_pm.specs.declared.entries.SleepEntry.{SleepEntry}
use Rattle.irq_pm.specs.declared.entries.SleepEntry.TheVariants as sleeps
use Rattle.irq_sleeper.specs.declared.marks.WakeMark.{WakeMark}

pub record SleeperSeen : Type 0 where
  pub system : SystemSeen
  pub watch : WatchSeen
  -- before which of the moves, counted from 0, the machine is asleep, and wakes
  pub asleep : Option ℕ
  pub wake : Option WakeMark

-- the mark, if it stands before move n
abbrev pub asleep_at : Option ℕ → ℕ → List SleepEntry
asleep_at None n = []
asleep_at (Some k) n = if k == n then (sleeps.Asleep ∷ []) else []

abbrev pub wake_at : Option WakeMark → ℕ → List SleepEntry
wake_at None n = []
wake_at (Some w) n = if w.at == n then (sleeps.Wake w.line ∷ []) else []

abbrev pub marks_at : Option ℕ → Option WakeMark → ℕ → List SleepEntry
marks_at asleep wake n = asleep_at asleep n ++ wake_at wake n

-- the moves from move n on, with the marks before each, the oldest first
abbrev pub marked : Option ℕ → Option WakeMark → ℕ → List Move → List SleepEntry
marked asleep wake n [] = marks_at asleep wake n
marked asleep wake n (m ∷ g) =
    marks_at asleep wake n ++ sleeps.Step m.0 m.1 ∷ marked asleep wake (n + 1) g

-- the log, the oldest first
abbrev pub log_of : SleeperSeen → List SleepEntry
log_of s = marked s.asleep s.wake 0 s.system.log
