-- What a sleep of a board is, and what is promised of it. The newest comes first.
use Rattle.std.specs.Prelude.{◌≡◌, ◌<◌, true, false, Option, List, ◌∷◌}
use Rattle.std.specs.List.{list_any}
use Rattle.irq_base.specs.declared.entries.Actor.{Actor}
use Rattle.irq_base.specs.declared.entries.Entry.{Entry}
use Rattle.irq_base.specs.declared.numbers.LineNo.{LineNo}
use Rattle.irq_model.specs.Kinds.{is_kill}
use Rattle.irq_model.specs.Links.{depth}
use Rattle.irq_model.specs.Places.{EachEntry}
use Rattle.board_def.specs.Seen.{BoardSeen}
use Rattle.board_driver.specs.Longer.{last_driver}
use Rattle.board_play.specs.Play.{End}
use Rattle.board_play.specs.Orders.{IsPlayed}
use Rattle.irq_pm.specs.Sleeping.{is_enable_by, since_disable, before_disable, is_suspended}
use Rattle.irq_pm.specs.Sleeping.{is_asleep, is_left_alone}
use Rattle.irq_pm.specs.SleptLines.{begins_run}
use Rattle.irq_pm.specs.Phases.{Picking, sleep_order}
use Rattle.irq_pm.specs.SleepLog.{moves_of}
use Rattle.irq_pm.specs.Waking.{woken_by}
use Rattle.irq_pm.specs.declared.entries.SleepEntry.{SleepEntry}
use Rattle.irq_pm.specs.declared.entries.SleepEntry.TheVariants as sleeps

-- these steps and marks are the sleep of the board, which has the system's driver, and so it ends
abbrev pub Sleeps : BoardSeen → List LineNo → List Actor → List SleepEntry → End → Type 0
Sleeps b armed picks g end = IsPlayed (sleep_order b armed) (Picking picks) g end

-- the enable is the system's, and the line wasn't disabled before its disable, nor killed since
pub record IsReopened (e : Entry) (past : List Entry) : Type 0 where
  pub enable : is_enable_by last_driver e ≡ true
  pub suspended : is_suspended last_driver past ≡ true
  pub open_before : depth (before_disable last_driver past) ≡ 0
  pub unkilled : list_any is_kill (since_disable last_driver past) ≡ false

-- a line's history over a sleep, the newest entry first
pub record SleepsThrough (past : List Entry) : Type 0 where
  -- from the driver's disable to its enable nobody else disables or enables the line, links or
  -- unlinks a device
  pub alone : EachEntry (λ e past. is_suspended last_driver (e ∷ past) ≡ true
      → is_left_alone last_driver (e ∷ past) ≡ true) past
  -- while it sleeps no handler is called, and no thread begins a run
  pub still : EachEntry (λ e past. is_asleep last_driver past ≡ true → begins_run e ≡ false) past
  -- and it is disabled
  pub deep : EachEntry (λ e past. is_asleep last_driver (e ∷ past) ≡ true
      → 0 < depth (e ∷ past)) past
  -- a line that was open, and that no end has killed, is open again right after the enable
  pub opens : EachEntry (λ e past. IsReopened e past → depth (e ∷ past) ≡ 0) past

-- The wake names the line of the first take that wakes, and none exactly where there is none.
abbrev pub NamesWaker : List LineNo → List SleepEntry → Type 0
NamesWaker armed g = EachEntry (λ e past. (line : Option LineNo) → e ≡ sleeps.Wake line
    → line ≡ woken_by armed (moves_of past)) g
