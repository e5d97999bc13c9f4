-- What is kept beside the log to know at once what wakes the machine.
use Rattle.std.specs.Prelude.{◌≡◌, not, ◌&&◌, Option, List}
use Rattle.irq_base.specs.declared.numbers.LineNo.{LineNo}
use Rattle.board_play.specs.Lines.{Move}
use Rattle.irq_pm.specs.Waking.{is_among, was_disabled, woken_by}

-- the armed lines, those of them that the system's driver hasn't disabled, and the line that has
-- woken the machine
pub record WatchSeen : Type 0 where
  pub armed : List LineNo
  pub awake : List LineNo
  pub woken : Option LineNo

-- so they are after these moves, the newest first
pub record Watches (w : WatchSeen) (g : List Move) : Type 0 where
  pub awake : (line : LineNo) → is_among line w.awake
      ≡ (is_among line w.armed && not (was_disabled line g))
  pub woken : w.woken ≡ woken_by w.armed g
