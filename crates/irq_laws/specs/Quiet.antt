-- A line at rest.
use Rattle.std.specs.Prelude.{◌≡◌, false, ◌||◌, List, reverse}
use Rattle.irq_base.specs.declared.numbers.DevNo.{DevNo}
use Rattle.irq_base.specs.declared.lines.LineDef.{LineDef}
use Rattle.irq_base.specs.declared.entries.Entry.{Entry}
use Rattle.irq_model.specs.Rounds.{has_flow}
use Rattle.irq_model.specs.Threads.{is_woken, is_running}
use Rattle.irq_model.specs.Due.{holds_mutex}
use Rattle.irq_model.specs.Reason.{is_called}

-- nothing is at work on the line
pub record IsQuiet (def : LineDef) (h : List Entry) : Type 0 where
  pub no_flow : has_flow def (reverse h) ≡ false
  -- each handler that was called has returned
  pub no_handler : (d : DevNo) → is_called (reverse h) d ≡ false
  -- no thread is to run, and none is in a run
  pub no_thread : (d : DevNo) → (is_woken (reverse h) d || is_running (reverse h) d) ≡ false
  -- no free is under way
  pub no_free : holds_mutex (reverse h) ≡ false
