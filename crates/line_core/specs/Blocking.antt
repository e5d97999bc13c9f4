-- What drivers' calls wait for, read off the state.
use Rattle.std.specs.Prelude.{Bool, false, not, is_some, nat_lt, Option, Some, None, List}
use Rattle.irq_base.specs.declared.entries.Actor.{Actor}
use Rattle.irq_base.specs.declared.numbers.DevNo.{DevNo}
use Rattle.irq_base.specs.declared.waiting.Blocks.{Blocks}
use Rattle.act_thread.specs.Threads.{active_in, is_idle_at}
use Rattle.act_thread.specs.declared.rows.ThreadRow.{ThreadRow}
use Rattle.line_marks.specs.State.{StateSeen}

-- the thread of the device that is being freed isn't at rest
abbrev pub freed_in : List (DevNo × ThreadRow) → Option (Actor × DevNo) → Bool
freed_in t None = false
freed_in t (Some f) = not (is_idle_at t f.1)

abbrev pub blocks_by : StateSeen → Blocks
blocks_by s = record {
  flow = is_some s.desc.flow;
  threads = nat_lt 0 (active_in s.threads);
  mutex = is_some s.freeing;
  freed = freed_in s.threads s.freeing;
}
