-- What a driver's call waits for (`kernel/irq/manage.c`), read off the table of steps.
use Rattle.std.specs.Prelude.{◌≡◌, ℕ, suc, ◌==◌, Bool, false, ◌&&◌, ◌||◌, if◌then◌else◌, IsSome}
use Rattle.std.specs.Prelude.{Some, List, reverse}
use Rattle.std.specs.List.{list_any}
use Rattle.irq_base.specs.declared.numbers.DevNo.{DevNo}
use Rattle.irq_base.specs.declared.calls.Call.{Call}
use Rattle.irq_base.specs.declared.calls.Call.TheVariants as calls
use Rattle.irq_base.specs.declared.lines.LineDef.{LineDef}
use Rattle.irq_base.specs.declared.entries.Actor.{Actor}
use Rattle.irq_base.specs.declared.entries.Entry.{Entry}
use Rattle.irq_base.specs.declared.waiting.WaitFor.{WaitFor}
use Rattle.irq_base.specs.declared.waiting.WaitFor.TheVariants as waits
use Rattle.irq_model.specs.Rounds.{has_flow}
use Rattle.irq_model.specs.Reason.{is_being_freed}
use Rattle.irq_model.specs.Threads.{is_woken, is_running}
use Rattle.irq_model.specs.Due.{holds_mutex}
use Rattle.irq_model.specs.Next.{next}
use Rattle.irq_laws.specs.Actors.{due_of_actor}
use Rattle.irq_laws.specs.Kept.{freeing}

-- what a call waits for once it has made n entries: a hard clear for the end of the flow
-- (`__synchronize_hardirq`), a sync for the rest of all threads (`synchronize_irq`), a request and
-- a free for the request mutex, and a free's end for the rest of the device that is being freed
-- (`kthread_stop`)
abbrev pub block_of : Call → ℕ → WaitFor
block_of (calls.Request dev flags) n = waits.Mutex
block_of (calls.Free dev) n =
    if n == 0 then waits.Mutex else (if n == 1 then waits.Flow else waits.Freed)
block_of calls.Disable n =
    if n == 0 then waits.Nothing else (if n == 1 then waits.Flow else waits.Threads)
block_of calls.Sync n = if n == 0 then waits.Flow else waits.Threads
block_of calls.SyncHard n = waits.Flow
block_of calls.DisableHard n = if n == 0 then waits.Nothing else waits.Flow
block_of _ n = waits.Nothing

-- whether a thread of some device of the line is woken or in a run
abbrev pub are_threads_at_work : LineDef → List Entry → Bool
are_threads_at_work def past =
    list_any (λ x. is_woken past x.dev || is_running past x.dev) def.devices

-- whether the thread of the device that is being freed is woken or in a run
abbrev pub is_freed_at_work : LineDef → List Entry → Bool
is_freed_at_work def past = list_any (λ x. is_being_freed past x.dev
    && (is_woken past x.dev || is_running past x.dev)) def.devices

-- what is waited for stands in the way
abbrev pub stands_in_way : LineDef → List Entry → WaitFor → Bool
stands_in_way def past waits.Nothing = false
stands_in_way def past waits.Flow = has_flow def past
stands_in_way def past waits.Threads = are_threads_at_work def past
stands_in_way def past waits.Mutex = holds_mutex past
stands_in_way def past waits.Freed = is_freed_at_work def past

-- a free is under way, and its maker, which holds the mutex, may add its next entry
pub record FreeMoves (def : LineDef) (h : List Entry) : Type 0 where
  pub maker : Actor
  pub dev : DevNo
  pub under_way : freeing (reverse h) ≡ Some (maker, dev)
  -- how many entries the free has made after its unlink
  pub after_unlink : ℕ
  pub call : due_of_actor def maker (reverse h) ≡ Some (calls.Free dev, suc after_unlink)
  pub moves : IsSome (next def h maker)
