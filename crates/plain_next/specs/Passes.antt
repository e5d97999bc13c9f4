-- Which entries pass a test.
use Rattle.std.specs.Prelude.{Bool, not, ◌&&◌, ◌||◌}
use Rattle.irq_base.specs.Cell.{is_edge_trigger}
use Rattle.irq_base.specs.declared.entries.Entry.{Entry}
use Rattle.irq_model.specs.Asks.{begins_run, returns_served}
use Rattle.irq_model.specs.Kinds.{is_ask, is_begin, is_begin_or_return, returns_wake}
use Rattle.irq_model.specs.Kinds.{returns_handled, wakes, is_thread_begin, is_thread_return}
use Rattle.irq_model.specs.Kinds.{is_finish, is_cleared_finish, is_done, is_take, is_resend_take}
use Rattle.irq_model.specs.Kinds.{is_handle, is_busy, is_off, is_again, is_leave, is_kill}
use Rattle.irq_model.specs.Kinds.{is_linked_request, links_dev, unlinks_dev, is_soft_start}
use Rattle.irq_model.specs.Kinds.{is_freed, is_freed_by, is_serve, turns_off, turns_on}
use Rattle.irq_model.specs.Kinds.{is_cpu_call, is_thread_call, is_by_driver}
use Rattle.irq_model.specs.Lines.{is_eoi_flow}
use Rattle.irq_model.specs.Links.{is_deepening, is_lowering}
use Rattle.irq_model.specs.Waiting.{clears_pending}
use Rattle.plain_next.specs.declared.entry_tests.EntryTest.{EntryTest}
use Rattle.plain_next.specs.declared.entry_tests.EntryTest.TheVariants as tests

unfoldable pub passes : EntryTest → Entry → Bool
passes (tests.Ask d) = is_ask d
passes (tests.Begin d) = is_begin d
passes tests.BeginOrReturn = is_begin_or_return
passes (tests.BeginsRun part d) = begins_run part d
passes (tests.ReturnsServed part d) = returns_served part d
passes (tests.Serve d) = is_serve d
passes (tests.TurnsOff d) = turns_off d
passes (tests.TurnsOn d) = turns_on d
passes tests.CpuCall = is_cpu_call
passes (tests.ThreadCall d) = is_thread_call d
passes tests.ReturnsWake = returns_wake
passes tests.ReturnsHandled = returns_handled
passes (tests.Wakes d) = wakes d
passes (tests.ThreadBegin d) = is_thread_begin d
passes (tests.ThreadReturn d) = is_thread_return d
passes (tests.Finish d) = is_finish d
passes (tests.ClearedFinish d) = is_cleared_finish d
passes (tests.Done d) = is_done d
passes tests.Take = is_take
passes tests.ResendTake = is_resend_take
passes (tests.HandleOrClose flow) = λ e. is_handle e ||
    (is_leave e || (is_eoi_flow flow && is_again e))
passes (tests.BeginsRound flow) = λ e. is_handle e || (is_again e && not (is_eoi_flow flow))
passes (tests.SetsPending trigger) = λ e. is_off e || (is_edge_trigger trigger && is_busy e)
passes tests.ClearsPending = clears_pending
passes tests.SoftStart = is_soft_start
passes tests.Kill = is_kill
passes tests.Deepening = is_deepening
passes tests.Lowering = is_lowering
passes tests.LinkedRequest = is_linked_request
passes (tests.Links d) = links_dev d
passes (tests.Unlinks d) = unlinks_dev d
passes (tests.Freed d) = is_freed d
passes (tests.FreedBy a) = is_freed_by a
passes (tests.ByDriver r) = is_by_driver r
