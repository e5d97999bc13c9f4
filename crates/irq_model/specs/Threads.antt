-- What the threads of a line's devices do (`irq_thread`, `irq_finalize_oneshot` of
-- `kernel/irq/manage.c`; `IRQTF_RUNTHREAD`, `desc->threads_oneshot`, `desc->threads_active`).
use Rattle.std.specs.Prelude.{ℕ, ◌+◌, Bool, not, ◌&&◌, List}
use Rattle.std.specs.List.{list_any}
use Rattle.irq_base.specs.declared.numbers.DevNo.{DevNo}
use Rattle.irq_base.specs.declared.lines.LineDef.{LineDef}
use Rattle.irq_base.specs.declared.entries.Entry.{Entry}
use Rattle.irq_model.specs.Places.{stands, since, count_of}
use Rattle.irq_model.specs.Kinds.{same_dev, wakes, is_thread_begin, is_done, is_cleared_finish}
use Rattle.irq_model.specs.Kinds.{links_dev}
use Rattle.irq_model.specs.Links.{linking_flags}

-- the thread is to run: a wake, by its handler's return or by a call, has no beginning of its run
-- after it
abbrev pub is_woken : List Entry → DevNo → Bool
is_woken past d = stands (wakes d) (is_thread_begin d) past

-- the thread is in a run
abbrev pub is_running : List Entry → DevNo → Bool
is_running past d = stands (is_thread_begin d) (is_done d) past

-- the device's thread bit stands: it was linked one-shot, and since then its thread was woken, by
-- its handler's return or by a call, and no finish gave the bit up
abbrev pub is_unfinished : List Entry → DevNo → Bool
is_unfinished past d = (linking_flags past d).oneshot
    && stands (wakes d) (is_cleared_finish d) (since (links_dev d) past)

abbrev pub is_some_unfinished : LineDef → List Entry → Bool
is_some_unfinished def past = list_any (λ x. is_unfinished past x.dev) def.devices

abbrev pub is_other_unfinished : LineDef → List Entry → DevNo → Bool
is_other_unfinished def past d =
    list_any (λ x. not (same_dev d x.dev) && is_unfinished past x.dev) def.devices

-- how many threads are woken, and how many are in a run
abbrev pub active_count : LineDef → List Entry → ℕ
active_count def past = count_of (λ x. is_woken past x.dev) def.devices + count_of
    (λ x. is_running past x.dev) def.devices
