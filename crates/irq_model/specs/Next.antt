-- The table of steps: the one entry that an actor may add. Each row is a definition.
use Rattle.std.specs.Prelude.{ℕ, Bool, true, false, not, ◌||◌, ◌&&◌, ◌==◌, if◌then◌else◌, Option}
use Rattle.std.specs.Prelude.{Some, None, is_some, List, [], ◌∷◌, nat_lt, length, reverse}
use Rattle.std.specs.Prelude.{option_map}
use Rattle.std.specs.List.{list_any}
use Rattle.irq_base.specs.declared.numbers.CpuNo.{CpuNo}
use Rattle.irq_base.specs.declared.numbers.DevNo.{DevNo}
use Rattle.irq_base.specs.declared.numbers.DriverNo.{DriverNo}
use Rattle.irq_base.specs.declared.calls.Flags.{Flags}
use Rattle.irq_base.specs.declared.calls.Call.{Call}
use Rattle.irq_base.specs.declared.calls.Call.TheVariants as calls
use Rattle.irq_base.specs.declared.devices.Kind.{Kind}
use Rattle.irq_base.specs.declared.devices.Kind.TheVariants as kinds
use Rattle.irq_base.specs.declared.devices.Part.TheVariants as parts
use Rattle.irq_base.specs.declared.lines.FlowKind.{FlowKind}
use Rattle.irq_base.specs.declared.lines.FlowKind.TheVariants as flows
use Rattle.irq_base.specs.declared.lines.LineDef.{LineDef}
use Rattle.irq_base.specs.declared.entries.Actor.{Actor}
use Rattle.irq_base.specs.declared.entries.Actor.TheVariants as actors
use Rattle.irq_base.specs.declared.entries.Entry.{Entry}
use Rattle.irq_base.specs.declared.entries.Entry.TheVariants as by
use Rattle.irq_base.specs.declared.entries.CpuEntry.TheVariants as cpus
use Rattle.irq_base.specs.declared.entries.ThreadEntry.TheVariants as threads
use Rattle.irq_base.specs.declared.entries.DriverEntry.TheVariants as drivers
use Rattle.irq_base.specs.declared.entries.CallEntry.{CallEntry}
use Rattle.irq_base.specs.declared.entries.CallEntry.TheVariants as called
use Rattle.irq_base.specs.declared.entries.Errno.TheVariants as errors
use Rattle.irq_base.specs.declared.entries.Way.TheVariants as ways
use Rattle.irq_base.specs.declared.entries.TakeAnswer.{TakeAnswer}
use Rattle.irq_base.specs.declared.entries.TakeAnswer.TheVariants as takes
use Rattle.irq_base.specs.declared.entries.Note.{Note}
use Rattle.irq_base.specs.declared.entries.Resend.{Resend}
use Rattle.irq_base.specs.declared.entries.Resend.TheVariants as resends
use Rattle.irq_base.specs.declared.entries.EnableAnswer.{EnableAnswer}
use Rattle.irq_base.specs.declared.entries.EnableAnswer.TheVariants as enables
use Rattle.irq_base.specs.declared.entries.Opened.{Opened}
use Rattle.irq_base.specs.declared.entries.Opened.TheVariants as opens
use Rattle.irq_base.specs.declared.entries.LinkAnswer.{LinkAnswer}
use Rattle.irq_base.specs.declared.entries.LinkAnswer.TheVariants as links
use Rattle.irq_base.specs.declared.entries.UnlinkAnswer.{UnlinkAnswer}
use Rattle.irq_base.specs.declared.entries.UnlinkAnswer.TheVariants as unlinks
use Rattle.irq_base.specs.declared.entries.AffinityAnswer.{AffinityAnswer}
use Rattle.irq_base.specs.declared.entries.AffinityAnswer.TheVariants as moves
use Rattle.irq_base.specs.Handlers.{has_thread}
use Rattle.irq_model.specs.Places.{since, before}
use Rattle.irq_model.specs.Kinds.{same_dev, is_handled, is_thread_begin, made_by}
use Rattle.irq_model.specs.Kinds.{is_thread_return, is_finish, is_kill, opened_by_enable}
use Rattle.irq_model.specs.Lines.{is_edge_line, has_device, kind_of, is_held, does_forget}
use Rattle.irq_model.specs.Links.{linked, is_linked, is_empty, is_none_linked, depth, is_disabled}
use Rattle.irq_model.specs.Links.{is_oneshot, linking_flags, has_spurious_mark}
use Rattle.irq_model.specs.Asks.{unserved_asks, is_quiet}
use Rattle.irq_model.specs.Runs.{answer_of_run_now, served_by_run, due_in_run}
use Rattle.irq_model.specs.Masks.{is_masked}
use Rattle.irq_model.specs.Rounds.{flow, has_flow, is_cpu, first_left, at_work}
use Rattle.irq_model.specs.Waiting.{is_pending, is_soft}
use Rattle.irq_model.specs.Signal.{signals, target, lowest_in}
use Rattle.irq_model.specs.Threads.{is_woken, is_running, is_some_unfinished, is_other_unfinished}
use Rattle.irq_model.specs.Threads.{active_count}
use Rattle.irq_model.specs.Due.{due_call, holds_mutex}
use Rattle.irq_model.specs.Spurious.{note_of}

-- ---- calls (`kernel/irq/manage.c`)

-- how a start sends again what is pending (`check_irq_resend`); a level shows by itself
abbrev pub resend_of : LineDef → List Entry → Resend
resend_of def past =
    if is_edge_line def && is_pending def past
    then (if def.retriggers then resends.Chip else resends.Soft) else resends.No

-- with nothing linked an enable is unbalanced (ours; `__enable_irq` looks at the depth alone)
abbrev pub enable_answer : LineDef → List Entry → EnableAnswer
enable_answer def past =
    if is_none_linked past || (depth past == 0) then enables.Unbalanced
    else (if depth past == 1 then enables.Started (resend_of def past) else enables.Lowered)

abbrev pub same_flag : Bool → Bool → Bool
same_flag a b = (a && b) || (not a && not b)

-- the flags of the request don't go with the flags of some linked action
abbrev pub flags_differ : Flags → Flags → Bool
flags_differ new old = not new.shared || (not old.shared || not (same_flag new.oneshot old.oneshot))

abbrev pub is_mismatch : Flags → List Entry → Bool
is_mismatch new past = list_any (λ d. flags_differ new (linking_flags past d)) (linked past)

abbrev pub is_null : Kind → Bool
is_null kinds.Null = true
is_null _ = false

-- the first refusal is made by `request_threaded_irq`, which holds no lock there
abbrev pub link_answer : LineDef → DevNo → Flags → List Entry → LinkAnswer
link_answer def d flags past =
    if flags.shared && flags.noauto then links.Refused errors.Inval
    else (if is_mismatch flags past then links.Refused errors.Busy
    else (if flags.oneshot && not (nat_lt (length (linked past)) 64) then links.Refused errors.Busy
    else (if is_null (kind_of def d) && not flags.oneshot then links.Refused errors.Inval
    else links.Linked)))

-- what a request that is linked makes of the depth: the first starts the line unless its flags say
-- not to; a further one enables a line that the rule on spurious interrupts disabled
abbrev pub opened_by_request : LineDef → Flags → List Entry → Opened
opened_by_request def flags past =
    if is_none_linked past
    then (if flags.noauto then opens.No else opens.Started (resend_of def past))
    else (if has_spurious_mark past then opened_by_enable (enable_answer def past) else opens.No)

abbrev pub request_with : LineDef → DriverNo → DevNo → Flags → List Entry → LinkAnswer → Entry
request_with def r d flags past links.Linked =
    by.Driver r (drivers.Request flags links.Linked (opened_by_request def flags past) d)
request_with def r d flags past (links.Refused error) =
    by.Driver r (drivers.Request flags (links.Refused error) opens.No d)

abbrev pub request_of : LineDef → DriverNo → DevNo → Flags → List Entry → Entry
request_of def r d flags past = request_with def r d flags past (link_answer def d flags past)

-- d is linked, and nothing else is
abbrev pub is_only : DevNo → List DevNo → Bool
is_only d [] = false
is_only d (e ∷ ds) = same_dev d e && is_empty ds

abbrev pub unlink_answer : DevNo → List Entry → UnlinkAnswer
unlink_answer d past =
    if is_linked past d then unlinks.Unlinked (is_only d (linked past)) else unlinks.NotThere

abbrev pub affinity_answer : LineDef → ℕ → AffinityAnswer
affinity_answer def mask =
    if is_some (lowest_in def.cpus mask) then (if def.later then moves.Later else moves.Now)
    else moves.Refused errors.Inval

-- `__synchronize_hardirq`: once no flow is in progress
abbrev pub hard_clear_of : LineDef → List Entry → Option CallEntry
hard_clear_of def past = if has_flow def past then None else Some called.HardClear

-- `synchronize_irq`: once no thread is woken or in a run
abbrev pub synced_of : LineDef → List Entry → Option CallEntry
synced_of def past = if active_count def past == 0 then Some called.Synced else None

-- the end of `__free_irq`: once the device's thread is at rest
abbrev pub freed_of : DevNo → List Entry → Option CallEntry
freed_of d past = if is_woken past d || is_running past d then None else Some (called.Freed d)

-- `synchronize_irq`; n: how many entries it has made
abbrev pub next_of_sync : LineDef → ℕ → List Entry → Option CallEntry
next_of_sync def n past = if n == 0 then hard_clear_of def past else synced_of def past

-- `disable_irq`
abbrev pub next_of_disable : LineDef → ℕ → List Entry → Option CallEntry
next_of_disable def n past =
    if n == 0 then Some called.Disable
    else (if n == 1 then hard_clear_of def past else synced_of def past)

-- `free_irq`. The hard clear stands before the thread's end, since a handler that is still at work
-- may wake the thread once more.
abbrev pub next_of_free : LineDef → DevNo → ℕ → List Entry → Option CallEntry
next_of_free def d n past =
    if n == 0
    then (if holds_mutex past then None else Some (called.Unlink (unlink_answer d past) d))
    else (if n == 1 then hard_clear_of def past else freed_of d past)

-- `request_threaded_irq`
abbrev pub next_of_request : LineDef → DriverNo → DevNo → Flags → List Entry → Option Entry
next_of_request def r d flags past =
    if holds_mutex past then None else Some (request_of def r d flags past)

-- `disable_hardirq`
abbrev pub next_of_disable_hard : LineDef → ℕ → List Entry → Option CallEntry
next_of_disable_hard def n past = if n == 0 then Some called.Disable else hard_clear_of def past

-- `irq_wake_thread`: a linked device's thread that isn't woken yet is woken; the line isn't masked
abbrev pub wake_answer : LineDef → DevNo → List Entry → Bool
wake_answer def d past =
    is_linked past d && (has_thread (kind_of def d) && not (is_woken past d))

-- an ask makes an edge unless the device's own interrupt is off, or its signal still stands; on a
-- level line each ask counts as one that does
abbrev pub ask_makes_edge : LineDef → DevNo → List Entry → Bool
ask_makes_edge def d past = not (is_edge_line def)
    || (not (is_quiet past d) && (not (is_held def d) || (unserved_asks def d past == 0)))

-- as its own interrupt is turned on, a device makes an edge over what is unserved, unless it
-- forgets; on a level line none does
abbrev pub arm_makes_edge : LineDef → DevNo → List Entry → Bool
arm_makes_edge def d past = is_edge_line def
    && (is_quiet past d && (nat_lt 0 (unserved_asks def d past) && not (does_forget def d)))

-- the step of a call that drivers, handlers and threads make alike, by how many entries it has made
abbrev pub next_step : LineDef → List Entry → Call × ℕ → Option CallEntry
next_step def past (calls.Free d, n) = next_of_free def d n past
next_step def past (calls.Disable, n) = next_of_disable def n past
next_step def past (calls.DisableNosync, n) = Some called.Disable
next_step def past (calls.Enable, n) = Some (called.Enable (enable_answer def past))
next_step def past (calls.Sync, n) = next_of_sync def n past
next_step def past (calls.SyncHard, n) = hard_clear_of def past
next_step def past (calls.DisableHard, n) = next_of_disable_hard def n past
next_step def past (calls.Wake d, n) = Some (called.Wake (wake_answer def d past) d)
next_step def past (calls.Quiet d, n) = Some (called.Quiet d)
next_step def past (calls.Arm d, n) = Some (called.Arm (arm_makes_edge def d past) d)
next_step def past (calls.Serve d, n) = Some (called.Serve d (unserved_asks def d past))
next_step def past _ = None

-- what an actor adds next by its due call: what drivers alone call, or a step that all may make
abbrev pub next_of_call : LineDef → Actor → List Entry → Call × ℕ → Option Entry
next_of_call def (actors.Driver r) past (calls.Ask d, n) =
    Some (by.Driver r (drivers.Ask (ask_makes_edge def d past) d))
next_of_call def (actors.Driver r) past (calls.Request d flags, n) =
    next_of_request def r d flags past
next_of_call def (actors.Driver r) past (calls.Affinity mask, n) =
    Some (by.Driver r (drivers.Affinity (affinity_answer def mask) mask))
next_of_call def (actors.Driver r) past (calls.Moment at, n) =
    Some (by.Driver r (drivers.Moment at))
next_of_call def a past due = option_map (made_by a) (next_step def past due)

abbrev pub next_of_driver : LineDef → DriverNo → List Entry → Option (Call × ℕ) → Option Entry
next_of_driver def r past None = None
next_of_driver def r past (Some due) = next_of_call def (actors.Driver r) past due

-- ---- threads (`irq_thread`, `irq_finalize_oneshot`)

abbrev pub finish_unmasks : LineDef → DevNo → List Entry → Bool
finish_unmasks def d past =
    not (is_woken past d)
    && (not (is_disabled past) && (is_masked def past && not (is_other_unfinished def past d)))

-- after the thread's handler returned: on a one-shot line it gives its bit up, once no flow is in
-- progress. Why it waits: a thread may be done before the flow that woke it has come to its end. If
-- it opened the line then, the interrupt could come again, mask the line, and leave since the flow
-- is in progress; the line would stay masked (so says the comment of `irq_finalize_oneshot`).
abbrev pub finish_or_done : LineDef → DevNo → List Entry → Option Entry
finish_or_done def d past =
    if is_oneshot past && not (list_any (is_finish d) (since (is_thread_return d) past))
    then (if has_flow def past then None
    else Some (by.Thread d (threads.Finish (is_woken past d) (finish_unmasks def d past))))
    else Some (by.Thread d threads.Done)

-- the thread's handler returns: what it answers, and how many asks it served
abbrev pub thread_return_of : LineDef → DevNo → List Entry → Entry
thread_return_of def d past =
    by.Thread d (threads.Return (is_handled (answer_of_run_now def parts.Thread d past))
    (served_by_run def parts.Thread d past))

-- a run that has calls left makes the next one; else it returns
abbrev pub call_or_return : LineDef → DevNo → List Entry → Option (Call × ℕ) → Option Entry
call_or_return def d past (Some due) = next_of_call def (actors.Thread d) past due
call_or_return def d past None = Some (thread_return_of def d past)

abbrev pub next_of_thread : LineDef → DevNo → List Entry → Option Entry
next_of_thread def d past =
    if not (is_running past d)
    then (if is_woken past d then Some (by.Thread d threads.Begin) else None)
    else (if not (list_any (is_thread_return d) (since (is_thread_begin d) past))
    then call_or_return def d past (due_in_run def parts.Thread d past)
    else finish_or_done def d past)

-- ---- processors: in the flow (`handle_irq_event`, and the ends of the flow handlers)

-- the handler returns: what it answers, and how many asks it served
abbrev pub return_of : LineDef → CpuNo → DevNo → List Entry → Entry
return_of def c d past = by.Cpu c
    (cpus.Return (answer_of_run_now def parts.Primary d past) d
    (served_by_run def parts.Primary d past))

-- disabled already, or by this very note
abbrev pub is_off_now : List Entry → Note → Bool
is_off_now past note = is_disabled past
    || is_kill (by.Cpu (record { 0 = 0 }) (cpus.End false false note))

abbrev pub end_edge : LineDef → CpuNo → List Entry → Note → Bool → Entry
end_edge def c past note again = by.Cpu c (cpus.End again (again && is_masked def past) note)

abbrev pub end_level : LineDef → CpuNo → List Entry → Note → Bool → Entry
end_level def c past note may_open =
    by.Cpu c (cpus.End false
    (may_open && (is_masked def past && not (is_some_unfinished def past))) note)

-- the flow's end: the edge flow goes on with what is pending; the level flow opens the line unless
-- a thread still holds it; the fast-EOI flow does so on a one-shot level line, and on an edge line
-- sends what is pending again (ours). Why an edge line sends it again: this flow has no loop, and
-- the controller has forgotten an edge that was taken while the flow was in progress.
abbrev pub end_by_flow : LineDef → FlowKind → CpuNo → List Entry → Note → Entry
end_by_flow def flows.Edge c past note =
    end_edge def c past note (is_pending def past && not (is_off_now past note))
end_by_flow def flows.Level c past note = end_level def c past note (not (is_off_now past note))
end_by_flow def flows.Eoi c past note =
    if is_edge_line def
    then by.Cpu c (cpus.End (is_pending def past && not (is_off_now past note)) false note)
    else end_level def c past note (not (is_off_now past note) && is_oneshot past)

abbrev pub end_of : LineDef → CpuNo → List Entry → Entry
end_of def c past = end_by_flow def def.flow c past (note_of def past)

abbrev pub begin_or_end : LineDef → CpuNo → List Entry → Option DevNo → Entry
begin_or_end def c past None = end_of def c past
begin_or_end def c past (Some d) = by.Cpu c (cpus.Begin d)

abbrev pub handler_or_return : LineDef → CpuNo → DevNo → List Entry → Option (Call × ℕ)
    → Option Entry
handler_or_return def c d past (Some due) = next_of_call def (actors.Cpu c) past due
handler_or_return def c d past None = Some (return_of def c d past)

-- a handler that is at work makes its next call, or returns; else the first handler that is left is
-- called; else the round ends
abbrev pub next_in_flow : LineDef → CpuNo → List Entry → Option DevNo → Option Entry
next_in_flow def c past (Some d) =
    handler_or_return def c d past (due_in_run def parts.Primary d past)
next_in_flow def c past None = Some (begin_or_end def c past (first_left def past (linked past)))

-- ---- processors: taking an interrupt (the flow handlers' beginnings)

-- Why Busy: one processor at a time walks the actions. What another takes meanwhile is left pending
-- on an edge line, and on the edge flow the line is masked, so that the same source can't come
-- again and again until the first one goes on with it.
abbrev pub take_answer : LineDef → List Entry → TakeAnswer
take_answer def past =
    if has_flow def past then takes.Busy
    else (if is_disabled past || is_none_linked past then takes.Off else takes.Handle)

-- the target takes what is signalled, or else what the software resends (two things are ours: the
-- target takes the resend, and the signal comes first)
abbrev pub next_take : LineDef → CpuNo → List Entry → Option Entry
next_take def c past =
    if not (is_cpu c (target def past)) then None
    else (if signals def past then Some (by.Cpu c (cpus.Take ways.Line (take_answer def past)))
    else (if is_soft past then Some (by.Cpu c (cpus.Take ways.Resend (take_answer def past)))
    else None))

abbrev pub next_of_cpu : LineDef → CpuNo → List Entry → Option Entry
next_of_cpu def c past =
    if is_cpu c (flow def past) then next_in_flow def c past (at_work past)
    else next_take def c past

-- ---- the table

-- the entry that is due for the actor, after a past whose newest entry comes first; none for the
-- thread of a device that the line lacks
abbrev pub next_past : LineDef → List Entry → Actor → Option Entry
next_past def past (actors.Thread d) =
    if has_device def d then next_of_thread def d past else None
next_past def past (actors.Cpu c) = next_of_cpu def c past
next_past def past (actors.Driver r) = next_of_driver def r past (due_call def r past)

-- the entry that is due for the actor after a history, whose oldest entry comes first
abbrev pub next : LineDef → List Entry → Actor → Option Entry
next def h a = next_past def (reverse h) a
