-- The threads of a line follow its history.
use Rattle.std.proofs.Common.{◌≡◌, ℕ, Bool, true, false, not, ◌||◌, ◌&&◌, List, [], ◌∷◌, refl, sym, ap, ◌∙◌, arith}
use Rattle.std.specs.List.{list_any}
use Rattle.irq_base.specs.declared.calls.Flags.{Flags}
use Rattle.irq_base.specs.declared.devices.Answer.TheVariants as answers
use Rattle.irq_base.specs.declared.entries.Actor.{Actor}
use Rattle.irq_base.specs.declared.entries.Actor.TheVariants as actors
use Rattle.irq_base.specs.declared.entries.CallEntry.{CallEntry}
use Rattle.irq_base.specs.declared.entries.CallEntry.TheVariants as called
use Rattle.irq_base.specs.declared.entries.Entry.{Entry}
use Rattle.irq_base.specs.declared.entries.Entry.TheVariants as by
use Rattle.irq_base.specs.declared.entries.CpuEntry.TheVariants as cpus
use Rattle.irq_base.specs.declared.entries.ThreadEntry.TheVariants as threads
use Rattle.irq_base.specs.declared.entries.DriverEntry.TheVariants as drivers
use Rattle.irq_base.specs.declared.entries.LinkAnswer.TheVariants as links
use Rattle.irq_base.specs.declared.entries.Opened.{Opened}
use Rattle.irq_base.specs.declared.lines.LineDef.{LineDef}
use Rattle.irq_base.specs.declared.numbers.CpuNo.{CpuNo}
use Rattle.irq_base.specs.declared.numbers.DevNo.{DevNo}
use Rattle.irq_base.specs.declared.numbers.DriverNo.{DriverNo}
use Rattle.irq_model.specs.Kinds.{same_dev, links_dev, wakes, is_cleared_finish, made_by}
use Rattle.irq_model.specs.Legal.{IsDue, IsLegalPast}
use Rattle.irq_model.specs.Lines.{is_device}
use Rattle.irq_model.specs.Links.{linking_flags, is_linked, is_oneshot}
use Rattle.irq_model.specs.Places.{since, stands}
use Rattle.irq_model.specs.Reason.{is_being_freed}
use Rattle.irq_model.specs.Threads.{is_woken, is_running, is_unfinished}
use Rattle.irq_model.specs.Valid.{IsValid}
use Rattle.irq_model.proofs.Same.{same_self, same_both, dev_from_same}
use Rattle.irq_laws.proofs.ImpliesDriver.{request_due}
use Rattle.irq_laws.proofs.ImpliesFlow.{return_due}
use Rattle.irq_laws.proofs.ImpliesThread.{thread_begin_due, thread_return_due, finish_due, done_due}
use Rattle.irq_laws.proofs.KeptAlways.{kept}
use Rattle.irq_laws.proofs.RestKept.{no_part, parts_of, none_freed, called_there, running_there, woken_there, there_named, woken_was_linked}
use Rattle.irq_laws.proofs.WantedKept.{requested_unlinked}
use Rattle.irq_laws.specs.Actors.{by_someone}
use Rattle.irq_laws.specs.Kept.{Kept}
use Rattle.device_table.proofs.Tables.{same_table, change_table}
use Rattle.act_thread.specs.Steps.{woken_row, begun_row, returned_row, finished_row, done_row}
use Rattle.act_thread.specs.Threads.{threads_after, threads_by_call}
use Rattle.act_thread.specs.declared.rows.Stage.{Stage}
use Rattle.act_thread.specs.declared.rows.Stage.TheVariants as stages
use Rattle.act_thread.specs.declared.rows.ThreadRow.{ThreadRow}
use Rattle.line_marks.specs.Threads.{has_returned, has_finished, stage_by, thread_of, threads_of}

abbrev row : Bool → Stage → Bool → ThreadRow
row w s h = record { woken = w; stage = s; held = h }

-- ---- when d is woken, its bit stands exactly if it was linked one-shot

abbrev IsWokenHeld : List Entry → Type 0
IsWokenHeld past = (d : DevNo) → is_woken past d ≡ true → is_unfinished past d ≡ (linking_flags past d).oneshot

not_woken : {P : Type 0} (b : Bool) → b ≡ false → b ≡ true → P
not_woken b h i = cc

-- ---- the request of a device finds its thread at rest

at_rest : (def : LineDef) (r : DriverNo) (x : DevNo) (flags : Flags) (opened : Opened) (past : List Entry) → IsValid def
    → IsDue def (by.Driver r (drivers.Request flags links.Linked opened x)) past → Kept def past
    → (is_woken past x ≡ false) × (is_running past x ≡ false) × (is_unfinished past x ≡ false)
at_rest def r x flags opened past valid due k =
    let u = request_due def r x flags links.Linked opened past due in
    let off = requested_unlinked def r x flags _ past valid k.wanted u.call in
    let p = parts_of past x (k.rest.at_rest x off (none_freed def past k u.no_mutex x)) in
    (p.0, p.1, p.2)

-- ---- when a thread is woken, its bit stands if it was linked one-shot

held_now : (f s : Bool) → (f && true) ≡ f
held_now true s = refl
held_now false s = refl

-- a wake of x, seen at d
wakes_held : (def : LineDef) (c : CpuNo) (x : DevNo) (n : ℕ) (past : List Entry) → IsWokenHeld past
    → IsWokenHeld (by.Cpu c (cpus.Return answers.Wake x n) ∷ past)
wakes_held def c x n past h d = by_test (same_dev d x) refl
  where
    by_test : (b : Bool) → same_dev d x ≡ b → is_woken (by.Cpu c (cpus.Return answers.Wake x n) ∷ past) d ≡ true
        → is_unfinished (by.Cpu c (cpus.Return answers.Wake x n) ∷ past) d ≡ (linking_flags (by.Cpu c (cpus.Return answers.Wake x n) ∷ past) d).oneshot
    by_test true is = λ on. rw is (held_now (linking_flags past d).oneshot true)
    by_test false is = rw is (h d)

-- and a call's
call_held : (call : CallEntry) (past : List Entry) → IsWokenHeld past → IsWokenHeld (by_someone call ∷ past)
call_held (called.Wake woken x) past h d = by_test (woken && same_dev d x) refl
  where
    by_test : (b : Bool) → (woken && same_dev d x) ≡ b → is_woken (by_someone (called.Wake woken x) ∷ past) d ≡ true
        → is_unfinished (by_someone (called.Wake woken x) ∷ past) d ≡ (linking_flags (by_someone (called.Wake woken x) ∷ past) d).oneshot
    by_test true is = λ on. rw is (held_now (linking_flags past d).oneshot true)
    by_test false is = rw is (h d)
call_held call past h d = h d

answers_held : (b w : Bool) → ((b && false) || w) ≡ w
answers_held true w = refl
answers_held false w = refl

quiet_held : (f b s : Bool) → (f && ((b && false) || s)) ≡ (f && s)
quiet_held f true s = refl
quiet_held f false s = refl

woken_held_more : (def : LineDef) (e : Entry) (past : List Entry) → IsValid def → IsDue def e past → Kept def past → IsWokenHeld past → IsWokenHeld (e ∷ past)
woken_held_more def (by.Cpu c (cpus.Return answers.Wake x n)) past valid due k h = wakes_held def c x n past h
woken_held_more def (by.Cpu c (cpus.Return answers.Handled x n)) past valid due k h = λ d on.
    rw (quiet_held (linking_flags past d).oneshot (same_dev d x)
    (stands (wakes d) (is_cleared_finish d) (since (links_dev d) past)))
    (h d (sym (answers_held (same_dev d x) (is_woken past d)) ∙ on))
woken_held_more def (by.Cpu c (cpus.Return answers.Nothing x n)) past valid due k h = λ d on.
    rw (quiet_held (linking_flags past d).oneshot (same_dev d x)
    (stands (wakes d) (is_cleared_finish d) (since (links_dev d) past)))
    (h d (sym (answers_held (same_dev d x) (is_woken past d)) ∙ on))
woken_held_more def (by.Thread x threads.Begin) past valid due k h = λ d. by_test d (same_dev d x) refl
  where
    by_test : (d : DevNo) (b : Bool) → same_dev d x ≡ b → is_woken (by.Thread x threads.Begin ∷ past) d ≡ true
        → is_unfinished past d ≡ (linking_flags past d).oneshot
    by_test d true is = rw is (λ on. cc)
    by_test d false is = rw is (h d)
woken_held_more def (by.Thread x (threads.Finish true unmask)) past valid due k h = h
woken_held_more def (by.Thread x (threads.Finish false unmask)) past valid due k h = λ d. by_test d (same_dev d x) refl
  where
    off : is_woken past x ≡ false
    off = sym (finish_due def x false unmask past due).kept_is

    by_test : (d : DevNo) (b : Bool) → same_dev d x ≡ b → is_woken past d ≡ true
        → is_unfinished (by.Thread x (threads.Finish false unmask) ∷ past) d ≡ (linking_flags past d).oneshot
    by_test d true is = λ on. not_woken (is_woken past d) (ap (is_woken past) (dev_from_same d x is) ∙ off) on
    by_test d false is = rw is (h d)
woken_held_more def (by.Driver r (drivers.Request flags links.Linked opened x)) past valid due k h = λ d. by_test d (same_dev d x) refl
  where
    by_test : (d : DevNo) (b : Bool) → same_dev d x ≡ b → is_woken past d ≡ true
        → is_unfinished (by.Driver r (drivers.Request flags links.Linked opened x) ∷ past) d
        ≡ (linking_flags (by.Driver r (drivers.Request flags links.Linked opened x) ∷ past) d).oneshot
    by_test d true is = λ on. not_woken (is_woken past d) (ap (is_woken past) (dev_from_same d x is) ∙ (at_rest def r x flags opened past valid due k).0) on
    by_test d false is = rw is (h d)
woken_held_more def (by.Driver r (drivers.Request flags (links.Refused error) opened x)) past valid due k h = λ d. rw (no_part (same_dev d x)) (h d)
woken_held_more def (by.Thread x (threads.Return handled n)) past valid due k h = h
woken_held_more def (by.Thread x threads.Done) past valid due k h = h
woken_held_more def (by.Driver r (drivers.Ask edge x)) past valid due k h = h
woken_held_more def (by.Cpu c (cpus.Take way answer)) past valid due k h = h
woken_held_more def (by.Cpu c (cpus.Begin x)) past valid due k h = h
woken_held_more def (by.Cpu c (cpus.End again unmask note)) past valid due k h = h
woken_held_more def (by.CpuCall c call) past valid due k h = call_held call past h
woken_held_more def (by.ThreadCall x call) past valid due k h = call_held call past h
woken_held_more def (by.DriverCall r call) past valid due k h = call_held call past h
woken_held_more def (by.Driver r (drivers.Affinity answer mask)) past valid due k h = h
woken_held_more def (by.Driver r (drivers.Moment at)) past valid due k h = h

pub woken_held : (def : LineDef) (past : List Entry) → IsValid def → IsLegalPast def past → IsWokenHeld past
woken_held def [] valid legal = λ d on. cc
woken_held def (e ∷ past) valid legal = woken_held_more def e past valid legal.0 (kept def past valid legal.1) (woken_held def past valid legal.1)

-- ---- the rows after one more entry

same_row : (w v : Bool) (s t : Stage) (h k : Bool) → w ≡ v → s ≡ t → h ≡ k → row w s h ≡ row v t k
same_row w v s t h k a b c = rw (a, b, c) refl

-- a wake of a thread whose bit stands while it is woken (w: woken, u: its bit, f: linked one-shot,
-- o: a one-shot line)
wake_held : (u f s : Bool) → u ≡ (f && s) → (f && true) ≡ (u || f)
wake_held u f s h = grind arith

woken_own : (w u s f o : Bool) (st : Stage) → (w ≡ true → u ≡ f) → u ≡ (f && s) → f ≡ o → row true st (f && true) ≡ woken_row o (row w st u)
woken_own true u s f o st h part same = same_row true true st st (f && true) u refl refl (held_now f s ∙ sym (h refl))
woken_own false u s f o st h part same = same_row true true st st (f && true) (u || o) refl refl (wake_held u f s part ∙ ap (λ b. u || b) same)

-- a finish
finish_keeps : (f s w : Bool) → w ≡ true → (f && s) ≡ ((f && s) && w)
finish_keeps f s w h = grind arith

finish_clears : (f s u w : Bool) → w ≡ false → (f && false) ≡ (u && w)
finish_clears f s u w h = grind arith

other_way : (d x : DevNo) → same_dev x d ≡ false → same_dev d x ≡ false
other_way d x h = same_both d x ∙ h

there : (def : LineDef) (past : List Entry) (x : DevNo) → Kept def past
    → (is_linked past x || is_being_freed past x) ≡ true → list_any (is_device x) def.devices ≡ true
there def past x k h = there_named def past k x h

-- the end of a run
row_ends : (r t f o w u : Bool) → r ≡ true → t ≡ true → (o && not f) ≡ false → row w stages.Idle u ≡ done_row o (row w (stage_by r t f) u)
row_ends r t true o w u a b h = rw (a, b) refl
row_ends r t false o w u a b h = by_test o h
  where
    by_test : (c : Bool) → (c && true) ≡ false → row w stages.Idle u ≡ done_row c (row w (stage_by r t false) u)
    by_test true i = cc
    by_test false i = rw (a, b) refl

-- a call's step
call_more : (def : LineDef) (a : Actor) (call : CallEntry) (past : List Entry) → IsValid def → IsDue def (made_by a call) past → Kept def past
    → IsWokenHeld past → threads_of def (by_someone call ∷ past) ≡ threads_by_call (is_oneshot past) call (threads_of def past)
call_more def a (called.Wake true x) past valid due k h =
    let on : (is_linked past x || is_being_freed past x) ≡ true = ap (λ b. b || is_being_freed past x) (woken_was_linked def a x past due) in
    let f = (linking_flags past x).oneshot in
    let s = stands (wakes x) (is_cleared_finish x) (since (links_dev x) past) in
    let st = stage_by (is_running past x) (has_returned past x) (has_finished past x) in
    change_table (thread_of past) (thread_of (by_someone (called.Wake true x) ∷ past)) (woken_row (is_oneshot past))
    def.devices x valid.distinct (there def past x k on)
    (rw (same_self x) (woken_own (is_woken past x) (is_unfinished past x) s f (is_oneshot past) st (h x) refl (k.rest.flags x on)))
    (λ d apart. rw (other_way d x apart) refl)
call_more def a (called.Wake false x) past valid due k h = refl
call_more def a call past valid due k h = refl

pub threads_more : (def : LineDef) (e : Entry) (past : List Entry) → IsValid def → IsDue def e past → Kept def past
    → IsWokenHeld past → threads_of def (e ∷ past) ≡ threads_after (is_oneshot past) e (threads_of def past)
threads_more def (by.Cpu c (cpus.Return answers.Wake x n)) past valid due k h =
    let is = return_due def c x answers.Wake n past due in
    let on = called_there def past k x (k.runs.working x is.is_at_work).0 in
    let f = (linking_flags past x).oneshot in
    let s = stands (wakes x) (is_cleared_finish x) (since (links_dev x) past) in
    let st = stage_by (is_running past x) (has_returned past x) (has_finished past x) in
    change_table (thread_of past) (thread_of (by.Cpu c (cpus.Return answers.Wake x n) ∷ past)) (woken_row (is_oneshot past))
    def.devices x valid.distinct (there def past x k on)
    (rw (same_self x) (woken_own (is_woken past x) (is_unfinished past x) s f (is_oneshot past) st (h x) refl (k.rest.flags x on)))
    (λ d apart. rw (other_way d x apart) refl)
threads_more def (by.Cpu c (cpus.Return answers.Handled x n)) past valid due k h
    = same_table (thread_of past) (thread_of (by.Cpu c (cpus.Return answers.Handled x n) ∷ past)) def.devices
    (λ d. rw (no_part (same_dev d x)) refl)
threads_more def (by.Cpu c (cpus.Return answers.Nothing x n)) past valid due k h
    = same_table (thread_of past) (thread_of (by.Cpu c (cpus.Return answers.Nothing x n) ∷ past)) def.devices
    (λ d. rw (no_part (same_dev d x)) refl)
threads_more def (by.Thread x threads.Begin) past valid due k h =
    let is = thread_begin_due def x past due in
    change_table (thread_of past) (thread_of (by.Thread x threads.Begin ∷ past)) begun_row def.devices x valid.distinct
    (there def past x k (woken_there def past k x is.woken))
    (rw (same_self x, is.woken, is.not_running) refl) (λ d apart. rw (other_way d x apart) refl)
threads_more def (by.Thread x (threads.Return handled n)) past valid due k h =
    let is = thread_return_due def x handled n past due in
    change_table (thread_of past) (thread_of (by.Thread x (threads.Return handled n) ∷ past)) returned_row def.devices x
    valid.distinct (there def past x k (running_there def past k x is.running))
    (rw (same_self x, is.running, is.not_returned) refl) (λ d apart. rw (other_way d x apart) refl)
threads_more def (by.Thread x (threads.Finish true unmask)) past valid due k h =
    let is = finish_due def x true unmask past due in
    let f = (linking_flags past x).oneshot in
    let s = stands (wakes x) (is_cleared_finish x) (since (links_dev x) past) in
    change_table (thread_of past) (thread_of (by.Thread x (threads.Finish true unmask) ∷ past)) finished_row def.devices x
    valid.distinct (there def past x k (running_there def past k x is.running))
    (rw (same_self x, is.running, is.returned, is.not_finished)
    (same_row (is_woken past x) (is_woken past x) stages.Finished stages.Finished (is_unfinished past x)
    (is_unfinished past x && is_woken past x) refl refl (finish_keeps f s (is_woken past x) (sym is.kept_is))))
    (λ d apart. rw (other_way d x apart) refl)
threads_more def (by.Thread x (threads.Finish false unmask)) past valid due k h =
    let is = finish_due def x false unmask past due in
    let f = (linking_flags past x).oneshot in
    let s = stands (wakes x) (is_cleared_finish x) (since (links_dev x) past) in
    change_table (thread_of past) (thread_of (by.Thread x (threads.Finish false unmask) ∷ past)) finished_row def.devices x
    valid.distinct (there def past x k (running_there def past k x is.running))
    (rw (same_self x, is.running, is.returned, is.not_finished)
    (same_row (is_woken past x) (is_woken past x) stages.Finished stages.Finished (f && false)
    (is_unfinished past x && is_woken past x) refl refl
    (finish_clears f s (is_unfinished past x) (is_woken past x) (sym is.kept_is))))
    (λ d apart. rw (other_way d x apart) refl)
threads_more def (by.Thread x threads.Done) past valid due k h =
    let is = done_due def x past due in
    change_table (thread_of past) (thread_of (by.Thread x threads.Done ∷ past)) (done_row (is_oneshot past)) def.devices x
    valid.distinct (there def past x k (running_there def past k x is.running))
    (rw (same_self x) (row_ends (is_running past x) (has_returned past x) (has_finished past x) (is_oneshot past)
    (is_woken past x) (is_unfinished past x) is.running is.returned is.all_done))
    (λ d apart. rw (other_way d x apart) refl)
threads_more def (by.Driver r (drivers.Request flags links.Linked opened x)) past valid due k h =
    same_table (thread_of past) (thread_of (by.Driver r (drivers.Request flags links.Linked opened x) ∷ past)) def.devices (λ d. by_test d (same_dev d x) refl)
  where
    by_test : (d : DevNo) (b : Bool) → same_dev d x ≡ b → thread_of (by.Driver r (drivers.Request flags links.Linked opened x) ∷ past) d ≡ thread_of past d
    by_test d true is =
        let e : d ≡ x = dev_from_same d x is in
        let off : is_unfinished past d ≡ false = ap (is_unfinished past) e ∙ (at_rest def r x flags opened past valid due k).2 in
        same_row (is_woken past d) (is_woken past d) _ _ _ (is_unfinished past d) refl refl (rw is (no_part flags.oneshot) ∙ sym off)
    by_test d false is = rw is refl
threads_more def (by.Driver r (drivers.Request flags (links.Refused error) opened x)) past valid due k h
    = same_table (thread_of past) (thread_of (by.Driver r (drivers.Request flags (links.Refused error) opened x) ∷ past))
    def.devices (λ d. rw (no_part (same_dev d x)) refl)
threads_more def (by.Driver r (drivers.Ask edge x)) past valid due k h = refl
threads_more def (by.Cpu c (cpus.Take way answer)) past valid due k h = refl
threads_more def (by.Cpu c (cpus.Begin x)) past valid due k h = refl
threads_more def (by.Cpu c (cpus.End again unmask note)) past valid due k h = refl
threads_more def (by.CpuCall c call) past valid due k h = call_more def (actors.Cpu c) call past valid due k h
threads_more def (by.ThreadCall x call) past valid due k h = call_more def (actors.Thread x) call past valid due k h
threads_more def (by.DriverCall r call) past valid due k h = call_more def (actors.Driver r) call past valid due k h
threads_more def (by.Driver r (drivers.Affinity answer mask)) past valid due k h = refl
threads_more def (by.Driver r (drivers.Moment at)) past valid due k h = refl

pub threads_follow : (def : LineDef) (e : Entry) (past : List Entry) → IsValid def → IsLegalPast def (e ∷ past)
    → threads_of def (e ∷ past) ≡ threads_after (is_oneshot past) e (threads_of def past)
threads_follow def e past valid legal = threads_more def e past valid legal.0 (kept def past valid legal.1) (woken_held def past valid legal.1)
