-- No overlap, silence after free, synchronised calls, and the one-shot promise.
use Rattle.std.proofs.Common.{◌≡◌, ℕ, ◌+◌, Bool, true, false, not, ◌||◌, ◌&&◌, List, ◌∷◌, reverse, refl, sym, ap, ◌∙◌, subst, arith}
use Rattle.std.proofs.lemmas.Bool.{and_parts, or_from, or_left, false_from_ne_true}
use Rattle.std.specs.List.{list_any}
use Rattle.irq_base.specs.declared.numbers.DevNo.{DevNo}
use Rattle.irq_base.specs.declared.devices.DeviceDef.{DeviceDef}
use Rattle.irq_base.specs.declared.lines.FlowKind.{FlowKind}
use Rattle.irq_base.specs.declared.lines.FlowKind.TheVariants as flows
use Rattle.irq_base.specs.declared.lines.LineDef.{LineDef}
use Rattle.irq_base.specs.declared.entries.Actor.{Actor}
use Rattle.irq_base.specs.declared.entries.Actor.TheVariants as actors
use Rattle.irq_base.specs.declared.entries.Entry.{Entry}
use Rattle.irq_base.specs.declared.entries.Entry.TheVariants as by
use Rattle.irq_base.specs.declared.entries.CpuEntry.TheVariants as cpus
use Rattle.irq_base.specs.declared.entries.ThreadEntry.TheVariants as threads
use Rattle.irq_base.specs.declared.entries.CallEntry.{CallEntry}
use Rattle.irq_base.specs.declared.entries.CallEntry.TheVariants as called
use Rattle.irq_base.specs.declared.entries.Note.{Note}
use Rattle.irq_model.specs.Places.{stands}
use Rattle.irq_model.specs.Kinds.{same_dev, is_begin, is_thread_begin, is_hard_clear, is_synced, is_freed, links_dev, is_reopening}
use Rattle.irq_model.specs.Kinds.{made_by, clears, syncs}
use Rattle.irq_model.specs.Lines.{is_device, is_edge_line, is_level_line, is_edge_flow}
use Rattle.irq_model.specs.Links.{is_linked, is_disabled, is_oneshot}
use Rattle.irq_model.specs.Masks.{is_masked}
use Rattle.irq_model.specs.Spurious.{note_of}
use Rattle.irq_model.specs.Next.{is_off_now}
use Rattle.irq_model.specs.Threads.{is_woken, is_running, is_some_unfinished, is_other_unfinished, active_count}
use Rattle.irq_model.specs.Reason.{is_called, is_being_freed}
use Rattle.irq_model.specs.Legal.{IsDue, IsLegal}
use Rattle.irq_model.specs.Laws.{NoOverlap, IsSilentAfterFree, IsSynchronised, KeepsOneshot, is_run_of}
use Rattle.irq_model.specs.Valid.{IsValid}
use Rattle.irq_model.proofs.Same.{dev_from_same}
use Rattle.irq_laws.specs.Kept.{Kept}
use Rattle.irq_laws.proofs.Lists.{any_imply, none_counted, both_ways}
use Rattle.irq_laws.proofs.FreesKept.{begun_is_linked, nothing_called}
use Rattle.irq_laws.proofs.RestKept.{running_there, woken_there, called_there, there_named}
use Rattle.irq_laws.proofs.Unfinished.{others_left}
use Rattle.irq_laws.proofs.KeptAlways.{each}
use Rattle.irq_laws.proofs.ImpliesFlow.{unmask_by, begin_due, return_due, end_due}
use Rattle.irq_laws.proofs.ImpliesThread.{thread_begin_due, thread_return_due, finish_due, done_due}
use Rattle.irq_laws.proofs.ImpliesDriver.{hard_clear_due, synced_due}

-- ---- no overlap

overlap : (def : LineDef) (e : Entry) (past : List Entry) → IsDue def e past → Kept def past → (d : DevNo)
    → (is_begin d e ≡ true → is_called past d ≡ false) × (is_thread_begin d e ≡ true → is_running past d ≡ false)
overlap def (by.Cpu c (cpus.Begin x)) past due k d = (
  λ same. false_from_ne_true (is_called past d) (λ called. let a = k.runs.called d called in
      let b = (begin_due def c x past due).none_at_work in let n : ⊥ = cc in n),
  λ none. cc,
)
overlap def (by.Thread x threads.Begin) past due k d =
    (λ none. cc, λ same. subst (λ (y : DevNo). is_running past y ≡ false) (sym (dev_from_same d x same)) (thread_begin_due def x past due).not_running)
overlap def e past due k d = (λ none. cc, λ none. cc)

pub no_overlap : (def : LineDef) (h : List Entry) → IsValid def → IsLegal def h → NoOverlap def h
no_overlap def h valid legal = each def valid (λ e past. (d : DevNo)
    → (is_begin d e ≡ true → is_called past d ≡ false) × (is_thread_begin d e ≡ true → is_running past d ≡ false))
    (overlap def) (reverse h) legal

-- ---- silence after free

-- a device that is linked or being freed wasn't freed since it was linked
not_freed : (def : LineDef) (past : List Entry) → Kept def past → (d x : DevNo) → same_dev d x ≡ true
    → (is_linked past x || is_being_freed past x) ≡ true → stands (is_freed d) (links_dev d) past ≡ false
not_freed def past k d x same there = false_from_ne_true (stands (is_freed d) (links_dev d) past) (λ freed.
    let r = k.rest.after_free d freed in
    let moved = subst (λ (y : DevNo). (is_linked past y || is_being_freed past y) ≡ true) (sym (dev_from_same d x same)) there in
    both_ways (is_linked past d || is_being_freed past d) moved (or_from _ _ r.0 r.1))

or_none : (s : Bool) → (s || false) ≡ true → s ≡ true
or_none true h = refl
or_none false h = h

silent : (def : LineDef) (e : Entry) (past : List Entry) → IsDue def e past → Kept def past → (d : DevNo)
    → is_run_of d e ≡ true → stands (is_freed d) (links_dev d) past ≡ false
silent def (by.Cpu c (cpus.Begin x)) past due k d h = not_freed def past k d x (or_none _ h)
    (or_left _ _ (begun_is_linked def past x (begin_due def c x past due).first).0)
silent def (by.Cpu c (cpus.Return answer x served)) past due k d h =
    not_freed def past k d x (or_none _ h) (called_there def past k x (k.runs.working x (return_due def c x answer served past due).is_at_work).0)
silent def (by.Thread x threads.Begin) past due k d h = not_freed def past k d x (or_none _ h)
    (woken_there def past k x (thread_begin_due def x past due).woken)
silent def (by.Thread x (threads.Return handled served)) past due k d h
    = not_freed def past k d x (or_none _ h) (running_there def past k x
    (thread_return_due def x handled served past due).running)
silent def (by.Thread x (threads.Finish kept unmask)) past due k d h
    = not_freed def past k d x (or_none _ h) (running_there def past k x
    (finish_due def x kept unmask past due).running)
silent def (by.Thread x threads.Done) past due k d h = not_freed def past k d x h (running_there def past k x (done_due def x past due).running)
silent def e past due k d h = cc

pub silent_after_free : (def : LineDef) (h : List Entry) → IsValid def → IsLegal def h → IsSilentAfterFree def h
silent_after_free def h valid legal = each def valid (λ e past. (d : DevNo) → is_run_of d e ≡ true
    → stands (is_freed d) (links_dev d) past ≡ false) (silent def) (reverse h) legal

-- ---- synchronised calls

none_in_sum : (a b : ℕ) → a + b ≡ 0 → (a ≡ 0) × (b ≡ 0)
none_in_sum a b h = (omega arith, omega arith)

pub at_device : (def : LineDef) (p : DevNo → Bool) (d : DevNo) → list_any (is_device d) def.devices ≡ true → p d ≡ true
    → list_any (λ x. p x.dev) def.devices ≡ true
at_device def p d there passes = any_imply (is_device d) (λ x. p x.dev) def.devices
    (λ x same. subst (λ (y : DevNo). p y ≡ true) (dev_from_same d x.dev same) passes) there

all_idle : (def : LineDef) (past : List Entry) → Kept def past → active_count def past ≡ 0 → (d : DevNo) → (is_woken past d || is_running past d) ≡ false
all_idle def past k none d =
    let parts = none_in_sum _ _ none in
    let no_woken = none_counted (λ (x : DeviceDef). is_woken past x.dev) def.devices parts.0 in
    let no_running = none_counted (λ (x : DeviceDef). is_running past x.dev) def.devices parts.1 in
    or_from _ _
    (false_from_ne_true (is_woken past d) (λ h. both_ways _
    (at_device def (is_woken past) d (there_named def past k d (woken_there def past k d h)) h) no_woken))
    (false_from_ne_true (is_running past d) (λ h. both_ways _
    (at_device def (is_running past) d (there_named def past k d (running_there def past k d h)) h) no_running))

call_synchronised : (def : LineDef) (a : Actor) (call : CallEntry) (past : List Entry) → IsDue def (made_by a call) past → Kept def past → (d : DevNo)
    → (clears call ≡ true → is_called past d ≡ false) × (syncs call ≡ true → (is_woken past d || is_running past d) ≡ false)
call_synchronised def a called.HardClear past due k d = (λ is. nothing_called def past k.runs (hard_clear_due def a past due) d, λ none. cc)
call_synchronised def a called.Synced past due k d = (λ none. cc, λ is. all_idle def past k (synced_due def a past due) d)
call_synchronised def a call past due k d = (λ none. cc, λ none. cc)

synchronised_at : (def : LineDef) (e : Entry) (past : List Entry) → IsDue def e past → Kept def past → (d : DevNo)
    → (is_hard_clear e ≡ true → is_called past d ≡ false)
    × (is_synced e ≡ true → (is_woken past d || is_running past d) ≡ false)
synchronised_at def (by.CpuCall c call) past due k d = call_synchronised def (actors.Cpu c) call past due k d
synchronised_at def (by.ThreadCall x call) past due k d = call_synchronised def (actors.Thread x) call past due k d
synchronised_at def (by.DriverCall s call) past due k d = call_synchronised def (actors.Driver s) call past due k d
synchronised_at def e past due k d = (λ none. cc, λ none. cc)

pub synchronised : (def : LineDef) (h : List Entry) → IsValid def → IsLegal def h → IsSynchronised def h
synchronised def h valid legal =
    each def valid (λ e past. (d : DevNo) → (is_hard_clear e ≡ true → is_called past d ≡ false)
    × (is_synced e ≡ true → (is_woken past d || is_running past d) ≡ false)) (synchronised_at def) (reverse h) legal

-- ---- the one-shot promise

not_edge : {P : Type 0} (b : Bool) → b ≡ true → not b ≡ true → P
not_edge true h n = cc
not_edge false h n = cc

unheld : (a m u : Bool) → (a && (m && not u)) ≡ true → u ≡ false
unheld a m u h = grind arith

-- a flow's end opens a level line only if no thread is unfinished
opens_unheld : (def : LineDef) (f : FlowKind) (past : List Entry) (note : Note) → IsValid def → is_level_line def ≡ true
    → def.flow ≡ f → unmask_by def f past note ≡ true → is_some_unfinished def past ≡ false
opens_unheld def flows.Edge past note valid level is h = not_edge (is_edge_line def) (valid.edge_flow (ap is_edge_flow is)) level
opens_unheld def flows.Level past note valid level is h = unheld (not (is_off_now past note)) (is_masked def past) (is_some_unfinished def past) h
opens_unheld def flows.Eoi past note valid level is h =
    unheld (not (is_off_now past note) && is_oneshot past) (is_masked def past) (is_some_unfinished def past) (and_parts (not (is_edge_line def)) _ h).1

woken_kept : (w d m o : Bool) → (not w && (not d && (m && not o))) ≡ true → (w ≡ false) × (o ≡ false)
woken_kept w d m o h = (grind arith, grind arith)

oneshot_at : (def : LineDef) (e : Entry) (past : List Entry) → IsValid def → is_level_line def ≡ true → IsDue def e past
    → is_reopening e ≡ true → is_some_unfinished def (e ∷ past) ≡ false
oneshot_at def (by.Cpu c (cpus.End again unmask note)) past valid level due h =
    opens_unheld def def.flow past (note_of def past) valid level refl (sym (end_due def c again unmask note past due).unmask_is ∙ h)
oneshot_at def (by.Thread x (threads.Finish true unmask)) past valid level due h =
    let u = finish_due def x true unmask past due in
    let p = woken_kept (is_woken past x) (is_disabled past) (is_masked def past) (is_other_unfinished def past x) (sym u.unmask_is ∙ h) in
    both_ways (is_woken past x) (sym u.kept_is) p.0
oneshot_at def (by.Thread x (threads.Finish false unmask)) past valid level due h =
    let u = finish_due def x false unmask past due in
    let p = woken_kept (is_woken past x) (is_disabled past) (is_masked def past) (is_other_unfinished def past x) (sym u.unmask_is ∙ h) in
    others_left def x unmask past ∙ p.1
oneshot_at def e past valid level due h = cc

pub keeps_oneshot : (def : LineDef) (h : List Entry) → IsValid def → IsLegal def h → KeepsOneshot def h
keeps_oneshot def h valid legal level =
    each def valid (λ e past. is_reopening e ≡ true → is_some_unfinished def (e ∷ past) ≡ false)
    (λ e past due k. oneshot_at def e past valid level due) (reverse h) legal
