-- What a thread's entry implies when it is due: the conditions of its row.
use Rattle.std.proofs.Common.{◌≡◌, ℕ, Bool, true, false, not, ◌&&◌, cond, Option, Some, None, List, refl, ap, ◌∙◌, subst}
use Rattle.std.specs.List.{list_any}
use Rattle.irq_base.specs.declared.numbers.DevNo.{DevNo}
use Rattle.irq_base.specs.declared.calls.Call.{Call}
use Rattle.irq_base.specs.declared.devices.Part.TheVariants as parts
use Rattle.irq_base.specs.declared.lines.LineDef.{LineDef}
use Rattle.irq_base.specs.declared.entries.Actor.TheVariants as actors
use Rattle.irq_base.specs.declared.entries.Entry.{Entry}
use Rattle.irq_base.specs.declared.entries.Entry.TheVariants as by
use Rattle.irq_base.specs.declared.entries.CallEntry.{CallEntry}
use Rattle.irq_base.specs.declared.entries.ThreadEntry.TheVariants as threads
use Rattle.irq_model.specs.Places.{since}
use Rattle.irq_model.specs.Kinds.{is_thread_begin, is_thread_return, is_finish, is_handled}
use Rattle.irq_model.specs.Lines.{has_device}
use Rattle.irq_model.specs.Links.{is_oneshot}
use Rattle.irq_model.specs.Rounds.{has_flow}
use Rattle.irq_model.specs.Threads.{is_woken, is_running}
use Rattle.irq_model.specs.Runs.{answer_of_run_now, served_by_run, due_in_run}
use Rattle.irq_model.specs.Next.{thread_return_of, call_or_return, finish_unmasks, next_of_thread, next_step}
use Rattle.irq_model.specs.Legal.{IsDue}
use Rattle.irq_laws.proofs.Chosen.{the_same}
use Rattle.irq_laws.proofs.ImpliesFlow.{made_step}

-- d's thread's handler returned in this run
abbrev pub has_returned : List Entry → DevNo → Bool
has_returned past d = list_any (is_thread_return d) (since (is_thread_begin d) past)

-- the finish of that run is there
abbrev pub has_finished : List Entry → DevNo → Bool
has_finished past d = list_any (is_finish d) (since (is_thread_return d) past)

-- a thread that is woken begins a run
pub record IsThreadBeginDue (d : DevNo) (past : List Entry) : Type 0 where
  pub not_running : is_running past d ≡ false
  pub woken : is_woken past d ≡ true

-- its run has no call left, and its handler returns
pub record IsThreadReturnDue (def : LineDef) (d : DevNo) (handled : Bool) (served : ℕ) (past : List Entry) : Type 0 where
  pub running : is_running past d ≡ true
  pub not_returned : has_returned past d ≡ false
  pub no_call : due_in_run def parts.Thread d past ≡ None
  pub handled_is : handled ≡ is_handled (answer_of_run_now def parts.Thread d past)
  pub served_is : served ≡ served_by_run def parts.Thread d past

-- its run makes the step of its due call
pub record IsThreadCallDue (def : LineDef) (d : DevNo) (call : CallEntry) (past : List Entry) : Type 0 where
  pub running : is_running past d ≡ true
  pub not_returned : has_returned past d ≡ false
  pub due : Call × ℕ
  pub is_due : due_in_run def parts.Thread d past ≡ Some due
  pub step : next_step def past due ≡ Some call

-- on a one-shot line it gives its bit up, or keeps it if it was woken again, while no flow is in
-- progress
pub record IsFinishDue (def : LineDef) (d : DevNo) (kept unmask : Bool) (past : List Entry) : Type 0 where
  pub running : is_running past d ≡ true
  pub returned : has_returned past d ≡ true
  pub oneshot : is_oneshot past ≡ true
  pub not_finished : has_finished past d ≡ false
  pub no_flow : has_flow def past ≡ false
  pub kept_is : kept ≡ is_woken past d
  pub unmask_is : unmask ≡ finish_unmasks def d past

-- the run ends, after its finish on a one-shot line
pub record IsDoneDue (d : DevNo) (past : List Entry) : Type 0 where
  pub running : is_running past d ≡ true
  pub returned : has_returned past d ≡ true
  pub all_done : (is_oneshot past && not (has_finished past d)) ≡ false

-- r: it runs, w: it is woken, t: its handler returned, o: the line is one-shot, f: the finish is
-- there, h: a flow is in progress; `goes`: what it adds before its handler returned
abbrev pub row : Bool → Bool → Bool → Bool → Bool → Bool → Entry → Option Entry → Entry → Entry → Option Entry
row r w t o f h begins goes finishes ends =
    cond (not r) (cond w (Some begins) None) (cond (not t) goes (cond (o && not f) (cond h None (Some finishes)) (Some ends)))

-- the rows of d's thread
pub data ThreadRow (def : LineDef) (d : DevNo) (past : List Entry) (e : Entry) : Type 0 where
  begins : is_running past d ≡ false → is_woken past d ≡ true → by.Thread d threads.Begin ≡ e → ThreadRow def d past e
  calls : (call : CallEntry) → IsThreadCallDue def d call past → by.ThreadCall d call ≡ e → ThreadRow def d past e
  returns : is_running past d ≡ true → has_returned past d ≡ false → due_in_run def parts.Thread d past ≡ None
      → thread_return_of def d past ≡ e → ThreadRow def d past e
  finishes : is_running past d ≡ true → has_returned past d ≡ true → is_oneshot past ≡ true → has_finished past d ≡ false
      → has_flow def past ≡ false → by.Thread d (threads.Finish (is_woken past d) (finish_unmasks def d past)) ≡ e
      → ThreadRow def d past e
  done : is_running past d ≡ true → has_returned past d ≡ true → (is_oneshot past && not (has_finished past d)) ≡ false
      → by.Thread d threads.Done ≡ e → ThreadRow def d past e

no_part : (s : Bool) → (s && false) ≡ false
no_part true = refl
no_part false = refl

call_row : (def : LineDef) (d : DevNo) (past : List Entry) (e : Entry) (o : Option (Call × ℕ))
    → is_running past d ≡ true → has_returned past d ≡ false → due_in_run def parts.Thread d past ≡ o
    → call_or_return def d past o ≡ Some e → ThreadRow def d past e
call_row def d past e None run at is h = returns run at is (the_same _ _ h)
call_row def d past e (Some due) run at is h =
    let m = made_step (actors.Thread d) (next_step def past due) e h in
    calls m.0 (record { running = run; not_returned = at; due = due; is_due = is; step = m.1 }) m.2

row_of : (def : LineDef) (d : DevNo) (past : List Entry) (e : Entry) (r w t o f h : Bool) → is_running past d ≡ r → is_woken past d ≡ w
    → has_returned past d ≡ t → is_oneshot past ≡ o → has_finished past d ≡ f → has_flow def past ≡ h
    → row r w t o f h (by.Thread d threads.Begin) (call_or_return def d past (due_in_run def parts.Thread d past))
    (by.Thread d (threads.Finish (is_woken past d) (finish_unmasks def d past))) (by.Thread d threads.Done) ≡ Some e
    → ThreadRow def d past e
row_of def d past e false true t o f h ir iw it io if ih is = begins ir iw (the_same _ _ is)
row_of def d past e false false t o f h ir iw it io if ih is = cc
row_of def d past e true w false o f h ir iw it io if ih is = call_row def d past e (due_in_run def parts.Thread d past) ir it refl is
row_of def d past e true w true true false true ir iw it io if ih is = cc
row_of def d past e true w true true false false ir iw it io if ih is = finishes ir it io if ih (the_same _ _ is)
row_of def d past e true w true true true h ir iw it io if ih is =
    done ir it (ap (λ (b : Bool). is_oneshot past && not b) if ∙ no_part (is_oneshot past)) (the_same _ _ is)
row_of def d past e true w true false f h ir iw it io if ih is = done ir it (ap (λ (b : Bool). b && not (has_finished past d)) io) (the_same _ _ is)

if_there : {A : Type 0} (b : Bool) (o : Option A) (e : A) → cond b o None ≡ Some e → (b ≡ true) × (o ≡ Some e)
if_there true o e h = (refl, h)
if_there false o e h = cc

-- an entry is due only of the thread of a device that the line has
pub thread_there : (def : LineDef) (d : DevNo) (past : List Entry) (e : Entry) → cond (has_device def d) (next_of_thread def d past) None ≡ Some e
    → has_device def d ≡ true
thread_there def d past e due = (if_there (has_device def d) (next_of_thread def d past) e due).0

-- the row of a thread's entry
pub thread_row : (def : LineDef) (d : DevNo) (past : List Entry) (e : Entry)
    → cond (has_device def d) (next_of_thread def d past) None ≡ Some e → ThreadRow def d past e
thread_row def d past e due =
    row_of def d past e (is_running past d) (is_woken past d) (has_returned past d) (is_oneshot past) (has_finished past d)
    (has_flow def past) refl refl refl refl refl refl (if_there (has_device def d) (next_of_thread def d past) e due).1

thread_begin_from : (def : LineDef) (d : DevNo) (past : List Entry) → ThreadRow def d past (by.Thread d threads.Begin) → IsThreadBeginDue d past
thread_begin_from def d past (begins r w same) = record { not_running = r; woken = w }
thread_begin_from def d past (calls call u same) = cc
thread_begin_from def d past (returns r t n same) = cc
thread_begin_from def d past (finishes r t o f h same) = cc
thread_begin_from def d past (done r t a same) = cc

pub thread_begin_due : (def : LineDef) (d : DevNo) (past : List Entry) → IsDue def (by.Thread d threads.Begin) past → IsThreadBeginDue d past
thread_begin_due def d past due = thread_begin_from def d past (thread_row def d past (by.Thread d threads.Begin) due)

thread_return_from : (def : LineDef) (d : DevNo) (handled : Bool) (served : ℕ) (past : List Entry)
    → ThreadRow def d past (by.Thread d (threads.Return handled served)) → IsThreadReturnDue def d handled served past
thread_return_from def d handled served past (returns r t n same) =
    let a : handled ≡ is_handled (answer_of_run_now def parts.Thread d past) = cc in
    let s : served ≡ served_by_run def parts.Thread d past = cc in
    record { running = r; not_returned = t; no_call = n; handled_is = a; served_is = s }
thread_return_from def d handled served past (begins r w same) = cc
thread_return_from def d handled served past (calls call u same) = cc
thread_return_from def d handled served past (finishes r t o f h same) = cc
thread_return_from def d handled served past (done r t a same) = cc

pub thread_return_due : (def : LineDef) (d : DevNo) (handled : Bool) (served : ℕ) (past : List Entry)
    → IsDue def (by.Thread d (threads.Return handled served)) past → IsThreadReturnDue def d handled served past
thread_return_due def d handled served past due = thread_return_from def d handled served past
    (thread_row def d past (by.Thread d (threads.Return handled served)) due)

finish_from : (def : LineDef) (d : DevNo) (kept unmask : Bool) (past : List Entry)
    → ThreadRow def d past (by.Thread d (threads.Finish kept unmask)) → IsFinishDue def d kept unmask past
finish_from def d kept unmask past (finishes r t o f h same) =
    let k : kept ≡ is_woken past d = cc in
    let u : unmask ≡ finish_unmasks def d past = cc in
    record { running = r; returned = t; oneshot = o; not_finished = f; no_flow = h; kept_is = k; unmask_is = u }
finish_from def d kept unmask past (begins r w same) = cc
finish_from def d kept unmask past (calls call u same) = cc
finish_from def d kept unmask past (returns r t n same) = cc
finish_from def d kept unmask past (done r t a same) = cc

pub finish_due : (def : LineDef) (d : DevNo) (kept unmask : Bool) (past : List Entry)
    → IsDue def (by.Thread d (threads.Finish kept unmask)) past → IsFinishDue def d kept unmask past
finish_due def d kept unmask past due = finish_from def d kept unmask past (thread_row def d past (by.Thread d (threads.Finish kept unmask)) due)

done_from : (def : LineDef) (d : DevNo) (past : List Entry) → ThreadRow def d past (by.Thread d threads.Done) → IsDoneDue d past
done_from def d past (done r t a same) = record { running = r; returned = t; all_done = a }
done_from def d past (begins r w same) = cc
done_from def d past (calls call u same) = cc
done_from def d past (returns r t n same) = cc
done_from def d past (finishes r t o f h same) = cc

pub done_due : (def : LineDef) (d : DevNo) (past : List Entry) → IsDue def (by.Thread d threads.Done) past → IsDoneDue d past
done_due def d past due = done_from def d past (thread_row def d past (by.Thread d threads.Done) due)

thread_call_from : (def : LineDef) (d : DevNo) (call : CallEntry) (past : List Entry)
    → ThreadRow def d past (by.ThreadCall d call) → IsThreadCallDue def d call past
thread_call_from def d call past (calls x u same) = let s : x ≡ call = cc in subst (λ (y : CallEntry). IsThreadCallDue def d y past) s u
thread_call_from def d call past (begins r w same) = cc
thread_call_from def d call past (returns r t n same) = cc
thread_call_from def d call past (finishes r t o f h same) = cc
thread_call_from def d call past (done r t a same) = cc

pub thread_call_due : (def : LineDef) (d : DevNo) (call : CallEntry) (past : List Entry)
    → IsDue def (by.ThreadCall d call) past → IsThreadCallDue def d call past
thread_call_due def d call past due = thread_call_from def d call past (thread_row def d past (by.ThreadCall d call) due)
