-- An entry that is due is one that the canonical state's law asks for.
use Rattle.std.proofs.Common.{◌≡◌, ℕ, ◌+◌, ◌≤◌, ◌==◌, Bool, true, false, cond, ltb, is_some, Option, Some, None, List, [], ◌∷◌, refl, sym, ◌∙◌, arith}
use Rattle.irq_base.specs.declared.entries.Entry.{Entry}
use Rattle.irq_base.specs.declared.entries.Entry.TheVariants as by
use Rattle.irq_base.specs.declared.entries.CpuEntry.TheVariants as cpus
use Rattle.irq_base.specs.declared.entries.ThreadEntry.TheVariants as threads
use Rattle.irq_base.specs.declared.entries.DriverEntry.TheVariants as drivers
use Rattle.irq_base.specs.declared.entries.LinkAnswer.TheVariants as links
use Rattle.irq_base.specs.declared.entries.Note.TheVariants as notes
use Rattle.irq_base.specs.declared.lines.LineDef.{LineDef}
use Rattle.irq_base.specs.declared.numbers.DevNo.{DevNo}
use Rattle.irq_model.specs.Legal.{IsDue, IsLegalPast}
use Rattle.irq_model.specs.Rounds.{flow}
use Rattle.irq_model.specs.Spurious.{Counts, Noted, counts_of, counted, unhandled, judged, judged_by_threads, noted, now, round_wakes, round_handles}
use Rattle.irq_model.specs.Valid.{IsValid}
use Rattle.irq_laws.proofs.ImpliesFlow.{begin_due, return_due, end_due, has_a_flow}
use Rattle.device_table.specs.Rows.{at}
use Rattle.device_table.proofs.Lowest.{own_by}
use Rattle.act_thread.specs.Steps.{is_begun, may_return}
use Rattle.act_thread.specs.Threads.{row_passes}
use Rattle.act_thread.specs.declared.rows.Stage.{Stage}
use Rattle.act_thread.specs.declared.rows.Stage.TheVariants as stages
use Rattle.act_thread.specs.declared.rows.ThreadRow.{ThreadRow}
use Rattle.line_marks.proofs.DueIs.{thread_is}
use Rattle.line_marks.specs.Asks.{ask_row}
use Rattle.line_marks.specs.Due.{due_at_stage, due_of_row, finish_opens}
use Rattle.line_marks.specs.Places.{run_row}
use Rattle.line_marks.specs.State.{StateSeen, state_of}
use Rattle.line_futures.specs.Made.{IsMade, MayFollow}

-- ---- the runs of threads that served

abbrev AreKept : Counts → Type 0
AreKept c = c.last ≤ c.threads_handled

counted_keeps : (w l : ℕ) (c : Counts) → AreKept c → AreKept (counted w l c).counts
counted_keeps w l c h = by_tests (c.irqs_unhandled == 0) (ltb (c.irq_count + 1) w)
  where
    by_tests : (z t : Bool) → AreKept (cond {A = Noted} z (record { note = notes.Quiet; counts = c })
        (cond t (record { note = notes.Counted; counts = record c { irq_count = c.irq_count + 1 } })
        (record { note = cond (ltb l c.irqs_unhandled) notes.Killed notes.Counted; counts = record c { irq_count = 0; irqs_unhandled = 0 } }))).counts
    by_tests true t = h
    by_tests false true = h
    by_tests false false = h

judged_keeps : (w l n : ℕ) (handled : Bool) (c : Counts) → AreKept c → AreKept (judged w l n handled c).counts
judged_keeps w l n true c h = counted_keeps w l c h
judged_keeps w l n false c h = counted_keeps w l (unhandled n c) h

by_threads_keeps : (w l n : ℕ) (c : Counts) (b : Bool) → AreKept c
    → AreKept (cond b (judged w l n false c) (judged w l n true (record c { last = c.threads_handled }))).counts
by_threads_keeps w l n c true h = judged_keeps w l n false c h
by_threads_keeps w l n c false h = judged_keeps w l n true (record c { last = c.threads_handled }) (omega arith)

noted_keeps : (w l n : ℕ) (wake handled : Bool) (c : Counts) → AreKept c → AreKept (noted w l n wake handled c).counts
noted_keeps w l n false handled c h = judged_keeps w l n handled c h
noted_keeps w l n true true c h = judged_keeps w l n true (record c { deferred = false }) h
noted_keeps w l n true false c h = by_deferred c.deferred
  where
    by_deferred : (b : Bool) → AreKept (cond {A = Noted} b (judged_by_threads w l n c)
        (record { note = notes.Quiet; counts = record c { deferred = true } })).counts
    by_deferred true = by_threads_keeps w l n c (c.threads_handled == c.last) h
    by_deferred false = h

pub served_kept : (def : LineDef) (past : List Entry) → AreKept (counts_of def past)
served_kept def [] = omega arith
served_kept def (by.Thread d (threads.Return handled served) ∷ past) = by_test handled (served_kept def past)
  where
    c : Counts
    c = counts_of def past

    by_test : (b : Bool) → AreKept c → AreKept (cond b (record c { threads_handled = c.threads_handled + 1 }) c)
    by_test true h = omega (arith, h)
    by_test false h = h
served_kept def (by.Driver r (drivers.Request flags links.Linked opened d) ∷ past) = served_kept def past
served_kept def (by.Cpu c (cpus.End again unmask note) ∷ past)
    = noted_keeps def.window def.limit (now past) (round_wakes def past) (round_handles def past) (counts_of def past)
    (served_kept def past)
served_kept def (_ ∷ past) = served_kept def past

-- ---- the thread whose handler returns

module _ (def : LineDef) (s : StateSeen) (d : DevNo) (handled : Bool) (n : ℕ) where
  abbrev Returns : Option Entry → Type 0
  Returns o = o ≡ Some (by.Thread d (threads.Return handled n))

  at_idle : (b : Bool) → Returns (cond b (Some (by.Thread d threads.Begin)) None) → ⊥
  at_idle true h = cc
  at_idle false h = cc

  at_returned : (o f : Bool) (e g : Entry) → (e ≡ by.Thread d (threads.Return handled n) → ⊥) → (g ≡ by.Thread d (threads.Return handled n) → ⊥)
      → Returns (cond o (cond f None (Some e)) (Some g)) → ⊥
  at_returned true true e g a b h = cc
  at_returned true false e g a b h = a (let i : e ≡ by.Thread d (threads.Return handled n) = cc in i)
  at_returned false f e g a b h = b (let i : g ≡ by.Thread d (threads.Return handled n) = cc in i)

  by_stage : (r : ThreadRow) (g : Stage) → Returns (due_at_stage def g s d r) → is_begun g ≡ true
  by_stage r stages.Idle h = absurd (at_idle r.woken h)
  by_stage r stages.Begun h = refl
  by_stage r stages.Returned h =
      absurd (at_returned s.desc.oneshot (is_some s.desc.flow) (by.Thread d (threads.Finish r.woken (finish_opens s r)))
      (by.Thread d threads.Done) (λ i. let x : ⊥ = cc i in x) (λ i. let x : ⊥ = cc i in x) h)
  by_stage r stages.Finished h = absurd (let x : ⊥ = cc h in x)

  by_row : (o : Option ThreadRow) → Returns (due_of_row def s d o) → row_passes may_return false o ≡ true
  by_row None h = absurd (let x : ⊥ = cc h in x)
  by_row (Some r) h = by_stage r r.stage h

-- ---- all of it

module _ (def : LineDef) (past : List Entry) (valid : IsValid def) (legal : IsLegalPast def past) where
  made : (e : Entry) → IsDue def e past → IsMade e (state_of def past)
  made (by.Cpu c (cpus.Begin d)) due = has_a_flow c (flow def past) (begin_due def c d past due).of_flow
  made (by.Cpu c (cpus.Return answer d served)) due = (return_due def c d answer served past due).is_at_work
  made (by.Cpu c (cpus.End again unmask note)) due = has_a_flow c (flow def past) (end_due def c again unmask note past due).of_flow
  made (by.Thread d (threads.Return handled n)) due = by_row def (state_of def past) d handled n
      (at (state_of def past).threads d) (sym (thread_is def past d valid legal) ∙ due)
  made _ due = tt

  pub may_follow : (e : Entry) → IsDue def e past → MayFollow e (state_of def past)
  may_follow e due = record {
    made = made e due;
    served = served_kept def past;
    own = own_by (ask_row def past) def.devices valid.distinct;
    own_runs = own_by (run_row def past) def.devices valid.distinct;
  }
