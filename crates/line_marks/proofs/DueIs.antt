-- What is due of an actor is due by the state and by the places of the drivers.
use Rattle.std.proofs.Common.{◌≡◌, Bool, true, false, cond, None, List, slice_get, reverse, refl, sym, ap, ◌∙◌}
use Rattle.irq_base.specs.declared.calls.Call.{Call}
use Rattle.irq_base.specs.declared.entries.Actor.{Actor}
use Rattle.irq_base.specs.declared.entries.Actor.TheVariants as actors
use Rattle.irq_base.specs.declared.entries.Entry.{Entry}
use Rattle.irq_base.specs.declared.lines.LineDef.{LineDef}
use Rattle.irq_base.specs.declared.numbers.DevNo.{DevNo}
use Rattle.irq_base.specs.declared.numbers.DriverNo.{DriverNo}
use Rattle.irq_model.specs.Due.{calls_by, entries_by, due_call}
use Rattle.irq_model.specs.Legal.{IsLegalPast}
use Rattle.irq_model.specs.Lines.{has_device}
use Rattle.irq_model.specs.Next.{next, next_past, next_of_thread}
use Rattle.irq_model.specs.Valid.{IsValid}
use Rattle.irq_model.proofs.DueSteps.{due_laid}
use Rattle.irq_model.specs.Laid.{with_count}
use Rattle.device_table.proofs.Tables.{at_none}
use Rattle.run_scripts.specs.Runs.{RunsSeen}
use Rattle.line_scripts.specs.Rows.{RowSeen, calls_of, place_of, within_of}
use Rattle.line_marks.proofs.CpuDueIs.{cpu_due_is}
use Rattle.line_marks.proofs.DriversDueIs.{driver_is}
use Rattle.line_marks.proofs.ThreadsDue.{thread_due_is}
use Rattle.line_marks.specs.DriversDue.{driver_due}
use Rattle.line_marks.specs.Due.{due_of_row, thread_due}
use Rattle.line_marks.specs.Line.{IsLine}
use Rattle.line_marks.specs.Next.{due_call_in, due_by}
use Rattle.line_marks.specs.Scripts.{IsAt}
use Rattle.line_marks.specs.State.{StateSeen, state_of}
use Rattle.line_marks.specs.Threads.{thread_of}

-- of a thread of the line itself
pub thread_is : (def : LineDef) (past : List Entry) (d : DevNo) → IsValid def → IsLegalPast def past
    → next_past def past (actors.Thread d) ≡ thread_due def (state_of def past) d
thread_is def past d valid legal = by_test (has_device def d) refl
  where
    by_test : (b : Bool) → has_device def d ≡ b → cond b (next_of_thread def d past) None ≡ thread_due def (state_of def past) d
    by_test true there = thread_due_is def past d valid legal
    by_test false gone = sym (ap (due_of_row def (state_of def past) d) (at_none (thread_of past) def.devices d gone))

module _ (def : LineDef) (past : List Entry) (scripts : List (DriverNo × RowSeen))
    (calls : (r : DriverNo) → calls_of scripts r ≡ calls_by r def.calls)
    (laid : (r : DriverNo) → IsAt def past r (place_of scripts r) (within_of scripts r)) where
  -- the due call by the driver's place
  pub call_is : (r : DriverNo) → due_call def r past ≡ due_call_in scripts r
  call_is r =
      due_laid (calls_by r def.calls) (entries_by r past) (place_of scripts r) (within_of scripts r) (laid r)
      ∙ ap (λ (cs : List Call). with_count (slice_get cs (place_of scripts r)) (within_of scripts r)) (sym (calls r))

  pub due_is : (a : Actor) → IsValid def → IsLegalPast def past → next_past def past a ≡ due_by def (state_of def past) scripts a
  due_is (actors.Thread d) valid legal = thread_is def past d valid legal
  due_is (actors.Cpu c) valid legal = cpu_due_is def past c valid legal
  due_is (actors.Driver r) valid legal = driver_is def past r valid legal ∙ ap (driver_due def (state_of def past) r) (call_is r)

-- the same of a line
pub due_on : (def : LineDef) (h : List Entry) (s : StateSeen) (scripts : List (DriverNo × RowSeen)) (runs : RunsSeen) (a : Actor)
    → IsLine def h s scripts runs → next def h a ≡ due_by def s scripts a
due_on def h s scripts runs a line =
    due_is def (reverse h) scripts line.calls line.at a line.valid line.legal
    ∙ ap (λ (x : StateSeen). due_by def x scripts a) (sym line.state)
