-- What is due of a processor by the table of steps is due by the state.
use Rattle.std.proofs.Common.{◌≡◌, ℕ, ◌+◌, Bool, true, false, not, ◌||◌, ◌&&◌, cond, ltb, Option, Some, None, unwrap_or}
use Rattle.std.proofs.Common.{List, [], ◌∷◌, option_map, refl, sym, ap, ap₂, ◌∙◌, arith}
use Rattle.std.proofs.lemmas.Bool.Decides.{nat_tests}
use Rattle.irq_base.specs.Cell.{signals as presents}
use Rattle.std.specs.List.{list_any}
use Rattle.irq_base.specs.declared.calls.Call.{Call}
use Rattle.irq_base.specs.declared.devices.Answer.{Answer}
use Rattle.irq_base.specs.declared.devices.Part.TheVariants as parts
use Rattle.irq_base.specs.declared.entries.CallEntry.{CallEntry}
use Rattle.irq_base.specs.declared.entries.Entry.{Entry}
use Rattle.irq_base.specs.declared.entries.Entry.TheVariants as by
use Rattle.irq_base.specs.declared.entries.CpuEntry.TheVariants as cpus
use Rattle.irq_base.specs.declared.entries.Note.{Note}
use Rattle.irq_base.specs.declared.entries.Note.TheVariants as notes
use Rattle.irq_base.specs.declared.entries.TakeAnswer.{TakeAnswer}
use Rattle.irq_base.specs.declared.entries.TakeAnswer.TheVariants as takes
use Rattle.irq_base.specs.declared.entries.Way.TheVariants as ways
use Rattle.irq_base.specs.declared.lines.FlowKind.{FlowKind}
use Rattle.irq_base.specs.declared.lines.FlowKind.TheVariants as flows
use Rattle.irq_base.specs.declared.lines.LineDef.{LineDef}
use Rattle.irq_base.specs.declared.numbers.CpuNo.{CpuNo}
use Rattle.irq_base.specs.declared.numbers.DevNo.{DevNo}
use Rattle.irq_laws.proofs.KeptAlways.{kept}
use Rattle.irq_laws.proofs.RestKept.{called_there, there_named}
use Rattle.irq_laws.specs.Driven.{cell_after}
use Rattle.irq_model.specs.Legal.{IsLegalPast}
use Rattle.irq_model.specs.Lines.{is_device, is_edge_line}
use Rattle.irq_model.specs.Links.{linked, is_none_linked, is_disabled, is_oneshot, linking_flags, depth}
use Rattle.irq_model.specs.Masks.{is_masked}
use Rattle.irq_model.specs.Next.{next_of_cpu, next_in_flow, next_take, begin_or_end, end_by_flow, is_off_now, take_answer, handler_or_return}
use Rattle.irq_model.specs.Runs.{due_in_run}
use Rattle.irq_model.specs.Rounds.{flow, has_flow, is_cpu, has_begun, first_left, at_work}
use Rattle.irq_model.specs.Signal.{target}
use Rattle.irq_model.specs.Spurious.{note_of}
use Rattle.irq_model.specs.Threads.{is_some_unfinished}
use Rattle.irq_model.specs.Valid.{IsValid}
use Rattle.irq_model.specs.Waiting.{is_soft, is_pending}
use Rattle.device_table.proofs.Tables.{at_device}
use Rattle.device_table.specs.Rows.{table_by}
use Rattle.act_list.specs.Lists.{first_left as left_in}
use Rattle.line_marks.proofs.ActionsFollow.{actions_are, bare_is}
use Rattle.line_marks.proofs.CellFollows.{presents_is}
use Rattle.line_marks.proofs.CallsDue.{step_is}
use Rattle.line_marks.proofs.Known.{linked_named, held_known}
use Rattle.line_marks.proofs.Listed.{first_by, left_of}
use Rattle.line_marks.proofs.RunsAre.{answer_is, served_is, at_work_open, handler_due_is}
use Rattle.line_marks.specs.Actions.{actions_of}
use Rattle.line_marks.specs.Acts.{left_by, killed_if}
use Rattle.line_marks.specs.CpuDue.{is_held, end_with, begin_or_end_by, handler_or_return_by, in_flow_by, take_by, next_take_by, cpu_due}
use Rattle.line_marks.specs.Desc.{desc_of}
use Rattle.line_marks.specs.State.{state_of}

-- ---- the walk

first_is : (def : LineDef) (past : List Entry) (ds : List DevNo) → first_left def past ds ≡ first_by (has_begun def past) ds
first_is def past [] = refl
first_is def past (d ∷ ds) = ap (λ (o : Option DevNo). cond (has_begun def past d) o (Some d)) (first_is def past ds)

left_known : (def : LineDef) (past : List Entry) → IsValid def → IsLegalPast def past
    → first_left def past (linked past) ≡ left_in (table_by (has_begun def past) def.devices) (actions_of past)
left_known def past valid legal =
    first_is def past (linked past)
    ∙ sym (left_of (linking_flags past) (has_begun def past) (table_by (has_begun def past) def.devices)
    (actions_of past) (linked past) (actions_are def past valid legal)
    (λ d i. ap (λ (o : Option Bool). unwrap_or o false) (at_device (has_begun def past) def.devices d (linked_named def past d (kept def past valid legal) i))))

-- ---- the end

or_true : (a : Bool) → (a || true) ≡ true
or_true true = refl
or_true false = refl

or_false : (a : Bool) → (a || false) ≡ a
or_false true = refl
or_false false = refl

above : (n : ℕ) → ltb 0 (n + 1) ≡ true
above n = grind (arith, nat_tests)

and_false : (a : Bool) → false ≡ (a && false)
and_false true = refl
and_false false = refl

-- the end of each flow, whether the line is off by now or not
never : (p m k : Bool) → ((p && false) && m) ≡ ((p && false) && k)
never true m k = refl
never false m k = refl

oneshot_first : (o s m : Bool) → ((not o && s) && m) ≡ (s && (not o && m))
oneshot_first true true m = refl
oneshot_first true false m = refl
oneshot_first false true m = refl
oneshot_first false false m = refl

module _ (def : LineDef) (c : CpuNo) (past : List Entry) where
  held : Bool
  held = is_held (state_of def past)

  abbrev IsEnd : FlowKind → Note → Type 0
  IsEnd f note = end_by_flow def f c past note ≡ end_with c note (left_by def f (is_held (state_of def past)) (killed_if note (desc_of def past)))

  level_open : (note : Note) (off : Bool) → is_off_now past note ≡ off
      → (not (is_off_now past note) && (is_masked def past && not (is_some_unfinished def past)))
      ≡ (not off && (is_masked def past && not (is_held (state_of def past))))
  level_open note off is = rw (is, held_known past def.devices) refl

  level_end : (note : Note) → IsEnd flows.Level note
  level_end notes.Killed = rw (or_true (is_disabled past), above (depth past)) refl
  level_end notes.Quiet = rw (or_false (is_disabled past), held_known past def.devices) refl
  level_end notes.Counted = rw (or_false (is_disabled past), held_known past def.devices) refl

  edge_end : (note : Note) → IsEnd flows.Edge note
  edge_end notes.Killed = rw (or_true (is_disabled past), above (depth past))
      (ap (λ b. by.Cpu c (cpus.End (is_pending def past && false) b notes.Killed))
      (never (is_pending def past) (is_masked def past) (def.unlazy || is_masked def past)))
  edge_end notes.Quiet = rw (or_false (is_disabled past)) refl
  edge_end notes.Counted = rw (or_false (is_disabled past)) refl

  abbrev eoi_at : Bool → Note → Type 0
  eoi_at e note =
      cond e (by.Cpu c (cpus.End (is_pending def past && not (is_off_now past note)) false note))
      (by.Cpu c (cpus.End false ((not (is_off_now past note) && is_oneshot past) &&
      (is_masked def past && not (is_some_unfinished def past))) note))
      ≡ end_with c note (left_by def flows.Eoi (is_held (state_of def past)) (killed_if note (desc_of def past)))

  eoi_end : (note : Note) (e : Bool) → is_edge_line def ≡ e → eoi_at e note
  eoi_end notes.Killed true is = rw (is, or_true (is_disabled past), above (depth past)) refl
  eoi_end notes.Killed false is = rw (is, or_true (is_disabled past), above (depth past))
      (ap (λ b. by.Cpu c (cpus.End false b notes.Killed)) (and_false (is_oneshot past)))
  eoi_end notes.Quiet true is = rw (is, or_false (is_disabled past)) refl
  eoi_end notes.Quiet false is = rw (is, or_false (is_disabled past), held_known past def.devices)
      (ap (λ b. by.Cpu c (cpus.End false b notes.Quiet)) (oneshot_first (is_disabled past) (is_oneshot past) _))
  eoi_end notes.Counted true is = rw (is, or_false (is_disabled past)) refl
  eoi_end notes.Counted false is = rw (is, or_false (is_disabled past), held_known past def.devices)
      (ap (λ b. by.Cpu c (cpus.End false b notes.Counted)) (oneshot_first (is_disabled past) (is_oneshot past) _))

  pub end_is : (f : FlowKind) (note : Note) → IsEnd f note
  end_is flows.Level note = level_end note
  end_is flows.Edge note = edge_end note
  end_is flows.Eoi note = eoi_end note (is_edge_line def) refl

  walk_is : (o : Option DevNo) → begin_or_end def c past o ≡ begin_or_end_by def (state_of def past) c o
  walk_is None = end_is def.flow (note_of def past)
  walk_is (Some d) = refl

  module _ (valid : IsValid def) (legal : IsLegalPast def past) where
    handler_is : (d : DevNo) → at_work past ≡ Some d → list_any (is_device d) def.devices ≡ true → (o : Option (Call × ℕ))
        → handler_or_return def c d past o ≡ handler_or_return_by def (state_of def past) c d o
    handler_is d is there None =
        ap₂ (λ (a : Answer) (n : ℕ). Some (by.Cpu c (cpus.Return a d n))) (sym (answer_is def past d there parts.Primary))
        (sym (served_is def past d there parts.Primary (at_work_open d past is)))
    handler_is d is there (Some due) = ap (λ (o : Option CallEntry). option_map (by.CpuCall c) o) (step_is def past valid legal due)

    in_flow_is : (o : Option DevNo) → at_work past ≡ o → next_in_flow def c past o ≡ in_flow_by def (state_of def past) c o
    in_flow_is (Some d) is =
        let k = kept def past valid legal in
        let there = there_named def past k d (called_there def past k d (k.runs.working d is).0) in
        handler_is d is there (due_in_run def parts.Primary d past)
        ∙ ap (handler_or_return_by def (state_of def past) c d) (sym (handler_due_is def past d there is))
    in_flow_is None is =
        ap (λ (o : Option DevNo). Some (begin_or_end def c past o)) (left_known def past valid legal)
        ∙ ap Some (walk_is (left_in (table_by (has_begun def past) def.devices) (actions_of past)))

    pub take_answer_is : take_answer def past ≡ take_by (state_of def past)
    take_answer_is = rw (bare_is def past valid legal)
        (ap (λ b. cond (has_flow def past) takes.Busy (cond (is_disabled past || b) takes.Off takes.Handle))
        (twice (is_none_linked past)))
      where
        twice : (b : Bool) → b ≡ not (not b)
        twice true = refl
        twice false = refl

    take_is : next_take def c past ≡ next_take_by (state_of def past) c
    take_is =
        ap (λ b. cond (not (is_cpu c (target def past))) None
        (cond b (Some (by.Cpu c (cpus.Take ways.Line (take_answer def past))))
        (cond (is_soft past) (Some (by.Cpu c (cpus.Take ways.Resend (take_answer def past)))) None)))
        (sym (presents_is def past valid legal))
        ∙ ap (λ (a : TakeAnswer). cond (not (is_cpu c (target def past))) None
        (cond (presents (cell_after def past)) (Some (by.Cpu c (cpus.Take ways.Line a)))
        (cond (is_soft past) (Some (by.Cpu c (cpus.Take ways.Resend a))) None))) take_answer_is

pub cpu_due_is : (def : LineDef) (past : List Entry) (c : CpuNo) → IsValid def → IsLegalPast def past
    → next_of_cpu def c past ≡ cpu_due def (state_of def past) c
cpu_due_is def past c valid legal =
    ap (λ (o : Option Entry). cond (is_cpu c (flow def past)) o (next_take def c past)) (in_flow_is def c past valid legal (at_work past) refl)
    ∙ ap (λ (o : Option Entry). cond (is_cpu c (flow def past)) (in_flow_by def (state_of def past) c (at_work past)) o) (take_is def c past valid legal)
