-- What a processor's entry implies when it is due: the conditions of its row.
use Rattle.std.proofs.Common.{◌≡◌, ℕ, ◌⊎◌, inl, inr, Bool, true, false, not, ◌&&◌, cond, Option, Some, None, List}
use Rattle.std.proofs.Common.{is_some, option_map, refl, sym, ap, ◌∙◌, subst}
use Rattle.irq_base.specs.declared.numbers.CpuNo.{CpuNo}
use Rattle.irq_base.specs.declared.numbers.DevNo.{DevNo}
use Rattle.irq_base.specs.declared.devices.Answer.{Answer}
use Rattle.irq_base.specs.declared.devices.Part.TheVariants as parts
use Rattle.irq_base.specs.declared.lines.FlowKind.{FlowKind}
use Rattle.irq_base.specs.declared.lines.FlowKind.TheVariants as flows
use Rattle.irq_base.specs.declared.lines.LineDef.{LineDef}
use Rattle.irq_base.specs.declared.calls.Call.{Call}
use Rattle.irq_base.specs.declared.entries.Actor.{Actor}
use Rattle.irq_base.specs.declared.entries.Actor.TheVariants as actors
use Rattle.irq_base.specs.declared.entries.Entry.{Entry}
use Rattle.irq_base.specs.declared.entries.Entry.TheVariants as by
use Rattle.irq_base.specs.declared.entries.CallEntry.{CallEntry}
use Rattle.irq_base.specs.declared.entries.CpuEntry.TheVariants as cpus
use Rattle.irq_base.specs.declared.entries.Way.{Way}
use Rattle.irq_base.specs.declared.entries.Way.TheVariants as ways
use Rattle.irq_base.specs.declared.entries.TakeAnswer.{TakeAnswer}
use Rattle.irq_base.specs.declared.entries.Note.{Note}
use Rattle.irq_model.specs.Kinds.{made_by}
use Rattle.irq_model.specs.Lines.{is_edge_line}
use Rattle.irq_model.specs.Links.{linked, is_oneshot}
use Rattle.irq_model.specs.Masks.{is_masked}
use Rattle.irq_model.specs.Rounds.{flow, is_cpu, first_left, at_work}
use Rattle.irq_model.specs.Waiting.{is_pending, is_soft}
use Rattle.irq_model.specs.Signal.{signals, target}
use Rattle.irq_model.specs.Threads.{is_some_unfinished}
use Rattle.irq_model.specs.Spurious.{note_of}
use Rattle.irq_model.specs.Runs.{answer_of_run_now, served_by_run, due_in_run}
use Rattle.irq_model.specs.Next.{is_off_now, end_by_flow, end_of, begin_or_end, return_of, handler_or_return, next_step}
use Rattle.irq_model.specs.Next.{next_in_flow, take_answer, next_take, next_of_cpu}
use Rattle.irq_model.specs.Legal.{IsDue}
use Rattle.irq_laws.proofs.Chosen.{chosen, the_same}

-- ---- the end of a flow, a flag each

abbrev pub again_by : LineDef → FlowKind → List Entry → Note → Bool
again_by def flows.Edge past note = is_pending def past && not (is_off_now past note)
again_by def flows.Level past note = false
again_by def flows.Eoi past note = is_edge_line def && (is_pending def past && not (is_off_now past note))

-- the flow leaves the line open, if it is masked and no thread holds it
abbrev pub opens_level : LineDef → List Entry → Bool → Bool
opens_level def past may_open = may_open && (is_masked def past && not (is_some_unfinished def past))

abbrev pub unmask_by : LineDef → FlowKind → List Entry → Note → Bool
unmask_by def flows.Edge past note = (is_pending def past && not (is_off_now past note)) && is_masked def past
unmask_by def flows.Level past note = opens_level def past (not (is_off_now past note))
unmask_by def flows.Eoi past note = not (is_edge_line def) && opens_level def past (not (is_off_now past note) && is_oneshot past)

eoi_shape : (c : CpuNo) (b x y : Bool) (note : Note) → cond b (by.Cpu c (cpus.End x false note)) (by.Cpu c (cpus.End false y note))
    ≡ by.Cpu c (cpus.End (b && x) (not b && y) note)
eoi_shape c true x y note = refl
eoi_shape c false x y note = refl

shape_by : (def : LineDef) (f : FlowKind) (c : CpuNo) (past : List Entry) (note : Note)
    → end_by_flow def f c past note ≡ by.Cpu c (cpus.End (again_by def f past note) (unmask_by def f past note) note)
shape_by def flows.Edge c past note = refl
shape_by def flows.Level c past note = refl
shape_by def flows.Eoi c past note =
    eoi_shape c (is_edge_line def) (is_pending def past && not (is_off_now past note))
    (opens_level def past (not (is_off_now past note) && is_oneshot past)) note

pub end_shape : (def : LineDef) (c : CpuNo) (past : List Entry)
    → end_of def c past ≡ by.Cpu c (cpus.End (again_by def def.flow past (note_of def past))
    (unmask_by def def.flow past (note_of def past)) (note_of def past))
end_shape def c past = shape_by def def.flow c past (note_of def past)

-- ---- the records

-- the line's target takes what is signalled, or else what the software resends, outside its own
-- flow
pub record IsTakeDue (def : LineDef) (c : CpuNo) (way : Way) (answer : TakeAnswer) (past : List Entry) : Type 0 where
  pub not_of_flow : is_cpu c (flow def past) ≡ false
  pub of_target : is_cpu c (target def past) ≡ true
  pub answer_is : answer ≡ take_answer def past
  pub by_line : way ≡ ways.Line → signals def past ≡ true
  pub by_resend : way ≡ ways.Resend → (signals def past ≡ false) × (is_soft past ≡ true)

-- the first linked device that is left is called
pub record IsBeginDue (def : LineDef) (c : CpuNo) (d : DevNo) (past : List Entry) : Type 0 where
  pub of_flow : is_cpu c (flow def past) ≡ true
  pub none_at_work : at_work past ≡ None
  pub first : first_left def past (linked past) ≡ Some d

-- the handler that is at work has no call left, and returns
pub record IsReturnDue (def : LineDef) (c : CpuNo) (d : DevNo) (answer : Answer) (served : ℕ) (past : List Entry) : Type 0 where
  pub of_flow : is_cpu c (flow def past) ≡ true
  pub is_at_work : at_work past ≡ Some d
  pub no_call : due_in_run def parts.Primary d past ≡ None
  pub answer_is : answer ≡ answer_of_run_now def parts.Primary d past
  pub served_is : served ≡ served_by_run def parts.Primary d past

-- nothing is at work, and no linked device is left
pub record IsEndDue (def : LineDef) (c : CpuNo) (again unmask : Bool) (note : Note) (past : List Entry) : Type 0 where
  pub of_flow : is_cpu c (flow def past) ≡ true
  pub none_at_work : at_work past ≡ None
  pub none_left : first_left def past (linked past) ≡ None
  pub note_is : note ≡ note_of def past
  pub again_is : again ≡ again_by def def.flow past (note_of def past)
  pub unmask_is : unmask ≡ unmask_by def def.flow past (note_of def past)

-- the handler that is at work makes the step of its due call
pub record IsHandlerCallDue (def : LineDef) (c : CpuNo) (call : CallEntry) (past : List Entry) : Type 0 where
  pub of_flow : is_cpu c (flow def past) ≡ true
  pub dev : DevNo
  pub is_at_work : at_work past ≡ Some dev
  pub due : Call × ℕ
  pub is_due : due_in_run def parts.Primary dev past ≡ Some due
  pub step : next_step def past due ≡ Some call

-- ---- the rows of a processor

pub data CpuRow (def : LineDef) (c : CpuNo) (past : List Entry) (e : Entry) : Type 0 where
  calls : (call : CallEntry) → IsHandlerCallDue def c call past → by.CpuCall c call ≡ e → CpuRow def c past e
  returns : (d : DevNo) → is_cpu c (flow def past) ≡ true → at_work past ≡ Some d → due_in_run def parts.Primary d past ≡ None
      → return_of def c d past ≡ e → CpuRow def c past e
  begins : (d : DevNo) → is_cpu c (flow def past) ≡ true → at_work past ≡ None → first_left def past (linked past) ≡ Some d
      → by.Cpu c (cpus.Begin d) ≡ e → CpuRow def c past e
  ends : is_cpu c (flow def past) ≡ true → at_work past ≡ None → first_left def past (linked past) ≡ None
      → by.Cpu c (cpus.End (again_by def def.flow past (note_of def past)) (unmask_by def def.flow past (note_of def past)) (note_of def past)) ≡ e
      → CpuRow def c past e
  takes : is_cpu c (flow def past) ≡ false → is_cpu c (target def past) ≡ true → signals def past ≡ true
      → by.Cpu c (cpus.Take ways.Line (take_answer def past)) ≡ e → CpuRow def c past e
  resent : is_cpu c (flow def past) ≡ false → is_cpu c (target def past) ≡ true → signals def past ≡ false → is_soft past ≡ true
      → by.Cpu c (cpus.Take ways.Resend (take_answer def past)) ≡ e → CpuRow def c past e

-- a step of what is due, made by an actor
pub made_step : (a : Actor) (o : Option CallEntry) (e : Entry) → option_map (made_by a) o ≡ Some e
    → (call : CallEntry) × (o ≡ Some call) × (made_by a call ≡ e)
made_step a None e h = cc
made_step a (Some call) e h = (call, refl, the_same _ _ h)

call_row : (def : LineDef) (c : CpuNo) (d : DevNo) (past : List Entry) (e : Entry) (o : Option (Call × ℕ))
    → is_cpu c (flow def past) ≡ true → at_work past ≡ Some d → due_in_run def parts.Primary d past ≡ o
    → handler_or_return def c d past o ≡ Some e → CpuRow def c past e
call_row def c d past e None f w is h = returns d f w is (the_same _ _ h)
call_row def c d past e (Some due) f w is h =
    let m = made_step (actors.Cpu c) (next_step def past due) e h in
    calls m.0 (record { of_flow = f; dev = d; is_at_work = w; due = due; is_due = is; step = m.1 }) m.2

left_row : (def : LineDef) (c : CpuNo) (past : List Entry) (e : Entry) (l : Option DevNo)
    → is_cpu c (flow def past) ≡ true → at_work past ≡ None → first_left def past (linked past) ≡ l
    → begin_or_end def c past l ≡ e → CpuRow def c past e
left_row def c past e None f w is h = ends f w is (sym (end_shape def c past) ∙ h)
left_row def c past e (Some d) f w is h = begins d f w is h

flow_row : (def : LineDef) (c : CpuNo) (past : List Entry) (e : Entry) (w : Option DevNo)
    → is_cpu c (flow def past) ≡ true → at_work past ≡ w → next_in_flow def c past w ≡ Some e → CpuRow def c past e
flow_row def c past e None f is h = left_row def c past e (first_left def past (linked past)) f is refl (the_same _ _ h)
flow_row def c past e (Some d) f is h = call_row def c d past e (due_in_run def parts.Primary d past) f is refl h

take_row : (def : LineDef) (c : CpuNo) (past : List Entry) (e : Entry) (t s o : Bool)
    → is_cpu c (flow def past) ≡ false → is_cpu c (target def past) ≡ t → signals def past ≡ s → is_soft past ≡ o
    → cond (not t) None (cond s (Some (by.Cpu c (cpus.Take ways.Line (take_answer def past))))
    (cond o (Some (by.Cpu c (cpus.Take ways.Resend (take_answer def past)))) None)) ≡ Some e
    → CpuRow def c past e
take_row def c past e true true o f it is io h = takes f it is (the_same _ _ h)
take_row def c past e true false true f it is io h = resent f it is io (the_same _ _ h)
take_row def c past e true false false f it is io h = cc
take_row def c past e false s o f it is io h = cc

-- the row of a processor's entry
pub cpu_row : (def : LineDef) (c : CpuNo) (past : List Entry) (e : Entry) → next_of_cpu def c past ≡ Some e → CpuRow def c past e
cpu_row def c past e due = by_branch (chosen (is_cpu c (flow def past)) (next_in_flow def c past (at_work past)) (next_take def c past) e due)
  where
    by_branch : ((is_cpu c (flow def past) ≡ true) × (next_in_flow def c past (at_work past) ≡ Some e))
        ⊎ ((is_cpu c (flow def past) ≡ false) × (next_take def c past ≡ Some e)) → CpuRow def c past e
    by_branch (inl h) = flow_row def c past e (at_work past) h.0 refl h.1
    by_branch (inr h) = take_row def c past e (is_cpu c (target def past)) (signals def past) (is_soft past) h.0 refl refl refl h.1

-- ---- the inversions

take_from : (def : LineDef) (c : CpuNo) (way : Way) (answer : TakeAnswer) (past : List Entry)
    → CpuRow def c past (by.Cpu c (cpus.Take way answer)) → IsTakeDue def c way answer past
take_from def c way answer past (takes f t s same) =
    let a : answer ≡ take_answer def past = cc in
    let w : way ≡ ways.Line = cc in
    record { not_of_flow = f; of_target = t; answer_is = a; by_line = λ is. s; by_resend = λ is. absurd (let n : ⊥ = cc (sym w ∙ is) in n) }
take_from def c way answer past (resent f t s o same) =
    let a : answer ≡ take_answer def past = cc in
    let w : way ≡ ways.Resend = cc in
    record { not_of_flow = f; of_target = t; answer_is = a; by_line = λ is. absurd (let n : ⊥ = cc (sym w ∙ is) in n); by_resend = λ is. (s, o) }
take_from def c way answer past (calls call u same) = cc
take_from def c way answer past (returns d f w n same) = cc
take_from def c way answer past (begins d f w l same) = cc
take_from def c way answer past (ends f w l same) = cc

pub take_due : (def : LineDef) (c : CpuNo) (way : Way) (answer : TakeAnswer) (past : List Entry)
    → IsDue def (by.Cpu c (cpus.Take way answer)) past → IsTakeDue def c way answer past
take_due def c way answer past due = take_from def c way answer past (cpu_row def c past (by.Cpu c (cpus.Take way answer)) due)

begin_from : (def : LineDef) (c : CpuNo) (d : DevNo) (past : List Entry) → CpuRow def c past (by.Cpu c (cpus.Begin d)) → IsBeginDue def c d past
begin_from def c d past (begins x f w l same) = let s : x ≡ d = cc in record { of_flow = f; none_at_work = w; first = l ∙ ap Some s }
begin_from def c d past (calls call u same) = cc
begin_from def c d past (returns x f w n same) = cc
begin_from def c d past (ends f w l same) = cc
begin_from def c d past (takes f t s same) = cc
begin_from def c d past (resent f t s o same) = cc

pub begin_due : (def : LineDef) (c : CpuNo) (d : DevNo) (past : List Entry) → IsDue def (by.Cpu c (cpus.Begin d)) past → IsBeginDue def c d past
begin_due def c d past due = begin_from def c d past (cpu_row def c past (by.Cpu c (cpus.Begin d)) due)

return_from : (def : LineDef) (c : CpuNo) (d : DevNo) (answer : Answer) (served : ℕ) (past : List Entry)
    → CpuRow def c past (by.Cpu c (cpus.Return answer d served)) → IsReturnDue def c d answer served past
return_from def c d answer served past (returns x f w n same) =
    let s : x ≡ d = cc in
    let a : answer_of_run_now def parts.Primary x past ≡ answer = cc in
    let v : served_by_run def parts.Primary x past ≡ served = cc in
    record {
      of_flow = f;
      is_at_work = w ∙ ap Some s;
      no_call = ap (λ (y : DevNo). due_in_run def parts.Primary y past) (sym s) ∙ n;
      answer_is = sym a ∙ ap (λ (y : DevNo). answer_of_run_now def parts.Primary y past) s;
      served_is = sym v ∙ ap (λ (y : DevNo). served_by_run def parts.Primary y past) s;
    }
return_from def c d answer served past (calls call u same) = cc
return_from def c d answer served past (begins x f w l same) = cc
return_from def c d answer served past (ends f w l same) = cc
return_from def c d answer served past (takes f t s same) = cc
return_from def c d answer served past (resent f t s o same) = cc

pub return_due : (def : LineDef) (c : CpuNo) (d : DevNo) (answer : Answer) (served : ℕ) (past : List Entry)
    → IsDue def (by.Cpu c (cpus.Return answer d served)) past → IsReturnDue def c d answer served past
return_due def c d answer served past due = return_from def c d answer served past (cpu_row def c past (by.Cpu c (cpus.Return answer d served)) due)

end_from : (def : LineDef) (c : CpuNo) (again unmask : Bool) (note : Note) (past : List Entry)
    → CpuRow def c past (by.Cpu c (cpus.End again unmask note)) → IsEndDue def c again unmask note past
end_from def c again unmask note past (ends f w l same) =
    let a : again ≡ again_by def def.flow past (note_of def past) = cc in
    let u : unmask ≡ unmask_by def def.flow past (note_of def past) = cc in
    let n : note ≡ note_of def past = cc in
    record { of_flow = f; none_at_work = w; none_left = l; note_is = n; again_is = a; unmask_is = u }
end_from def c again unmask note past (calls call u same) = cc
end_from def c again unmask note past (returns x f w n same) = cc
end_from def c again unmask note past (begins x f w l same) = cc
end_from def c again unmask note past (takes f t s same) = cc
end_from def c again unmask note past (resent f t s o same) = cc

pub end_due : (def : LineDef) (c : CpuNo) (again unmask : Bool) (note : Note) (past : List Entry)
    → IsDue def (by.Cpu c (cpus.End again unmask note)) past → IsEndDue def c again unmask note past
end_due def c again unmask note past due = end_from def c again unmask note past (cpu_row def c past (by.Cpu c (cpus.End again unmask note)) due)

handler_call_from : (def : LineDef) (c : CpuNo) (call : CallEntry) (past : List Entry)
    → CpuRow def c past (by.CpuCall c call) → IsHandlerCallDue def c call past
handler_call_from def c call past (calls x u same) = let s : x ≡ call = cc in subst (λ (y : CallEntry). IsHandlerCallDue def c y past) s u
handler_call_from def c call past (returns x f w n same) = cc
handler_call_from def c call past (begins x f w l same) = cc
handler_call_from def c call past (ends f w l same) = cc
handler_call_from def c call past (takes f t s same) = cc
handler_call_from def c call past (resent f t s o same) = cc

pub handler_call_due : (def : LineDef) (c : CpuNo) (call : CallEntry) (past : List Entry)
    → IsDue def (by.CpuCall c call) past → IsHandlerCallDue def c call past
handler_call_due def c call past due = handler_call_from def c call past (cpu_row def c past (by.CpuCall c call) due)

-- a processor's flow is a flow
pub has_a_flow : (c : CpuNo) (o : Option CpuNo) → is_cpu c o ≡ true → is_some o ≡ true
has_a_flow c None h = h
has_a_flow c (Some f) h = refl
