-- The end that is due makes of the state what its parts make of it, one after the other.
use Rattle.std.proofs.Common.{◌≡◌, Bool, true, false, cond, refl, sym, ap, ◌∙◌}
use Rattle.irq_base.specs.declared.entries.Entry.TheVariants as by
use Rattle.irq_base.specs.declared.entries.CpuEntry.TheVariants as cpus
use Rattle.irq_base.specs.declared.entries.Note.{Note}
use Rattle.irq_base.specs.declared.entries.Note.TheVariants as notes
use Rattle.irq_base.specs.declared.lines.FlowKind.TheVariants as flows
use Rattle.irq_base.specs.declared.lines.LineDef.{LineDef}
use Rattle.irq_base.specs.declared.numbers.CpuNo.{CpuNo}
use Rattle.flow_handlers.specs.declared.leave_answer.LeaveAnswer.{LeaveAnswer}
use Rattle.line_marks.specs.Acts.{noted_at, killed_by, killed_if, left_by, left_at, gone_on, round_begun}
use Rattle.line_marks.specs.CpuDue.{is_held, note_by, end_by, end_with}
use Rattle.line_marks.specs.State.{StateSeen, state_after}
use Rattle.line_marks.proofs.Ends.{end_is}

killed_left : (def : LineDef) (note : Note) (s : StateSeen)
    → left_by def def.flow (is_held (killed_by note s)) (killed_by note s).desc
    ≡ left_by def def.flow (is_held s) (killed_if note s.desc)
killed_left def notes.Killed s = refl
killed_left def notes.Quiet s = refl
killed_left def notes.Counted s = refl

killed_held : (note : Note) (s : StateSeen) → is_held (killed_by note s) ≡ is_held s
killed_held notes.Killed s = refl
killed_held notes.Quiet s = refl
killed_held notes.Counted s = refl

-- the note, the kill and the flow handler's end, each of the state before it
module _ (def : LineDef) (s noted killed last : StateSeen) (note : Note) (left : LeaveAnswer) (c : CpuNo)
    (by_note : note ≡ note_by s) (by_noted : noted ≡ noted_at s) (by_killed : killed ≡ killed_by note noted)
    (by_left : left ≡ left_by def def.flow (is_held killed) killed.desc)
    (by_last : last ≡ gone_on def left.again (left_at def def.flow (is_held killed) killed)) where
  kills : killed ≡ killed_by (note_by s) (noted_at s)
  kills = by_killed ∙ rw (by_note, by_noted) refl

  leaves : left ≡ left_by def def.flow (is_held s) (killed_if (note_by s) s.desc)
  leaves = by_left ∙ (ap (λ (t : StateSeen). left_by def def.flow (is_held t) t.desc) kills ∙ killed_left def (note_by s) (noted_at s))

  -- the entry is the one that is due
  pub entry_joined : by.Cpu c (cpus.End left.again left.unmask note) ≡ end_by def s c
  entry_joined = ap (λ (n : Note). end_with c n left) by_note ∙ ap (λ (l : LeaveAnswer). end_with c (note_by s) l) leaves

  pub end_joined : last ≡ state_after def (by.Cpu c (cpus.End left.again left.unmask note)) s
  end_joined =
      by_last
      ∙ (ap (λ (t : StateSeen). gone_on def left.again (left_at def def.flow (is_held t) t)) kills
      ∙ (ap (λ held. gone_on def left.again (left_at def def.flow held (killed_by (note_by s) (noted_at s)))) (killed_held (note_by s) (noted_at s))
      ∙ (ap (λ (n : Note). gone_on def left.again (left_at def def.flow (is_held s) (killed_by n (noted_at s))))
      (sym by_note) ∙ sym (end_is def c left.again left.unmask note s entry_joined))))

-- on the edge flow a flow that goes on begins a new round
pub edge_goes_on : (def : LineDef) (again held : Bool) (s last : StateSeen) → def.flow ≡ flows.Edge
    → last ≡ cond again (round_begun (left_at def flows.Edge held s)) (left_at def flows.Edge held s)
    → last ≡ gone_on def again (left_at def def.flow held s)
edge_goes_on def true held s last is h = rw is h
edge_goes_on def false held s last is h = rw is h
