-- What an end makes of the state is what its parts make of it.
use Rattle.std.proofs.Common.{◌≡◌, ℕ, ◌+◌, Bool, true, false, not, ◌||◌, ◌&&◌, ltb, refl, sym, ap, ◌∙◌, arith}
use Rattle.std.proofs.lemmas.Bool.Decides.{nat_tests}
use Rattle.irq_base.specs.Cell.{Cell, is_edge_trigger}
use Rattle.irq_base.specs.declared.entries.Entry.{Entry}
use Rattle.irq_base.specs.declared.entries.Entry.TheVariants as by
use Rattle.irq_base.specs.declared.entries.CpuEntry.TheVariants as cpus
use Rattle.irq_base.specs.declared.entries.Note.{Note}
use Rattle.irq_base.specs.declared.entries.Note.TheVariants as notes
use Rattle.irq_base.specs.declared.lines.FlowKind.{FlowKind}
use Rattle.irq_base.specs.declared.lines.FlowKind.TheVariants as flows
use Rattle.irq_base.specs.declared.lines.LineDef.{LineDef}
use Rattle.irq_base.specs.declared.numbers.CpuNo.{CpuNo}
use Rattle.irq_model.specs.Lines.{is_eoi_flow}
use Rattle.desc_state.specs.Desc.{DescSeen, masked_if}
use Rattle.flow_handlers.specs.Flows.{level_left, level_ended, edge_left, edge_ended, eoi_left, eoi_ended, eoi_ended_cell, unmasked_if, may_open, goes_on}
use Rattle.flow_handlers.specs.declared.leave_answer.LeaveAnswer.{LeaveAnswer}
use Rattle.act_list.specs.Actions.{is_bare}
use Rattle.line_marks.specs.Acts.{noted_at, killed_if, killed_by, left_by, left_at, gone_on}
use Rattle.line_marks.specs.CpuDue.{is_held, note_by, end_with}
use Rattle.line_marks.specs.Desc.{desc_after}
use Rattle.line_marks.specs.State.{StateSeen, state_after, driven_by}

above : (n : ℕ) → ltb 0 (n + 1) ≡ true
above n = grind (arith, nat_tests)

-- a mask that an end may open
not_first : (u m : Bool) → (not u && m) ≡ (m && not u)
not_first true true = refl
not_first true false = refl
not_first false true = refl
not_first false false = refl

-- the mask of an unlazy line that is killed
closes_too : (u m : Bool) → ((u || false) || m) ≡ ((u || m) && true)
closes_too true m = refl
closes_too false true = refl
closes_too false false = refl

closes : (u m : Bool) → ((u || false) || m) ≡ (u || m)
closes true m = refl
closes false m = refl

and_false : (a : Bool) → (a && false) ≡ false
and_false true = refl
and_false false = refl

and_true : (a : Bool) → (a && true) ≡ a
and_true true = refl
and_true false = refl

module _ (def : LineDef) (c : CpuNo) (first held : Bool) (d : DescSeen) where
  -- the descriptor after the flow handler's end
  abbrev ended : FlowKind → DescSeen → DescSeen
  ended flows.Level x = level_ended held x
  ended flows.Edge x = edge_ended x
  ended flows.Eoi x = eoi_ended (eoi_left def.trigger held x) x

  abbrev IsEnded : FlowKind → Note → Type 0
  IsEnded f note = desc_after def first (end_with c note (left_by def f held (killed_if note d))) d ≡ ended f (killed_if note d)

  on_level : (note : Note) → def.flow ≡ flows.Level → IsEnded flows.Level note
  on_level notes.Quiet is = rw (is, not_first (may_open held d) d.masked) refl
  on_level notes.Counted is = rw (is, not_first (may_open held d) d.masked) refl
  on_level notes.Killed is = rw (is, above d.depth, closes_too d.unlazy d.masked) refl

  edge_quiet : (g m : Bool) → goes_on d ≡ g → d.masked ≡ m → def.flow ≡ flows.Edge → IsEnded flows.Edge notes.Quiet
  edge_quiet true true go mask is = rw (is, go, mask) refl
  edge_quiet true false go mask is = rw (is, go, mask) refl
  edge_quiet false m go mask is = rw (is, go) refl

  edge_counted : (g m : Bool) → goes_on d ≡ g → d.masked ≡ m → def.flow ≡ flows.Edge → IsEnded flows.Edge notes.Counted
  edge_counted true true go mask is = rw (is, go, mask) refl
  edge_counted true false go mask is = rw (is, go, mask) refl
  edge_counted false m go mask is = rw (is, go) refl

  on_edge : (note : Note) → def.flow ≡ flows.Edge → IsEnded flows.Edge note
  on_edge notes.Quiet is = edge_quiet (goes_on d) d.masked refl refl is
  on_edge notes.Counted is = edge_counted (goes_on d) d.masked refl refl is
  on_edge notes.Killed is = rw (is, above d.depth, and_false d.pending, closes d.unlazy d.masked) refl

  eoi_quiet : (e g : Bool) → is_edge_trigger def.trigger ≡ e → goes_on d ≡ g → def.flow ≡ flows.Eoi → IsEnded flows.Eoi notes.Quiet
  eoi_quiet true true edge go is = rw (is, edge, go, and_false d.pending, and_true d.masked) refl
  eoi_quiet true false edge go is = rw (is, edge, go, and_true d.pending, and_true d.masked) refl
  eoi_quiet false g edge go is = rw (is, edge, and_true d.pending, not_first (d.oneshot && may_open held d) d.masked) refl

  eoi_counted : (e g : Bool) → is_edge_trigger def.trigger ≡ e → goes_on d ≡ g → def.flow ≡ flows.Eoi → IsEnded flows.Eoi notes.Counted
  eoi_counted true true edge go is = rw (is, edge, go, and_false d.pending, and_true d.masked) refl
  eoi_counted true false edge go is = rw (is, edge, go, and_true d.pending, and_true d.masked) refl
  eoi_counted false g edge go is = rw (is, edge, and_true d.pending, not_first (d.oneshot && may_open held d) d.masked) refl

  eoi_killed : (e : Bool) → is_edge_trigger def.trigger ≡ e → def.flow ≡ flows.Eoi → IsEnded flows.Eoi notes.Killed
  eoi_killed true edge is = rw (is, edge, above d.depth, and_false d.pending, and_true d.pending, closes_too d.unlazy d.masked) refl
  eoi_killed false edge is = rw (is, edge, above d.depth, and_false d.oneshot, and_true d.pending, closes_too d.unlazy d.masked) refl

  on_eoi : (note : Note) → def.flow ≡ flows.Eoi → IsEnded flows.Eoi note
  on_eoi notes.Quiet is = eoi_quiet (is_edge_trigger def.trigger) (goes_on d) refl refl is
  on_eoi notes.Counted is = eoi_counted (is_edge_trigger def.trigger) (goes_on d) refl refl is
  on_eoi notes.Killed is = eoi_killed (is_edge_trigger def.trigger) refl is

  on_flow : (f : FlowKind) (note : Note) → def.flow ≡ f → IsEnded f note
  on_flow flows.Level note is = on_level note is
  on_flow flows.Edge note is = on_edge note is
  on_flow flows.Eoi note is = on_eoi note is

  -- ---- the cell

  abbrev cell_to : (x : DescSeen) (k : Cell) → FlowKind → Cell
  cell_to x k flows.Level = unmasked_if (level_left held x).unmask k
  cell_to x k flows.Edge = unmasked_if (edge_left x).unmask k
  cell_to x k flows.Eoi = eoi_ended_cell (eoi_left def.trigger held x) k

  abbrev killed_cell : Note → Cell → Cell
  killed_cell notes.Killed k = masked_if d.unlazy k
  killed_cell _ k = k

  abbrev IsCell : FlowKind → Note → Cell → Type 0
  IsCell f note k = driven_by def (end_with c note (left_by def f held (killed_if note d))) d false k ≡ cell_to (killed_if note d) (killed_cell note k) f

  eoi_cell_is : (note : Note) (k : Cell) (e : Bool) → is_edge_trigger def.trigger ≡ e → def.flow ≡ flows.Eoi → IsCell flows.Eoi note k
  eoi_cell_is notes.Quiet k true edge is = rw (is, edge) refl
  eoi_cell_is notes.Quiet k false edge is = rw (is, edge) refl
  eoi_cell_is notes.Counted k true edge is = rw (is, edge) refl
  eoi_cell_is notes.Counted k false edge is = rw (is, edge) refl
  eoi_cell_is notes.Killed k true edge is = rw (is, edge) refl
  eoi_cell_is notes.Killed k false edge is = rw (is, edge) refl

  cell_is : (f : FlowKind) (note : Note) (k : Cell) → def.flow ≡ f → IsCell f note k
  cell_is flows.Level notes.Quiet k is = rw is refl
  cell_is flows.Level notes.Counted k is = rw is refl
  cell_is flows.Level notes.Killed k is = rw is refl
  cell_is flows.Edge notes.Quiet k is = rw is refl
  cell_is flows.Edge notes.Counted k is = rw is refl
  cell_is flows.Edge notes.Killed k is = rw is refl
  cell_is flows.Eoi note k is = eoi_cell_is note k (is_edge_trigger def.trigger) refl is

module _ (def : LineDef) (c : CpuNo) (s : StateSeen) where
  abbrev left : FlowKind → Note → LeaveAnswer
  left f note = left_by def f (is_held s) (killed_if note s.desc)

  -- the state with this descriptor and this cell, after the note, and in the next round when the
  -- flow goes on
  abbrev to : Bool → DescSeen → Cell → StateSeen
  to again d k = gone_on def again (record (noted_at s) { desc = d; cell = k })

  rest_is : (again unmask : Bool) (note : Note) (b : Bool) → (again && not (is_eoi_flow def.flow)) ≡ b
      → state_after def (by.Cpu c (cpus.End again unmask note)) s
      ≡ to again (desc_after def (is_bare s.list.actions) (by.Cpu c (cpus.End again unmask note)) s.desc)
      (driven_by def (by.Cpu c (cpus.End again unmask note)) s.desc false s.cell)
  rest_is true unmask note true h = rw h refl
  rest_is true unmask note false h = rw h refl
  rest_is false unmask note b h = refl

  parts_are : (f : FlowKind) (note : Note) → left_at def f (is_held s) (killed_by note (noted_at s))
      ≡ record (noted_at s) {
        desc = ended def c (is_bare s.list.actions) (is_held s) s.desc f (killed_if note s.desc);
        cell = cell_to def c (is_bare s.list.actions) (is_held s) s.desc (killed_if note s.desc)
            (killed_cell def c (is_bare s.list.actions) (is_held s) s.desc note s.cell) f;
      }
  parts_are flows.Level notes.Quiet = refl
  parts_are flows.Level notes.Counted = refl
  parts_are flows.Level notes.Killed = refl
  parts_are flows.Edge notes.Quiet = refl
  parts_are flows.Edge notes.Counted = refl
  parts_are flows.Edge notes.Killed = refl
  parts_are flows.Eoi notes.Quiet = refl
  parts_are flows.Eoi notes.Counted = refl
  parts_are flows.Eoi notes.Killed = refl

  end_with_is : (note : Note) → state_after def (end_with c note (left def.flow note)) s
      ≡ gone_on def (left def.flow note).again (left_at def def.flow (is_held s) (killed_by note (noted_at s)))
  end_with_is note =
      let l = left_by def def.flow (is_held s) (killed_if note s.desc) in
      let bare = is_bare s.list.actions in
      rest_is l.again l.unmask note (l.again && not (is_eoi_flow def.flow)) refl
      ∙ (ap (λ (d : DescSeen). to l.again d (driven_by def (end_with c note l) s.desc false s.cell)) (on_flow def c bare (is_held s) s.desc def.flow note refl)
      ∙ (ap (λ (k : Cell). to l.again (ended def c bare (is_held s) s.desc def.flow (killed_if note s.desc)) k)
      (cell_is def c bare (is_held s) s.desc def.flow note s.cell refl)
      ∙ ap (gone_on def l.again) (sym (parts_are def.flow note))))

-- an end that is as the state says
pub end_is : (def : LineDef) (c : CpuNo) (again unmask : Bool) (note : Note) (s : StateSeen)
    → by.Cpu c (cpus.End again unmask note) ≡ end_with c (note_by s) (left_by def def.flow (is_held s) (killed_if (note_by s) s.desc))
    → state_after def (by.Cpu c (cpus.End again unmask note)) s ≡ gone_on def again (left_at def def.flow (is_held s) (killed_by note (noted_at s)))
end_is def c again unmask note s is =
    ap (λ (e : Entry). state_after def e s) is
    ∙ (end_with_is def c s (note_by s) ∙ (ap (λ a. gone_on def a
    (left_at def def.flow (is_held s) (killed_by (note_by s) (noted_at s)))) (sym (ap again_of is))
    ∙ ap (λ (n : Note). gone_on def again (left_at def def.flow (is_held s) (killed_by n (noted_at s))))
    (sym (ap note_of is))))
  where
    again_of : Entry → Bool
    again_of (by.Cpu cpu (cpus.End a u n)) = a
    again_of _ = false

    note_of : Entry → Note
    note_of (by.Cpu cpu (cpus.End a u n)) = n
    note_of _ = notes.Quiet
