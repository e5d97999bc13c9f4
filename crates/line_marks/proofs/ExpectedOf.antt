-- An entry that is due is one that the functions of the state expect.
use Rattle.std.proofs.Common.{◌≡◌, ◌≤◌, Bool, List, length, refl, sym, ap, ◌∙◌}
use Rattle.irq_base.specs.declared.calls.Flags.{Flags}
use Rattle.irq_base.specs.declared.entries.Entry.{Entry}
use Rattle.irq_base.specs.declared.entries.Entry.TheVariants as by
use Rattle.irq_base.specs.declared.entries.CpuEntry.TheVariants as cpus
use Rattle.irq_base.specs.declared.entries.ThreadEntry.TheVariants as threads
use Rattle.irq_base.specs.declared.entries.DriverEntry.TheVariants as drivers
use Rattle.irq_base.specs.declared.entries.Actor.{Actor}
use Rattle.irq_base.specs.declared.entries.Actor.TheVariants as actors
use Rattle.irq_base.specs.declared.entries.CallEntry.{CallEntry}
use Rattle.irq_base.specs.declared.entries.CallEntry.TheVariants as called
use Rattle.irq_base.specs.declared.entries.LinkAnswer.{LinkAnswer}
use Rattle.irq_base.specs.declared.entries.LinkAnswer.TheVariants as links
use Rattle.irq_base.specs.declared.entries.Note.{Note}
use Rattle.irq_base.specs.declared.lines.LineDef.{LineDef}
use Rattle.irq_base.specs.declared.numbers.CpuNo.{CpuNo}
use Rattle.irq_laws.proofs.ImpliesDriver.{ask_due, request_due, unlink_due, enable_due, affinity_due, wake_due, arm_due, serve_due, opened_with as opened_after}
use Rattle.irq_laws.proofs.ImpliesFlow.{take_due, end_due, end_shape}
use Rattle.irq_laws.proofs.KeptAlways.{kept}
use Rattle.irq_laws.proofs.WantedKept.{requested_unlinked}
use Rattle.irq_model.specs.Kinds.{made_by}
use Rattle.irq_model.specs.Legal.{IsDue, IsLegalPast}
use Rattle.irq_model.specs.Next.{link_answer}
use Rattle.irq_model.specs.Spurious.{note_of}
use Rattle.irq_model.specs.Valid.{IsValid}
use Rattle.line_marks.proofs.Bounds.{has_space}
use Rattle.line_marks.proofs.CellFollows.{is_open}
use Rattle.line_marks.proofs.CpuDueIs.{end_is, take_answer_is}
use Rattle.line_marks.proofs.CallsDue.{asked_named, ask_edge_is, arm_edge_is, unlink_is, enable_is, unserved_is, wake_is}
use Rattle.line_marks.proofs.DriversDueIs.{answer_is, opened_is}
use Rattle.line_marks.proofs.Known.{linked_known}
use Rattle.line_marks.specs.Acts.{killed_if, left_by}
use Rattle.line_marks.specs.Bounded.{HasSpace}
use Rattle.line_marks.specs.CpuDue.{is_held, end_with}
use Rattle.line_marks.specs.Expected.{IsExpected, IsExpectedCall, opened_with}
use Rattle.line_marks.specs.State.{state_of}

module _ (def : LineDef) (past : List Entry) (valid : IsValid def) (legal : IsLegalPast def past) (few : length past ≤ def.log) where
  space : HasSpace (state_of def past)
  space = has_space def past valid few

  ended : (c : CpuNo) (again unmask : Bool) (note : Note) → IsDue def (by.Cpu c (cpus.End again unmask note)) past
      → by.Cpu c (cpus.End again unmask note) ≡ end_with c (note_of def past)
      (left_by def def.flow (is_held (state_of def past)) (killed_if (note_of def past) (state_of def past).desc))
  ended c again unmask note due =
      let e = end_due def c again unmask note past due in
      rw (e.again_is, e.unmask_is, e.note_is) (sym (end_shape def c past) ∙ end_is def c past def.flow (note_of def past))

  opened_so : (flags : Flags) (a : LinkAnswer) → opened_after def flags past a ≡ opened_with def flags (state_of def past) a
  opened_so flags links.Linked = opened_is def past valid legal flags
  opened_so flags (links.Refused error) = refl

  expected_call : (a : Actor) (call : CallEntry) → IsDue def (made_by a call) past → IsExpectedCall def call (state_of def past)
  expected_call a called.Disable due = space.depth
  expected_call a (called.Enable answer) due = enable_due def a answer past due ∙ sym (enable_is def past valid legal)
  expected_call a (called.Unlink answer dev) due = (unlink_due def a dev answer past due).answer_is ∙ unlink_is def past valid legal dev
  expected_call a (called.Wake woken dev) due = wake_due def a woken dev past due ∙ wake_is def past valid legal dev
  expected_call a (called.Arm edge dev) due = arm_due def a edge dev past due ∙ arm_edge_is def past valid legal dev
  expected_call a (called.Serve dev count) due = serve_due def a dev count past due ∙ sym (unserved_is def past valid legal dev)
  expected_call a called.HardClear due = tt
  expected_call a called.Synced due = tt
  expected_call a (called.Freed dev) due = tt
  expected_call a (called.Quiet dev) due = tt

  pub expected : (e : Entry) → IsDue def e past → IsExpected def e (state_of def past)
  expected (by.Driver driver (drivers.Ask edge dev)) due =
      let a = ask_due def driver dev edge past due in
      (a.edge_is ∙ ask_edge_is def past valid legal dev (asked_named def driver dev a.count past valid a.call), space.asks dev)
  expected (by.Cpu cpu (cpus.Take way answer)) due = ((take_due def cpu way answer past due).answer_is ∙ take_answer_is def cpu past valid legal, space.rounds)
  expected (by.Cpu cpu (cpus.End again unmask note)) due = (ended cpu again unmask note due, space.rounds, space.depth, is_open def past valid legal)
  expected (by.Thread dev (threads.Return handled served)) due = space.handled
  expected (by.CpuCall cpu call) due = expected_call (actors.Cpu cpu) call due
  expected (by.ThreadCall dev call) due = expected_call (actors.Thread dev) call due
  expected (by.DriverCall driver call) due = expected_call (actors.Driver driver) call due
  expected (by.Driver driver (drivers.Request flags answer opened dev)) due =
      let r = request_due def driver dev flags answer opened past due in (
        sym (linked_known def past dev valid legal) ∙ requested_unlinked def driver dev flags r.count past valid (kept def past valid legal).wanted r.call,
        r.answer_is ∙ answer_is def past valid legal dev flags,
        r.opened_is ∙ (opened_so flags (link_answer def dev flags past) ∙ ap (opened_with def flags (state_of def past)) (sym r.answer_is)),
      )
  expected (by.Driver driver (drivers.Affinity answer mask)) due = (affinity_due def driver mask answer past due).answer_is
  expected _ due = tt
