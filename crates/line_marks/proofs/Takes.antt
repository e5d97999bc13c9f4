-- What a take makes of the state is what its parts make of it.
use Rattle.std.proofs.Common.{◌≡◌, Bool, true, false, not, ◌||◌, ◌&&◌, refl, ap}
use Rattle.irq_base.specs.declared.entries.Entry.TheVariants as by
use Rattle.irq_base.specs.declared.entries.CpuEntry.TheVariants as cpus
use Rattle.irq_base.specs.declared.entries.TakeAnswer.{TakeAnswer}
use Rattle.irq_base.specs.declared.entries.TakeAnswer.TheVariants as takes
use Rattle.irq_base.specs.declared.entries.Way.{Way}
use Rattle.irq_base.specs.declared.entries.Way.TheVariants as ways
use Rattle.irq_base.specs.declared.lines.FlowKind.{FlowKind}
use Rattle.irq_base.specs.declared.lines.FlowKind.TheVariants as flows
use Rattle.irq_base.specs.declared.lines.LineDef.{LineDef}
use Rattle.irq_base.specs.declared.numbers.CpuNo.{CpuNo}
use Rattle.irq_model.specs.Lines.{is_edge_line, is_level_line, is_edge_flow, is_level_flow}
use Rattle.irq_model.specs.Valid.{IsValid}
use Rattle.line_marks.specs.Acts.{arrived, moved, entered, handling_from}
use Rattle.line_marks.specs.State.{StateSeen, state_after}

masked_so : (x m : Bool) → ((x || false) || m) ≡ (m || x)
masked_so true true = refl
masked_so true false = refl
masked_so false true = refl
masked_so false false = refl

either_way : (x p : Bool) → (x || p) ≡ (p || x)
either_way true true = refl
either_way true false = refl
either_way false true = refl
either_way false false = refl

module _ (def : LineDef) (cpu : CpuNo) (s : StateSeen) where
  abbrev IsTaken : FlowKind → Way → TakeAnswer → Type 0
  IsTaken f way answer = state_after def (by.Cpu cpu (cpus.Take way answer)) s ≡ handling_from answer (moved (entered def f answer cpu (arrived way s)))

  on_level : (way : Way) (answer : TakeAnswer) → def.flow ≡ flows.Level → is_edge_line def ≡ false → IsTaken flows.Level way answer
  on_level ways.Line takes.Handle is edge = rw is refl
  on_level ways.Line takes.Busy is edge = rw (is, edge) refl
  on_level ways.Line takes.Off is edge = rw is refl
  on_level ways.Resend takes.Handle is edge = rw is refl
  on_level ways.Resend takes.Busy is edge = rw (is, edge) refl
  on_level ways.Resend takes.Off is edge = rw is refl

  on_edge : (way : Way) (answer : TakeAnswer) → def.flow ≡ flows.Edge → is_edge_line def ≡ true → IsTaken flows.Edge way answer
  on_edge ways.Line takes.Handle is edge = rw is refl
  on_edge ways.Line takes.Busy is edge = rw (is, edge) refl
  on_edge ways.Line takes.Off is edge = rw is refl
  on_edge ways.Resend takes.Handle is edge = rw is refl
  on_edge ways.Resend takes.Busy is edge = rw (is, edge) refl
  on_edge ways.Resend takes.Off is edge = rw is refl

  on_eoi : (way : Way) (answer : TakeAnswer) → def.flow ≡ flows.Eoi → IsTaken flows.Eoi way answer
  on_eoi ways.Line takes.Handle is = rw (is, masked_so (is_level_line def && s.desc.oneshot) s.desc.masked) refl
  on_eoi ways.Line takes.Busy is = rw (is, either_way (is_edge_line def) s.desc.pending) refl
  on_eoi ways.Line takes.Off is = rw is refl
  on_eoi ways.Resend takes.Handle is = rw (is, masked_so (is_level_line def && s.desc.oneshot) s.desc.masked) refl
  on_eoi ways.Resend takes.Busy is = rw (is, either_way (is_edge_line def) s.desc.pending) refl
  on_eoi ways.Resend takes.Off is = rw is refl

  closed : (b : Bool) → not b ≡ true → b ≡ false
  closed true h = cc
  closed false h = refl

  by_flow : (f : FlowKind) (way : Way) (answer : TakeAnswer) → IsValid def → def.flow ≡ f → IsTaken f way answer
  by_flow flows.Level way answer valid is = on_level way answer is (closed (is_edge_line def) (valid.level_flow (ap is_level_flow is)))
  by_flow flows.Edge way answer valid is = on_edge way answer is (valid.edge_flow (ap is_edge_flow is))
  by_flow flows.Eoi way answer valid is = on_eoi way answer is

pub take_is : (def : LineDef) (cpu : CpuNo) (way : Way) (answer : TakeAnswer) (s : StateSeen) → IsValid def
    → state_after def (by.Cpu cpu (cpus.Take way answer)) s ≡ handling_from answer (moved (entered def def.flow answer cpu (arrived way s)))
take_is def cpu way answer s valid = by_flow def cpu s def.flow way answer valid refl
