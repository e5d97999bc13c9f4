-- The cell of a line, driven by the entries: what each entry does to the cell, in the order in
-- which the flow handlers and the calls do it. The newest entry comes first.
use Rattle.std.specs.Prelude.{ℕ, nat_lt, ◌≡◌, Bool, ◌&&◌, if◌then◌else◌, List, [], ◌∷◌, reverse}
use Rattle.irq_base.specs.declared.lines.FlowKind.{FlowKind}
use Rattle.irq_base.specs.declared.lines.FlowKind.TheVariants as flows
use Rattle.irq_base.specs.declared.lines.LineDef.{LineDef}
use Rattle.irq_base.specs.declared.entries.Entry.{Entry}
use Rattle.irq_base.specs.declared.entries.Entry.TheVariants as by
use Rattle.irq_base.specs.declared.entries.CpuEntry.TheVariants as cpus
use Rattle.irq_base.specs.declared.entries.ThreadEntry.TheVariants as threads
use Rattle.irq_base.specs.declared.entries.DriverEntry.TheVariants as drivers
use Rattle.irq_base.specs.declared.entries.CallEntry.{CallEntry}
use Rattle.irq_base.specs.declared.entries.CallEntry.TheVariants as called
use Rattle.irq_base.specs.declared.entries.Way.{Way}
use Rattle.irq_base.specs.declared.entries.Way.TheVariants as ways
use Rattle.irq_base.specs.declared.entries.TakeAnswer.{TakeAnswer}
use Rattle.irq_base.specs.declared.entries.TakeAnswer.TheVariants as takes
use Rattle.irq_base.specs.Cell.{Cell, fresh_cell, after_edge, after_high, after_mask}
use Rattle.irq_base.specs.Cell.{after_unmask, after_accept, after_ack, after_eoi, after_retrigger}
use Rattle.irq_base.specs.Cell.{signals as presents}
use Rattle.irq_model.specs.Kinds.{is_kill, is_start, is_chip_start, unlinks_last}
use Rattle.irq_model.specs.Kinds.{opened_by_enable, is_started_opened, is_chip_opened}
use Rattle.irq_model.specs.Lines.{is_edge_line, is_level_line, serves}
use Rattle.irq_model.specs.Links.{is_oneshot}
use Rattle.irq_model.specs.Asks.{is_high}
use Rattle.irq_model.specs.Masks.{is_masked}
use Rattle.irq_model.specs.Rounds.{has_flow}
use Rattle.irq_model.specs.Edges.{is_sent, is_stored}
use Rattle.irq_model.specs.Signal.{signals}

-- the cell of a definition with these marks
abbrev pub cell_with : LineDef → Bool → Bool → Bool → Bool → Bool → Cell
cell_with def masked stored sent high in_service =
    record {
      trigger = def.trigger;
      keeps = def.keeps;
      recalls = def.recalls;
      retriggers = def.retriggers;
      serves = serves def;
      masked = masked;
      stored = stored;
      sent = sent;
      high = high;
      in_service = in_service;
    }

-- the marks, read off the past
abbrev pub cell_of : LineDef → List Entry → Cell
cell_of def past = cell_with def (is_masked def past) (is_stored def past) (is_sent def past)
    (is_high def past) (serves def && has_flow def past)

-- ---- what an entry does to the cell

-- an interrupt that the line presents is accepted; one that the software resends isn't
abbrev pub accepted : Way → Cell → Cell
accepted ways.Line c = after_accept c
accepted ways.Resend c = c

-- `handle_edge_irq`
abbrev pub taken_on_edge_flow : TakeAnswer → Cell → Cell
taken_on_edge_flow takes.Handle c = after_ack c
taken_on_edge_flow takes.Busy c = after_mask (after_ack c)
taken_on_edge_flow takes.Off c = after_mask (after_ack c)

-- `handle_fasteoi_irq` on an edge line (that it acknowledges is ours), and on a level line, which
-- may be one-shot
abbrev pub taken_on_eoi_edge : TakeAnswer → Cell → Cell
taken_on_eoi_edge takes.Handle c = after_ack c
taken_on_eoi_edge takes.Busy c = after_eoi (after_ack c)
taken_on_eoi_edge takes.Off c = after_eoi (after_mask (after_ack c))

abbrev pub taken_on_eoi_level : Bool → TakeAnswer → Cell → Cell
taken_on_eoi_level oneshot takes.Handle c = if oneshot then after_mask c else c
taken_on_eoi_level oneshot takes.Busy c = after_eoi c
taken_on_eoi_level oneshot takes.Off c = after_eoi (after_mask c)

-- what a take does to the cell; the level flow masks and acknowledges each
abbrev pub taken : LineDef → FlowKind → Bool → TakeAnswer → Cell → Cell
taken def flows.Level oneshot answer c = after_ack (after_mask c)
taken def flows.Edge oneshot answer c = taken_on_edge_flow answer c
taken def flows.Eoi oneshot answer c =
    if is_edge_line def then taken_on_eoi_edge answer c else taken_on_eoi_level oneshot answer c

-- a call or a note that masks
abbrev pub masked_if : Bool → Cell → Cell
masked_if b c = if b then after_mask c else c

abbrev pub unmasked_if : Bool → Cell → Cell
unmasked_if b c = if b then after_unmask c else c

abbrev pub retriggered_if : Bool → Cell → Cell
retriggered_if b c = if b then after_retrigger c else c

-- the end of a flow: on the fast-EOI flow the end of interrupt first, and the chip sends again at
-- last
abbrev pub ended : LineDef → FlowKind → Bool → Bool → Cell → Cell
ended def flows.Eoi again unmask c =
    retriggered_if (is_edge_line def && again) (unmasked_if unmask (after_eoi c))
ended def _ again unmask c = unmasked_if unmask c

-- a device asks, or is turned on: an edge comes, if the device makes one, or the level is set by
-- whether some device that isn't quiet has an unserved ask
abbrev pub asked : LineDef → Bool → List Entry → Cell → Cell
asked def edge past c =
    if is_edge_line def then (if edge then after_edge c else c) else after_high (is_high def past) c

abbrev pub served : LineDef → ℕ → List Entry → Cell → Cell
served def count past c =
    if is_level_line def && nat_lt 0 count then after_high (is_high def past) c else c

-- the level is set by whether some device that isn't quiet has an unserved ask
abbrev pub levelled : LineDef → List Entry → Cell → Cell
levelled def past c = if is_level_line def then after_high (is_high def past) c else c

-- what the step of a call does, whoever makes it
abbrev pub called_on : LineDef → CallEntry → List Entry → Cell → Cell
called_on def called.Disable past c = masked_if def.unlazy c
called_on def (called.Unlink answer dev) past c =
    masked_if (unlinks_last (called.Unlink answer dev)) c
called_on def (called.Enable answer) past c =
    retriggered_if (is_chip_opened (opened_by_enable answer))
    (unmasked_if (is_started_opened (opened_by_enable answer)) c)
called_on def (called.Arm edge dev) past c = asked def edge past c
called_on def (called.Quiet dev) past c = levelled def past c
called_on def (called.Serve dev count) past c = levelled def past c
called_on def _ past c = c

-- what the entry does after `past`
abbrev pub driven : LineDef → Entry → List Entry → Cell → Cell
driven def (by.Driver driver (drivers.Ask edge dev)) past c =
    asked def edge (by.Driver driver (drivers.Ask edge dev) ∷ past) c
driven def (by.Cpu cpu (cpus.Return answer dev count)) past c =
    served def count (by.Cpu cpu (cpus.Return answer dev count) ∷ past) c
driven def (by.Thread dev (threads.Return handled count)) past c =
    served def count (by.Thread dev (threads.Return handled count) ∷ past) c
driven def (by.Cpu cpu (cpus.Take way answer)) past c =
    taken def def.flow (is_oneshot past) answer (accepted way c)
driven def (by.Cpu cpu (cpus.End again unmask note)) past c = ended def def.flow again unmask
    (masked_if (def.unlazy && is_kill (by.Cpu cpu (cpus.End again unmask note))) c)
driven def (by.Thread dev (threads.Finish kept unmask)) past c = unmasked_if unmask c
driven def (by.Driver driver (drivers.Request flags answer opened dev)) past c =
    retriggered_if (is_chip_start (by.Driver driver (drivers.Request flags answer opened dev)))
    (unmasked_if (is_start (by.Driver driver (drivers.Request flags answer opened dev))) c)
driven def (by.CpuCall cpu call) past c = called_on def call (by.CpuCall cpu call ∷ past) c
driven def (by.ThreadCall dev call) past c =
    called_on def call (by.ThreadCall dev call ∷ past) c
driven def (by.DriverCall driver call) past c =
    called_on def call (by.DriverCall driver call ∷ past) c
driven def _ past c = c

-- the cell after all entries
abbrev pub cell_after : LineDef → List Entry → Cell
cell_after def [] = fresh_cell def.trigger def.keeps def.recalls def.retriggers (serves def)
cell_after def (e ∷ past) = driven def e past (cell_after def past)

-- the cell's marks are as they are read off the entries, and the cell presents an interrupt exactly
-- if the line signals one
pub record IsDrivenCell (def : LineDef) (h : List Entry) : Type 0 where
  pub keeps : cell_after def (reverse h) ≡ cell_of def (reverse h)
  pub presents : presents (cell_after def (reverse h)) ≡ signals def (reverse h)
