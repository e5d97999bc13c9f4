-- Worked histories of edge lines.
use Rattle.std.specs.Prelude.{◌≡◌, List, [], ◌∷◌, refl, true, false, Some, None, reverse}
use Rattle.irq_base.specs.declared.calls.Call.TheVariants as calls
use Rattle.irq_base.specs.declared.devices.Kind.TheVariants as kinds
use Rattle.irq_base.specs.declared.devices.Answer.TheVariants as answers
use Rattle.irq_base.specs.declared.lines.LineDef.{LineDef}
use Rattle.irq_base.specs.declared.entries.Actor.TheVariants as actors
use Rattle.irq_base.specs.declared.entries.Entry.{Entry}
use Rattle.irq_base.specs.declared.entries.Entry.TheVariants as by
use Rattle.irq_base.specs.declared.entries.CpuEntry.TheVariants as cpus
use Rattle.irq_base.specs.declared.entries.DriverEntry.TheVariants as drivers
use Rattle.irq_base.specs.declared.entries.CallEntry.TheVariants as called
use Rattle.irq_base.specs.declared.entries.Way.TheVariants as ways
use Rattle.irq_base.specs.declared.entries.TakeAnswer.TheVariants as takes
use Rattle.irq_base.specs.declared.entries.Note.TheVariants as notes
use Rattle.irq_base.specs.declared.entries.Resend.TheVariants as resends
use Rattle.irq_base.specs.declared.entries.EnableAnswer.TheVariants as enables
use Rattle.irq_base.specs.declared.entries.Opened.TheVariants as opens
use Rattle.irq_base.specs.declared.entries.LinkAnswer.TheVariants as links
use Rattle.irq_base.specs.declared.entries.AffinityAnswer.TheVariants as moves
use Rattle.irq_model.specs.Legal.{IsLegal}
use Rattle.irq_model.specs.Next.{next}
use Rattle.irq_model.specs.Signal.{target}
use Rattle.irq_model.proofs.RowWords.{cpu, dev, driver, device, no_flags, latch, plain, lpi, msi}

-- Two asks before the take share one run.
abbrev pub coalescing_line : LineDef
coalescing_line = record latch {
  devices = device 1 kinds.Direct ∷ [];
  calls =
      (driver 1, calls.Request (dev 1) no_flags) ∷
      (driver 1, calls.Ask (dev 1)) ∷
      (driver 1, calls.Ask (dev 1)) ∷ [];
}

abbrev pub coalescing_log : List Entry
coalescing_log =
    by.Driver (driver 1) (drivers.Request no_flags links.Linked (opens.Started resends.No) (dev 1)) ∷
    by.Driver (driver 1) (drivers.Ask true (dev 1)) ∷
    by.Driver (driver 1) (drivers.Ask true (dev 1)) ∷
    by.Cpu (cpu 0) (cpus.Take ways.Line takes.Handle) ∷
    by.Cpu (cpu 0) (cpus.Begin (dev 1)) ∷
    by.Cpu (cpu 0) (cpus.Return answers.Handled (dev 1) 2) ∷
    by.Cpu (cpu 0) (cpus.End false false notes.Quiet) ∷ []

pub coalescing_is_legal : IsLegal coalescing_line coalescing_log
coalescing_is_legal = (refl, (refl, (refl, (refl, (refl, (refl, (refl, tt)))))))

-- no actor of the line has a due entry
pub coalescing_is_still :
    (next coalescing_line coalescing_log (actors.Cpu (cpu 0)) ≡ None)
    × (next coalescing_line coalescing_log (actors.Driver (driver 1)) ≡ None)
coalescing_is_still = (refl, refl)

-- An edge that comes during the handler is taken busy by another processor, and handled in a second
-- round.
abbrev pub busy_latch_line : LineDef
busy_latch_line = record latch {
  cpus = 2;
  mask = 3;
  devices = device 1 kinds.Direct ∷ [];
  calls =
      (driver 1, calls.Request (dev 1) no_flags) ∷
      (driver 1, calls.Ask (dev 1)) ∷
      (driver 1, calls.Affinity 2) ∷
      (driver 1, calls.Ask (dev 1)) ∷ [];
}

abbrev pub busy_latch_log : List Entry
busy_latch_log =
    by.Driver (driver 1) (drivers.Request no_flags links.Linked (opens.Started resends.No) (dev 1)) ∷
    by.Driver (driver 1) (drivers.Ask true (dev 1)) ∷
    by.Cpu (cpu 0) (cpus.Take ways.Line takes.Handle) ∷
    by.Cpu (cpu 0) (cpus.Begin (dev 1)) ∷
    by.Driver (driver 1) (drivers.Affinity moves.Now 2) ∷
    by.Driver (driver 1) (drivers.Ask true (dev 1)) ∷
    by.Cpu (cpu 1) (cpus.Take ways.Line takes.Busy) ∷
    by.Cpu (cpu 0) (cpus.Return answers.Handled (dev 1) 1) ∷
    by.Cpu (cpu 0) (cpus.End true true notes.Quiet) ∷
    by.Cpu (cpu 0) (cpus.Begin (dev 1)) ∷
    by.Cpu (cpu 0) (cpus.Return answers.Handled (dev 1) 1) ∷
    by.Cpu (cpu 0) (cpus.End false false notes.Quiet) ∷ []

pub busy_latch_is_legal : IsLegal busy_latch_line busy_latch_log
busy_latch_is_legal = (refl, (refl, (refl, (refl, (refl, (refl, (refl, (refl, (refl, (refl, (refl, (refl, tt))))))))))))

-- no actor of the line has a due entry
pub busy_latch_is_still :
    (next busy_latch_line busy_latch_log (actors.Cpu (cpu 0)) ≡ None)
    × (next busy_latch_line busy_latch_log (actors.Cpu (cpu 1)) ≡ None)
    × (next busy_latch_line busy_latch_log (actors.Driver (driver 1)) ≡ None)
busy_latch_is_still = (refl, refl, refl)

-- The same on a chip that drops edges while it is masked: the third ask is dropped, and covered by
-- what is pending.
abbrev pub busy_plain_line : LineDef
busy_plain_line = record plain {
  cpus = 2;
  mask = 3;
  devices = device 1 kinds.Direct ∷ [];
  calls =
      (driver 1, calls.Request (dev 1) no_flags) ∷
      (driver 1, calls.Ask (dev 1)) ∷
      (driver 1, calls.Affinity 2) ∷
      (driver 1, calls.Ask (dev 1)) ∷
      (driver 1, calls.Ask (dev 1)) ∷ [];
}

abbrev pub busy_plain_log : List Entry
busy_plain_log =
    by.Driver (driver 1) (drivers.Request no_flags links.Linked (opens.Started resends.No) (dev 1)) ∷
    by.Driver (driver 1) (drivers.Ask true (dev 1)) ∷
    by.Cpu (cpu 0) (cpus.Take ways.Line takes.Handle) ∷
    by.Cpu (cpu 0) (cpus.Begin (dev 1)) ∷
    by.Driver (driver 1) (drivers.Affinity moves.Now 2) ∷
    by.Driver (driver 1) (drivers.Ask true (dev 1)) ∷
    by.Cpu (cpu 1) (cpus.Take ways.Line takes.Busy) ∷
    by.Driver (driver 1) (drivers.Ask true (dev 1)) ∷
    by.Cpu (cpu 0) (cpus.Return answers.Handled (dev 1) 1) ∷
    by.Cpu (cpu 0) (cpus.End true true notes.Quiet) ∷
    by.Cpu (cpu 0) (cpus.Begin (dev 1)) ∷
    by.Cpu (cpu 0) (cpus.Return answers.Handled (dev 1) 2) ∷
    by.Cpu (cpu 0) (cpus.End false false notes.Quiet) ∷ []

pub busy_plain_is_legal : IsLegal busy_plain_line busy_plain_log
busy_plain_is_legal = (refl, (refl, (refl, (refl, (refl, (refl, (refl, (refl, (refl, (refl, (refl, (refl, (refl, tt)))))))))))))

-- no actor of the line has a due entry
pub busy_plain_is_still :
    (next busy_plain_line busy_plain_log (actors.Cpu (cpu 0)) ≡ None)
    × (next busy_plain_line busy_plain_log (actors.Cpu (cpu 1)) ≡ None)
    × (next busy_plain_line busy_plain_log (actors.Driver (driver 1)) ≡ None)
busy_plain_is_still = (refl, refl, refl)

-- On the fast-EOI flow the end sends the edge again, and the other processor takes it.
abbrev pub busy_lpi_line : LineDef
busy_lpi_line = record lpi {
  cpus = 2;
  mask = 3;
  devices = device 1 kinds.Direct ∷ [];
  calls =
      (driver 1, calls.Request (dev 1) no_flags) ∷
      (driver 1, calls.Ask (dev 1)) ∷
      (driver 1, calls.Affinity 2) ∷
      (driver 1, calls.Ask (dev 1)) ∷ [];
}

abbrev pub busy_lpi_log : List Entry
busy_lpi_log =
    by.Driver (driver 1) (drivers.Request no_flags links.Linked (opens.Started resends.No) (dev 1)) ∷
    by.Driver (driver 1) (drivers.Ask true (dev 1)) ∷
    by.Cpu (cpu 0) (cpus.Take ways.Line takes.Handle) ∷
    by.Cpu (cpu 0) (cpus.Begin (dev 1)) ∷
    by.Driver (driver 1) (drivers.Affinity moves.Now 2) ∷
    by.Driver (driver 1) (drivers.Ask true (dev 1)) ∷
    by.Cpu (cpu 1) (cpus.Take ways.Line takes.Busy) ∷
    by.Cpu (cpu 0) (cpus.Return answers.Handled (dev 1) 1) ∷
    by.Cpu (cpu 0) (cpus.End true false notes.Quiet) ∷
    by.Cpu (cpu 1) (cpus.Take ways.Line takes.Handle) ∷
    by.Cpu (cpu 1) (cpus.Begin (dev 1)) ∷
    by.Cpu (cpu 1) (cpus.Return answers.Handled (dev 1) 1) ∷
    by.Cpu (cpu 1) (cpus.End false false notes.Quiet) ∷ []

pub busy_lpi_is_legal : IsLegal busy_lpi_line busy_lpi_log
busy_lpi_is_legal = (refl, (refl, (refl, (refl, (refl, (refl, (refl, (refl, (refl, (refl, (refl, (refl, (refl, tt)))))))))))))

-- no actor of the line has a due entry
pub busy_lpi_is_still :
    (next busy_lpi_line busy_lpi_log (actors.Cpu (cpu 0)) ≡ None)
    × (next busy_lpi_line busy_lpi_log (actors.Cpu (cpu 1)) ≡ None)
    × (next busy_lpi_line busy_lpi_log (actors.Driver (driver 1)) ≡ None)
busy_lpi_is_still = (refl, refl, refl)

-- A message line over a vector: the first edge stays sent while the line is disabled, the second is
-- stored.
abbrev pub msi_line : LineDef
msi_line = record msi {
  devices = device 1 kinds.Direct ∷ [];
  calls =
      (driver 1, calls.Request (dev 1) no_flags) ∷
      (driver 1, calls.Ask (dev 1)) ∷
      (driver 1, calls.DisableNosync) ∷
      (driver 1, calls.Ask (dev 1)) ∷
      (driver 1, calls.Enable) ∷ [];
}

abbrev pub msi_log : List Entry
msi_log =
    by.Driver (driver 1) (drivers.Request no_flags links.Linked (opens.Started resends.No) (dev 1)) ∷
    by.Driver (driver 1) (drivers.Ask true (dev 1)) ∷
    by.DriverCall (driver 1) called.Disable ∷
    by.Driver (driver 1) (drivers.Ask true (dev 1)) ∷
    by.Cpu (cpu 0) (cpus.Take ways.Line takes.Off) ∷
    by.DriverCall (driver 1) (called.Enable (enables.Started resends.Chip)) ∷
    by.Cpu (cpu 0) (cpus.Take ways.Line takes.Handle) ∷
    by.Cpu (cpu 0) (cpus.Begin (dev 1)) ∷
    by.Cpu (cpu 0) (cpus.Return answers.Handled (dev 1) 2) ∷
    by.Cpu (cpu 0) (cpus.End false false notes.Quiet) ∷ []

pub msi_is_legal : IsLegal msi_line msi_log
msi_is_legal = (refl, (refl, (refl, (refl, (refl, (refl, (refl, (refl, (refl, (refl, tt))))))))))

-- no actor of the line has a due entry
pub msi_is_still :
    (next msi_line msi_log (actors.Cpu (cpu 0)) ≡ None)
    × (next msi_line msi_log (actors.Driver (driver 1)) ≡ None)
msi_is_still = (refl, refl)

-- An affinity that takes effect later: the old target takes once more, and by that take the line
-- moves.
abbrev pub later_line : LineDef
later_line = record latch {
  later = true;
  cpus = 2;
  devices = device 1 kinds.Direct ∷ [];
  calls =
      (driver 1, calls.Request (dev 1) no_flags) ∷
      (driver 1, calls.Affinity 2) ∷
      (driver 1, calls.Ask (dev 1)) ∷
      (driver 1, calls.Ask (dev 1)) ∷ [];
}

abbrev pub asked_later_log : List Entry
asked_later_log =
    by.Driver (driver 1) (drivers.Request no_flags links.Linked (opens.Started resends.No) (dev 1)) ∷
    by.Driver (driver 1) (drivers.Affinity moves.Later 2) ∷
    by.Driver (driver 1) (drivers.Ask true (dev 1)) ∷ []

-- the old target is still the one that takes
pub old_target_takes :
    (target later_line (reverse asked_later_log) ≡ Some (cpu 0))
    × (next later_line asked_later_log (actors.Cpu (cpu 0)) ≡ Some (by.Cpu (cpu 0) (cpus.Take ways.Line takes.Handle)))
    × (next later_line asked_later_log (actors.Cpu (cpu 1)) ≡ None)
old_target_takes = (refl, refl, refl)

abbrev pub later_log : List Entry
later_log =
    by.Driver (driver 1) (drivers.Request no_flags links.Linked (opens.Started resends.No) (dev 1)) ∷
    by.Driver (driver 1) (drivers.Affinity moves.Later 2) ∷
    by.Driver (driver 1) (drivers.Ask true (dev 1)) ∷
    by.Cpu (cpu 0) (cpus.Take ways.Line takes.Handle) ∷
    by.Cpu (cpu 0) (cpus.Begin (dev 1)) ∷
    by.Cpu (cpu 0) (cpus.Return answers.Handled (dev 1) 1) ∷
    by.Cpu (cpu 0) (cpus.End false false notes.Quiet) ∷
    by.Driver (driver 1) (drivers.Ask true (dev 1)) ∷
    by.Cpu (cpu 1) (cpus.Take ways.Line takes.Handle) ∷
    by.Cpu (cpu 1) (cpus.Begin (dev 1)) ∷
    by.Cpu (cpu 1) (cpus.Return answers.Handled (dev 1) 1) ∷
    by.Cpu (cpu 1) (cpus.End false false notes.Quiet) ∷ []

pub later_is_legal : IsLegal later_line later_log
later_is_legal = (refl, (refl, (refl, (refl, (refl, (refl, (refl, (refl, (refl, (refl, (refl, (refl, tt))))))))))))

-- no actor of the line has a due entry
pub later_is_still :
    (next later_line later_log (actors.Cpu (cpu 0)) ≡ None)
    × (next later_line later_log (actors.Cpu (cpu 1)) ≡ None)
    × (next later_line later_log (actors.Driver (driver 1)) ≡ None)
later_is_still = (refl, refl, refl)
