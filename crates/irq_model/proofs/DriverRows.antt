-- Worked histories of what drivers call.
use Rattle.std.specs.Prelude.{◌≡◌, List, [], ◌∷◌, refl, true, false, None, reverse, take}
use Rattle.irq_base.specs.declared.calls.Call.TheVariants as calls
use Rattle.irq_base.specs.declared.devices.Kind.TheVariants as kinds
use Rattle.irq_base.specs.declared.devices.Answer.TheVariants as answers
use Rattle.irq_base.specs.declared.lines.LineDef.{LineDef}
use Rattle.irq_base.specs.declared.entries.Actor.TheVariants as actors
use Rattle.irq_base.specs.declared.entries.Entry.{Entry}
use Rattle.irq_base.specs.declared.entries.Entry.TheVariants as by
use Rattle.irq_base.specs.declared.entries.CpuEntry.TheVariants as cpus
use Rattle.irq_base.specs.declared.entries.ThreadEntry.TheVariants as threads
use Rattle.irq_base.specs.declared.entries.DriverEntry.TheVariants as drivers
use Rattle.irq_base.specs.declared.entries.CallEntry.TheVariants as called
use Rattle.irq_base.specs.declared.entries.Errno.TheVariants as errors
use Rattle.irq_base.specs.declared.entries.Way.TheVariants as ways
use Rattle.irq_base.specs.declared.entries.TakeAnswer.TheVariants as takes
use Rattle.irq_base.specs.declared.entries.Note.TheVariants as notes
use Rattle.irq_base.specs.declared.entries.Resend.TheVariants as resends
use Rattle.irq_base.specs.declared.entries.EnableAnswer.TheVariants as enables
use Rattle.irq_base.specs.declared.entries.Opened.TheVariants as opens
use Rattle.irq_base.specs.declared.entries.LinkAnswer.TheVariants as links
use Rattle.irq_base.specs.declared.entries.UnlinkAnswer.TheVariants as unlinks
use Rattle.irq_model.specs.Legal.{IsLegal}
use Rattle.irq_model.specs.Bounds.{bound}
use Rattle.irq_model.specs.Next.{next}
use Rattle.irq_model.specs.Up.{is_up}
use Rattle.irq_model.proofs.RowWords.{line, cpu, dev, driver, device, no_flags, shared, oneshot, shared_oneshot, shared_noauto, latch, plain}

-- A request, an ask and a free.
abbrev pub first_line : LineDef
first_line = record latch {
  devices = device 1 kinds.Direct ∷ [];
  calls =
      (driver 1, calls.Request (dev 1) no_flags) ∷
      (driver 1, calls.Ask (dev 1)) ∷
      (driver 1, calls.Free (dev 1)) ∷ [];
}

abbrev pub first_log : List Entry
first_log =
    by.Driver (driver 1) (drivers.Request no_flags links.Linked (opens.Started resends.No) (dev 1)) ∷
    by.Driver (driver 1) (drivers.Ask true (dev 1)) ∷
    by.Cpu (cpu 0) (cpus.Take ways.Line takes.Handle) ∷
    by.Cpu (cpu 0) (cpus.Begin (dev 1)) ∷
    by.Cpu (cpu 0) (cpus.Return answers.Handled (dev 1) 1) ∷
    by.Cpu (cpu 0) (cpus.End false false notes.Quiet) ∷
    by.DriverCall (driver 1) (called.Unlink (unlinks.Unlinked true) (dev 1)) ∷
    by.DriverCall (driver 1) called.HardClear ∷
    by.DriverCall (driver 1) (called.Freed (dev 1)) ∷ []

pub first_is_legal : IsLegal first_line first_log
first_is_legal = (refl, (refl, (refl, (refl, (refl, (refl, (refl, (refl, (refl, tt)))))))))

-- no actor of the line has a due entry
pub first_is_still :
    (next first_line first_log (actors.Cpu (cpu 0)) ≡ None)
    × (next first_line first_log (actors.Driver (driver 1)) ≡ None)
first_is_still = (refl, refl)

-- one device, one ask and two other calls
pub first_bound : bound first_line ≡ 56
first_bound = refl

-- Nested disables, and the resend of what came meanwhile, by the chip.
abbrev pub nested_latch_line : LineDef
nested_latch_line = record latch {
  devices = device 1 kinds.Direct ∷ [];
  calls =
      (driver 1, calls.Request (dev 1) no_flags) ∷
      (driver 1, calls.DisableNosync) ∷
      (driver 1, calls.DisableNosync) ∷
      (driver 1, calls.Enable) ∷
      (driver 1, calls.Ask (dev 1)) ∷
      (driver 1, calls.Enable) ∷
      (driver 1, calls.Enable) ∷ [];
}

abbrev pub nested_latch_log : List Entry
nested_latch_log =
    by.Driver (driver 1) (drivers.Request no_flags links.Linked (opens.Started resends.No) (dev 1)) ∷
    by.DriverCall (driver 1) called.Disable ∷
    by.DriverCall (driver 1) called.Disable ∷
    by.DriverCall (driver 1) (called.Enable enables.Lowered) ∷
    by.Driver (driver 1) (drivers.Ask true (dev 1)) ∷
    by.Cpu (cpu 0) (cpus.Take ways.Line takes.Off) ∷
    by.DriverCall (driver 1) (called.Enable (enables.Started resends.Chip)) ∷
    by.Cpu (cpu 0) (cpus.Take ways.Line takes.Handle) ∷
    by.Cpu (cpu 0) (cpus.Begin (dev 1)) ∷
    by.Cpu (cpu 0) (cpus.Return answers.Handled (dev 1) 1) ∷
    by.Cpu (cpu 0) (cpus.End false false notes.Quiet) ∷
    by.DriverCall (driver 1) (called.Enable enables.Unbalanced) ∷ []

pub nested_latch_is_legal : IsLegal nested_latch_line nested_latch_log
nested_latch_is_legal = (refl, (refl, (refl, (refl, (refl, (refl, (refl, (refl, (refl, (refl, (refl, (refl, tt))))))))))))

-- no actor of the line has a due entry
pub nested_latch_is_still :
    (next nested_latch_line nested_latch_log (actors.Cpu (cpu 0)) ≡ None)
    × (next nested_latch_line nested_latch_log (actors.Driver (driver 1)) ≡ None)
nested_latch_is_still = (refl, refl)

-- The same on a chip that can't send again: the software does.
abbrev pub nested_plain_line : LineDef
nested_plain_line = record plain {
  devices = device 1 kinds.Direct ∷ [];
  calls =
      (driver 1, calls.Request (dev 1) no_flags) ∷
      (driver 1, calls.DisableNosync) ∷
      (driver 1, calls.DisableNosync) ∷
      (driver 1, calls.Enable) ∷
      (driver 1, calls.Ask (dev 1)) ∷
      (driver 1, calls.Enable) ∷
      (driver 1, calls.Enable) ∷ [];
}

abbrev pub nested_plain_log : List Entry
nested_plain_log =
    by.Driver (driver 1) (drivers.Request no_flags links.Linked (opens.Started resends.No) (dev 1)) ∷
    by.DriverCall (driver 1) called.Disable ∷
    by.DriverCall (driver 1) called.Disable ∷
    by.DriverCall (driver 1) (called.Enable enables.Lowered) ∷
    by.Driver (driver 1) (drivers.Ask true (dev 1)) ∷
    by.Cpu (cpu 0) (cpus.Take ways.Line takes.Off) ∷
    by.DriverCall (driver 1) (called.Enable (enables.Started resends.Soft)) ∷
    by.Cpu (cpu 0) (cpus.Take ways.Resend takes.Handle) ∷
    by.Cpu (cpu 0) (cpus.Begin (dev 1)) ∷
    by.Cpu (cpu 0) (cpus.Return answers.Handled (dev 1) 1) ∷
    by.Cpu (cpu 0) (cpus.End false false notes.Quiet) ∷
    by.DriverCall (driver 1) (called.Enable enables.Unbalanced) ∷ []

pub nested_plain_is_legal : IsLegal nested_plain_line nested_plain_log
nested_plain_is_legal = (refl, (refl, (refl, (refl, (refl, (refl, (refl, (refl, (refl, (refl, (refl, (refl, tt))))))))))))

-- no actor of the line has a due entry
pub nested_plain_is_still :
    (next nested_plain_line nested_plain_log (actors.Cpu (cpu 0)) ≡ None)
    × (next nested_plain_line nested_plain_log (actors.Driver (driver 1)) ≡ None)
nested_plain_is_still = (refl, refl)

-- A free while the handler is at work waits for it, and for the thread that it woke.
abbrev pub free_running_line : LineDef
free_running_line = record latch {
  devices = device 1 kinds.Check ∷ [];
  calls =
      (driver 1, calls.Request (dev 1) no_flags) ∷
      (driver 1, calls.Ask (dev 1)) ∷
      (driver 1, calls.Free (dev 1)) ∷
      (driver 1, calls.Free (dev 1)) ∷ [];
}

abbrev pub free_running_log : List Entry
free_running_log =
    by.Driver (driver 1) (drivers.Request no_flags links.Linked (opens.Started resends.No) (dev 1)) ∷
    by.Driver (driver 1) (drivers.Ask true (dev 1)) ∷
    by.Cpu (cpu 0) (cpus.Take ways.Line takes.Handle) ∷
    by.Cpu (cpu 0) (cpus.Begin (dev 1)) ∷
    by.DriverCall (driver 1) (called.Unlink (unlinks.Unlinked true) (dev 1)) ∷
    by.Cpu (cpu 0) (cpus.Return answers.Wake (dev 1) 0) ∷
    by.Cpu (cpu 0) (cpus.End false false notes.Quiet) ∷
    by.DriverCall (driver 1) called.HardClear ∷
    by.Thread (dev 1) threads.Begin ∷
    by.Thread (dev 1) (threads.Return true 1) ∷
    by.Thread (dev 1) threads.Done ∷
    by.DriverCall (driver 1) (called.Freed (dev 1)) ∷
    by.DriverCall (driver 1) (called.Unlink unlinks.NotThere (dev 1)) ∷ []

pub free_running_is_legal : IsLegal free_running_line free_running_log
free_running_is_legal = (refl, (refl, (refl, (refl, (refl, (refl, (refl, (refl, (refl, (refl, (refl, (refl, (refl, tt)))))))))))))

-- no actor of the line has a due entry
pub free_running_is_still :
    (next free_running_line free_running_log (actors.Cpu (cpu 0)) ≡ None)
    × (next free_running_line free_running_log (actors.Driver (driver 1)) ≡ None)
    × (next free_running_line free_running_log (actors.Thread (dev 1)) ≡ None)
free_running_is_still = (refl, refl, refl)

-- the line's domains stay activated at the last unlink, until the free is complete
pub up_at_the_unlink : is_up (reverse (take 5 free_running_log)) ≡ true
up_at_the_unlink = refl

pub up_until_freed : is_up (reverse (take 11 free_running_log)) ≡ true
up_until_freed = refl

pub down_when_freed : is_up (reverse (take 12 free_running_log)) ≡ false
down_when_freed = refl

-- Requests that are refused, each for a reason of its own.
abbrev pub refused_line : LineDef
refused_line = record latch {
  devices = device 1 kinds.Direct ∷ device 2 kinds.Null ∷ device 3 kinds.Direct ∷ device 4 kinds.Direct ∷ device 5 kinds.Direct ∷ [];
  calls =
      (driver 1, calls.Request (dev 1) shared_noauto) ∷
      (driver 1, calls.Request (dev 2) no_flags) ∷
      (driver 1, calls.Request (dev 3) shared_oneshot) ∷
      (driver 1, calls.Request (dev 4) shared) ∷
      (driver 1, calls.Request (dev 5) oneshot) ∷ [];
}

abbrev pub refused_log : List Entry
refused_log =
    by.Driver (driver 1) (drivers.Request shared_noauto (links.Refused errors.Inval) opens.No (dev 1)) ∷
    by.Driver (driver 1) (drivers.Request no_flags (links.Refused errors.Inval) opens.No (dev 2)) ∷
    by.Driver (driver 1) (drivers.Request shared_oneshot links.Linked (opens.Started resends.No) (dev 3)) ∷
    by.Driver (driver 1) (drivers.Request shared (links.Refused errors.Busy) opens.No (dev 4)) ∷
    by.Driver (driver 1) (drivers.Request oneshot (links.Refused errors.Busy) opens.No (dev 5)) ∷ []

pub refused_is_legal : IsLegal refused_line refused_log
refused_is_legal = (refl, (refl, (refl, (refl, (refl, tt)))))

-- no actor of the line has a due entry
pub refused_is_still :
    (next refused_line refused_log (actors.Cpu (cpu 0)) ≡ None)
    × (next refused_line refused_log (actors.Driver (driver 1)) ≡ None)
    × (next refused_line refused_log (actors.Thread (dev 2)) ≡ None)
refused_is_still = (refl, refl, refl)
