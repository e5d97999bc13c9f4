-- Boards that sleep, each with the rows of its play, worked out by hand.
use Rattle.std.specs.Prelude.{true, false, Some, None, List, [], ◌∷◌}
use Rattle.irq_base.specs.declared.calls.Call.TheVariants as calls
use Rattle.irq_base.specs.declared.devices.Answer.TheVariants as answers
use Rattle.irq_base.specs.declared.devices.Kind.TheVariants as kinds
use Rattle.irq_base.specs.declared.domains.ControllerKind.TheVariants as levels
use Rattle.irq_base.specs.declared.entries.Actor.TheVariants as actors
use Rattle.irq_base.specs.declared.entries.EnableAnswer.TheVariants as enables
use Rattle.irq_base.specs.declared.entries.Entry.TheVariants as by
use Rattle.irq_base.specs.declared.entries.CpuEntry.TheVariants as cpus
use Rattle.irq_base.specs.declared.entries.DriverEntry.TheVariants as drivers
use Rattle.irq_base.specs.declared.entries.CallEntry.TheVariants as called
use Rattle.irq_base.specs.declared.entries.LinkAnswer.TheVariants as links
use Rattle.irq_base.specs.declared.entries.Note.TheVariants as notes
use Rattle.irq_base.specs.declared.entries.Opened.TheVariants as opens
use Rattle.irq_base.specs.declared.entries.Resend.TheVariants as resends
use Rattle.irq_base.specs.declared.entries.TakeAnswer.TheVariants as takes
use Rattle.irq_base.specs.declared.entries.Way.TheVariants as ways
use Rattle.board_def.specs.Seen.{BoardSeen}
use Rattle.board_tests.specs.Short.{line, cpu, dev, driver, no_flags, domain, row}
use Rattle.board_tests.specs.Short.{device, call}
use Rattle.irq_pm.specs.declared.entries.SleepEntry.{SleepEntry}
use Rattle.irq_pm.specs.declared.entries.SleepEntry.TheVariants as sleeps

-- an interrupt of the armed line wakes the machine
abbrev pub armed : BoardSeen
armed = record {
  version = 1;
  cpus = 1;
  window = 100000;
  limit = 99900;
  log = 10000;
  domains = domain 4 levels.Latch ∷ [];
  lines = row 1 2 ∷ [];
  devices = device 1 1 kinds.Direct ∷ [];
  told = [];
  runs = [];
  drivers = driver 1 ∷ [];
  calls = call 1 1 (calls.Request (dev 1) no_flags) ∷
      call 1 1 (calls.Ask (dev 1)) ∷
      [];
  picks = actors.Driver (driver 1) ∷ [];
}

abbrev pub armed_rows : List SleepEntry
armed_rows =
    sleeps.Step (line 1) (by.Driver (driver 1)
    (drivers.Request no_flags links.Linked (opens.Started resends.No) (dev 1)))
    ∷ sleeps.Step (line 1) (by.DriverCall (driver 65535) called.Disable)
    ∷ sleeps.Step (line 1) (by.DriverCall (driver 65535) called.HardClear)
    ∷ sleeps.Step (line 1) (by.DriverCall (driver 65535) called.Synced)
    ∷ sleeps.Asleep
    ∷ sleeps.Step (line 1) (by.Driver (driver 1) (drivers.Ask true (dev 1)))
    ∷ sleeps.Step (line 1) (by.Cpu (cpu 0) (cpus.Take ways.Line takes.Off))
    ∷ sleeps.Wake (Some (line 1))
    ∷ sleeps.Step (line 1) (by.DriverCall (driver 65535)
    (called.Enable (enables.Started resends.Chip)))
    ∷ sleeps.Step (line 1) (by.Cpu (cpu 0) (cpus.Take ways.Line takes.Handle))
    ∷ sleeps.Step (line 1) (by.Cpu (cpu 0) (cpus.Begin (dev 1)))
    ∷ sleeps.Step (line 1) (by.Cpu (cpu 0) (cpus.Return answers.Handled (dev 1) 1))
    ∷ sleeps.Step (line 1) (by.Cpu (cpu 0) (cpus.End false false notes.Quiet))
    ∷ []

-- an interrupt of a line that is not armed does not
abbrev pub unarmed : BoardSeen
unarmed = record {
  version = 1;
  cpus = 1;
  window = 100000;
  limit = 99900;
  log = 10000;
  domains = domain 4 levels.Latch ∷ [];
  lines = row 1 2 ∷ [];
  devices = device 1 1 kinds.Direct ∷ [];
  told = [];
  runs = [];
  drivers = driver 1 ∷ [];
  calls = call 1 1 (calls.Request (dev 1) no_flags) ∷
      call 1 1 (calls.Ask (dev 1)) ∷
      [];
  picks = actors.Driver (driver 1) ∷ [];
}

abbrev pub unarmed_rows : List SleepEntry
unarmed_rows =
    sleeps.Step (line 1) (by.Driver (driver 1)
    (drivers.Request no_flags links.Linked (opens.Started resends.No) (dev 1)))
    ∷ sleeps.Step (line 1) (by.DriverCall (driver 65535) called.Disable)
    ∷ sleeps.Step (line 1) (by.DriverCall (driver 65535) called.HardClear)
    ∷ sleeps.Step (line 1) (by.DriverCall (driver 65535) called.Synced)
    ∷ sleeps.Asleep
    ∷ sleeps.Step (line 1) (by.Driver (driver 1) (drivers.Ask true (dev 1)))
    ∷ sleeps.Step (line 1) (by.Cpu (cpu 0) (cpus.Take ways.Line takes.Off))
    ∷ sleeps.Wake None
    ∷ sleeps.Step (line 1) (by.DriverCall (driver 65535)
    (called.Enable (enables.Started resends.Chip)))
    ∷ sleeps.Step (line 1) (by.Cpu (cpu 0) (cpus.Take ways.Line takes.Handle))
    ∷ sleeps.Step (line 1) (by.Cpu (cpu 0) (cpus.Begin (dev 1)))
    ∷ sleeps.Step (line 1) (by.Cpu (cpu 0) (cpus.Return answers.Handled (dev 1) 1))
    ∷ sleeps.Step (line 1) (by.Cpu (cpu 0) (cpus.End false false notes.Quiet))
    ∷ []
