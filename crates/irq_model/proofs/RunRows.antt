-- More worked histories of version 3: for each definition one that a wrong reading of it doesn't have.
use Rattle.std.specs.Prelude.{◌≡◌, List, [], ◌∷◌, refl, true, false, None, Some, zero, suc, reverse}
use Rattle.irq_base.specs.declared.calls.Call.TheVariants as calls
use Rattle.irq_base.specs.declared.devices.Kind.TheVariants as kinds
use Rattle.irq_base.specs.declared.devices.Answer.TheVariants as answers
use Rattle.irq_base.specs.declared.devices.Part.TheVariants as parts
use Rattle.irq_base.specs.declared.devices.ToldAnswer.TheVariants as tolds
use Rattle.irq_base.specs.declared.lines.Trigger.TheVariants as triggers
use Rattle.irq_base.specs.declared.lines.FlowKind.TheVariants as flows
use Rattle.irq_base.specs.declared.entries.Actor.TheVariants as actors
use Rattle.irq_base.specs.declared.entries.Entry.TheVariants as by
use Rattle.irq_base.specs.declared.entries.CpuEntry.TheVariants as cpus
use Rattle.irq_base.specs.declared.entries.ThreadEntry.TheVariants as threads
use Rattle.irq_base.specs.declared.entries.DriverEntry.TheVariants as drivers
use Rattle.irq_base.specs.declared.entries.CallEntry.TheVariants as called
use Rattle.irq_base.specs.declared.entries.Way.TheVariants as ways
use Rattle.irq_base.specs.declared.entries.TakeAnswer.TheVariants as takes
use Rattle.irq_base.specs.declared.entries.Note.TheVariants as notes
use Rattle.irq_base.specs.declared.entries.Resend.TheVariants as resends
use Rattle.irq_base.specs.declared.entries.EnableAnswer.TheVariants as enables
use Rattle.irq_base.specs.declared.entries.Opened.TheVariants as opens
use Rattle.irq_base.specs.declared.entries.LinkAnswer.TheVariants as links
use Rattle.irq_base.specs.declared.entries.UnlinkAnswer.TheVariants as unlinks
use Rattle.irq_base.specs.declared.lines.LineDef.{LineDef}
use Rattle.irq_base.specs.declared.entries.Entry.{Entry}
use Rattle.irq_model.specs.Asks.{unserved_asks}
use Rattle.irq_model.specs.Legal.{IsLegal}
use Rattle.irq_model.specs.Next.{next}
use Rattle.irq_model.specs.Waits.{IsHungPast, is_unfinished_actor}
use Rattle.irq_model.specs.Links.{depth}
use Rattle.irq_model.proofs.RowWords.{line, cpu, dev, driver, device, no_flags, shared, shared_oneshot, latch, plain, level}

-- Two asks before the first is served: each makes an edge, and one run serves both.
abbrev pub two_asks_line : LineDef
two_asks_line = record latch {
  devices = device 1 kinds.Direct ∷ [];
  calls =
      (driver 1, calls.Request (dev 1) no_flags) ∷
      (driver 2, calls.Ask (dev 1)) ∷
      (driver 2, calls.Ask (dev 1)) ∷ [];
}

abbrev pub two_asks_log : List Entry
two_asks_log =
    by.Driver (driver 1) (drivers.Request no_flags links.Linked (opens.Started resends.No) (dev 1)) ∷
    by.Driver (driver 2) (drivers.Ask true (dev 1)) ∷
    by.Driver (driver 2) (drivers.Ask true (dev 1)) ∷
    by.Cpu (cpu 0) (cpus.Take ways.Line takes.Handle) ∷
    by.Cpu (cpu 0) (cpus.Begin (dev 1)) ∷
    by.Cpu (cpu 0) (cpus.Return answers.Handled (dev 1) 2) ∷
    by.Cpu (cpu 0) (cpus.End false false notes.Quiet) ∷ []

pub two_asks_is_legal : IsLegal two_asks_line two_asks_log
two_asks_is_legal = (refl, (refl, (refl, (refl, (refl, (refl, (refl, tt)))))))

-- no actor of the line has a due entry
pub two_asks_is_still :
    (next two_asks_line two_asks_log (actors.Cpu (cpu 0)) ≡ None)
    × (next two_asks_line two_asks_log (actors.Driver (driver 1)) ≡ None)
    × (next two_asks_line two_asks_log (actors.Driver (driver 2)) ≡ None)
two_asks_is_still = (refl, refl, refl)

-- A quiet device on a level line: its ask counts as one with an edge, and doesn't hold the level
-- high.
abbrev pub quiet_level_line : LineDef
quiet_level_line = record level {
  devices = record { dev = dev 1; line = line; kind = kinds.Direct; held = true; forgets = false } ∷ [];
  calls =
      (driver 1, calls.Request (dev 1) no_flags) ∷
      (driver 1, calls.Quiet (dev 1)) ∷
      (driver 1, calls.Ask (dev 1)) ∷
      (driver 1, calls.Ask (dev 1)) ∷ [];
}

abbrev pub quiet_level_log : List Entry
quiet_level_log =
    by.Driver (driver 1) (drivers.Request no_flags links.Linked (opens.Started resends.No) (dev 1)) ∷
    by.DriverCall (driver 1) (called.Quiet (dev 1)) ∷
    by.Driver (driver 1) (drivers.Ask true (dev 1)) ∷
    by.Driver (driver 1) (drivers.Ask true (dev 1)) ∷ []

pub quiet_level_is_legal : IsLegal quiet_level_line quiet_level_log
quiet_level_is_legal = (refl, (refl, (refl, (refl, tt))))

-- no actor of the line has a due entry
pub quiet_level_is_still :
    (next quiet_level_line quiet_level_log (actors.Cpu (cpu 0)) ≡ None)
    × (next quiet_level_line quiet_level_log (actors.Driver (driver 1)) ≡ None)
quiet_level_is_still = (refl, refl)

pub quiet_level_is_unserved : unserved_asks quiet_level_line (dev 1) (reverse quiet_level_log) ≡ 2
quiet_level_is_unserved = refl

-- The same, and then its interrupt is turned on: no edge is told, and the level is high.
abbrev pub armed_level_line : LineDef
armed_level_line = record level {
  devices = device 1 kinds.Direct ∷ [];
  calls =
      (driver 1, calls.Request (dev 1) no_flags) ∷
      (driver 1, calls.Quiet (dev 1)) ∷
      (driver 1, calls.Ask (dev 1)) ∷
      (driver 1, calls.Arm (dev 1)) ∷ [];
}

abbrev pub armed_level_log : List Entry
armed_level_log =
    by.Driver (driver 1) (drivers.Request no_flags links.Linked (opens.Started resends.No) (dev 1)) ∷
    by.DriverCall (driver 1) (called.Quiet (dev 1)) ∷
    by.Driver (driver 1) (drivers.Ask true (dev 1)) ∷
    by.DriverCall (driver 1) (called.Arm false (dev 1)) ∷
    by.Cpu (cpu 0) (cpus.Take ways.Line takes.Handle) ∷
    by.Cpu (cpu 0) (cpus.Begin (dev 1)) ∷
    by.Cpu (cpu 0) (cpus.Return answers.Handled (dev 1) 1) ∷
    by.Cpu (cpu 0) (cpus.End false true notes.Quiet) ∷ []

pub armed_level_is_legal : IsLegal armed_level_line armed_level_log
armed_level_is_legal = (refl, (refl, (refl, (refl, (refl, (refl, (refl, (refl, tt))))))))

-- no actor of the line has a due entry
pub armed_level_is_still :
    (next armed_level_line armed_level_log (actors.Cpu (cpu 0)) ≡ None)
    × (next armed_level_line armed_level_log (actors.Driver (driver 1)) ≡ None)
armed_level_is_still = (refl, refl)

-- An arm of a device that isn't quiet makes no edge, though an ask is unserved.
abbrev pub loud_line : LineDef
loud_line = record latch {
  devices = device 1 kinds.Direct ∷ [];
  calls =
      (driver 1, calls.Request (dev 1) no_flags) ∷
      (driver 1, calls.Ask (dev 1)) ∷
      (driver 1, calls.Arm (dev 1)) ∷ [];
}

abbrev pub loud_log : List Entry
loud_log =
    by.Driver (driver 1) (drivers.Request no_flags links.Linked (opens.Started resends.No) (dev 1)) ∷
    by.Driver (driver 1) (drivers.Ask true (dev 1)) ∷
    by.DriverCall (driver 1) (called.Arm false (dev 1)) ∷
    by.Cpu (cpu 0) (cpus.Take ways.Line takes.Handle) ∷
    by.Cpu (cpu 0) (cpus.Begin (dev 1)) ∷
    by.Cpu (cpu 0) (cpus.Return answers.Handled (dev 1) 1) ∷
    by.Cpu (cpu 0) (cpus.End false false notes.Quiet) ∷ []

pub loud_is_legal : IsLegal loud_line loud_log
loud_is_legal = (refl, (refl, (refl, (refl, (refl, (refl, (refl, tt)))))))

-- no actor of the line has a due entry
pub loud_is_still :
    (next loud_line loud_log (actors.Cpu (cpu 0)) ≡ None)
    × (next loud_line loud_log (actors.Driver (driver 1)) ≡ None)
loud_is_still = (refl, refl)

-- Turned off twice, and on once: the device isn't quiet.
abbrev pub quiet_twice_line : LineDef
quiet_twice_line = record latch {
  devices = device 1 kinds.Direct ∷ [];
  calls =
      (driver 1, calls.Request (dev 1) no_flags) ∷
      (driver 1, calls.Quiet (dev 1)) ∷
      (driver 1, calls.Quiet (dev 1)) ∷
      (driver 1, calls.Arm (dev 1)) ∷
      (driver 1, calls.Ask (dev 1)) ∷ [];
}

abbrev pub quiet_twice_log : List Entry
quiet_twice_log =
    by.Driver (driver 1) (drivers.Request no_flags links.Linked (opens.Started resends.No) (dev 1)) ∷
    by.DriverCall (driver 1) (called.Quiet (dev 1)) ∷
    by.DriverCall (driver 1) (called.Quiet (dev 1)) ∷
    by.DriverCall (driver 1) (called.Arm false (dev 1)) ∷
    by.Driver (driver 1) (drivers.Ask true (dev 1)) ∷
    by.Cpu (cpu 0) (cpus.Take ways.Line takes.Handle) ∷
    by.Cpu (cpu 0) (cpus.Begin (dev 1)) ∷
    by.Cpu (cpu 0) (cpus.Return answers.Handled (dev 1) 1) ∷
    by.Cpu (cpu 0) (cpus.End false false notes.Quiet) ∷ []

pub quiet_twice_is_legal : IsLegal quiet_twice_line quiet_twice_log
quiet_twice_is_legal = (refl, (refl, (refl, (refl, (refl, (refl, (refl, (refl, (refl, tt)))))))))

-- no actor of the line has a due entry
pub quiet_twice_is_still :
    (next quiet_twice_line quiet_twice_log (actors.Cpu (cpu 0)) ≡ None)
    × (next quiet_twice_line quiet_twice_log (actors.Driver (driver 1)) ≡ None)
quiet_twice_is_still = (refl, refl)

-- An ask during the handler's run is left to the next one.
abbrev pub late_ask_line : LineDef
late_ask_line = record latch {
  devices = device 1 kinds.Direct ∷ [];
  calls =
      (driver 1, calls.Request (dev 1) no_flags) ∷
      (driver 2, calls.Ask (dev 1)) ∷
      (driver 2, calls.Ask (dev 1)) ∷ [];
}

abbrev pub late_ask_log : List Entry
late_ask_log =
    by.Driver (driver 1) (drivers.Request no_flags links.Linked (opens.Started resends.No) (dev 1)) ∷
    by.Driver (driver 2) (drivers.Ask true (dev 1)) ∷
    by.Cpu (cpu 0) (cpus.Take ways.Line takes.Handle) ∷
    by.Cpu (cpu 0) (cpus.Begin (dev 1)) ∷
    by.Driver (driver 2) (drivers.Ask true (dev 1)) ∷
    by.Cpu (cpu 0) (cpus.Return answers.Handled (dev 1) 1) ∷
    by.Cpu (cpu 0) (cpus.End false false notes.Quiet) ∷
    by.Cpu (cpu 0) (cpus.Take ways.Line takes.Handle) ∷
    by.Cpu (cpu 0) (cpus.Begin (dev 1)) ∷
    by.Cpu (cpu 0) (cpus.Return answers.Handled (dev 1) 1) ∷
    by.Cpu (cpu 0) (cpus.End false false notes.Quiet) ∷ []

pub late_ask_is_legal : IsLegal late_ask_line late_ask_log
late_ask_is_legal = (refl, (refl, (refl, (refl, (refl, (refl, (refl, (refl, (refl, (refl, (refl, tt)))))))))))

-- no actor of the line has a due entry
pub late_ask_is_still :
    (next late_ask_line late_ask_log (actors.Cpu (cpu 0)) ≡ None)
    × (next late_ask_line late_ask_log (actors.Driver (driver 1)) ≡ None)
    × (next late_ask_line late_ask_log (actors.Driver (driver 2)) ≡ None)
late_ask_is_still = (refl, refl, refl)

-- A driver serves the device while its handler runs: the handler's return has nothing left.
abbrev pub served_meanwhile_line : LineDef
served_meanwhile_line = record latch {
  devices = device 1 kinds.Direct ∷ [];
  calls =
      (driver 1, calls.Request (dev 1) no_flags) ∷
      (driver 1, calls.Ask (dev 1)) ∷
      (driver 1, calls.Serve (dev 1)) ∷ [];
}

abbrev pub served_meanwhile_log : List Entry
served_meanwhile_log =
    by.Driver (driver 1) (drivers.Request no_flags links.Linked (opens.Started resends.No) (dev 1)) ∷
    by.Driver (driver 1) (drivers.Ask true (dev 1)) ∷
    by.Cpu (cpu 0) (cpus.Take ways.Line takes.Handle) ∷
    by.Cpu (cpu 0) (cpus.Begin (dev 1)) ∷
    by.DriverCall (driver 1) (called.Serve (dev 1) 1) ∷
    by.Cpu (cpu 0) (cpus.Return answers.Handled (dev 1) 0) ∷
    by.Cpu (cpu 0) (cpus.End false false notes.Quiet) ∷ []

pub served_meanwhile_is_legal : IsLegal served_meanwhile_line served_meanwhile_log
served_meanwhile_is_legal = (refl, (refl, (refl, (refl, (refl, (refl, (refl, tt)))))))

-- no actor of the line has a due entry
pub served_meanwhile_is_still :
    (next served_meanwhile_line served_meanwhile_log (actors.Cpu (cpu 0)) ≡ None)
    × (next served_meanwhile_line served_meanwhile_log (actors.Driver (driver 1)) ≡ None)
served_meanwhile_is_still = (refl, refl)

-- A serve after a run that served finds nothing.
abbrev pub served_by_run_line : LineDef
served_by_run_line = record latch {
  devices = device 1 kinds.Direct ∷ [];
  calls =
      (driver 1, calls.Request (dev 1) no_flags) ∷
      (driver 1, calls.Ask (dev 1)) ∷
      (driver 1, calls.Serve (dev 1)) ∷ [];
}

abbrev pub served_by_run_log : List Entry
served_by_run_log =
    by.Driver (driver 1) (drivers.Request no_flags links.Linked (opens.Started resends.No) (dev 1)) ∷
    by.Driver (driver 1) (drivers.Ask true (dev 1)) ∷
    by.Cpu (cpu 0) (cpus.Take ways.Line takes.Handle) ∷
    by.Cpu (cpu 0) (cpus.Begin (dev 1)) ∷
    by.Cpu (cpu 0) (cpus.Return answers.Handled (dev 1) 1) ∷
    by.Cpu (cpu 0) (cpus.End false false notes.Quiet) ∷
    by.DriverCall (driver 1) (called.Serve (dev 1) 0) ∷ []

pub served_by_run_is_legal : IsLegal served_by_run_line served_by_run_log
served_by_run_is_legal = (refl, (refl, (refl, (refl, (refl, (refl, (refl, tt)))))))

-- no actor of the line has a due entry
pub served_by_run_is_still :
    (next served_by_run_line served_by_run_log (actors.Cpu (cpu 0)) ≡ None)
    × (next served_by_run_line served_by_run_log (actors.Driver (driver 1)) ≡ None)
served_by_run_is_still = (refl, refl)

-- The answers of a told device's thread are counted by the thread's runs.
abbrev pub told_thread_line : LineDef
told_thread_line = record latch {
  devices = device 1 (kinds.Told true) ∷ [];
  told =
      (dev 1, parts.Primary, tolds.Wake) ∷
      (dev 1, parts.Thread, tolds.Handled) ∷ [];
  calls =
      (driver 1, calls.Request (dev 1) no_flags) ∷
      (driver 1, calls.Ask (dev 1)) ∷ [];
}

abbrev pub told_thread_log : List Entry
told_thread_log =
    by.Driver (driver 1) (drivers.Request no_flags links.Linked (opens.Started resends.No) (dev 1)) ∷
    by.Driver (driver 1) (drivers.Ask true (dev 1)) ∷
    by.Cpu (cpu 0) (cpus.Take ways.Line takes.Handle) ∷
    by.Cpu (cpu 0) (cpus.Begin (dev 1)) ∷
    by.Cpu (cpu 0) (cpus.Return answers.Wake (dev 1) 0) ∷
    by.Cpu (cpu 0) (cpus.End false false notes.Quiet) ∷
    by.Thread (dev 1) (threads.Begin) ∷
    by.Thread (dev 1) (threads.Return true 1) ∷
    by.Thread (dev 1) (threads.Done) ∷ []

pub told_thread_is_legal : IsLegal told_thread_line told_thread_log
told_thread_is_legal = (refl, (refl, (refl, (refl, (refl, (refl, (refl, (refl, (refl, tt)))))))))

-- no actor of the line has a due entry
pub told_thread_is_still :
    (next told_thread_line told_thread_log (actors.Cpu (cpu 0)) ≡ None)
    × (next told_thread_line told_thread_log (actors.Driver (driver 1)) ≡ None)
    × (next told_thread_line told_thread_log (actors.Thread (dev 1)) ≡ None)
told_thread_is_still = (refl, refl, refl)

-- A told device goes on in its answers as it is linked again.
abbrev pub told_again_line : LineDef
told_again_line = record latch {
  devices = device 1 (kinds.Told false) ∷ [];
  told =
      (dev 1, parts.Primary, tolds.Handled) ∷ [];
  calls =
      (driver 1, calls.Request (dev 1) no_flags) ∷
      (driver 1, calls.Ask (dev 1)) ∷
      (driver 1, calls.Free (dev 1)) ∷
      (driver 1, calls.Request (dev 1) no_flags) ∷
      (driver 1, calls.Ask (dev 1)) ∷ [];
}

abbrev pub told_again_log : List Entry
told_again_log =
    by.Driver (driver 1) (drivers.Request no_flags links.Linked (opens.Started resends.No) (dev 1)) ∷
    by.Driver (driver 1) (drivers.Ask true (dev 1)) ∷
    by.Cpu (cpu 0) (cpus.Take ways.Line takes.Handle) ∷
    by.Cpu (cpu 0) (cpus.Begin (dev 1)) ∷
    by.Cpu (cpu 0) (cpus.Return answers.Handled (dev 1) 1) ∷
    by.Cpu (cpu 0) (cpus.End false false notes.Quiet) ∷
    by.DriverCall (driver 1) (called.Unlink (unlinks.Unlinked true) (dev 1)) ∷
    by.DriverCall (driver 1) (called.HardClear) ∷
    by.DriverCall (driver 1) (called.Freed (dev 1)) ∷
    by.Driver (driver 1) (drivers.Request no_flags links.Linked (opens.Started resends.No) (dev 1)) ∷
    by.Driver (driver 1) (drivers.Ask true (dev 1)) ∷
    by.Cpu (cpu 0) (cpus.Take ways.Line takes.Handle) ∷
    by.Cpu (cpu 0) (cpus.Begin (dev 1)) ∷
    by.Cpu (cpu 0) (cpus.Return answers.Nothing (dev 1) 0) ∷
    by.Cpu (cpu 0) (cpus.End false false notes.Counted) ∷ []

pub told_again_is_legal : IsLegal told_again_line told_again_log
told_again_is_legal = (refl, (refl, (refl, (refl, (refl, (refl, (refl, (refl, (refl, (refl, (refl, (refl, (refl, (refl, (refl, tt)))))))))))))))

-- no actor of the line has a due entry
pub told_again_is_still :
    (next told_again_line told_again_log (actors.Cpu (cpu 0)) ≡ None)
    × (next told_again_line told_again_log (actors.Driver (driver 1)) ≡ None)
told_again_is_still = (refl, refl)

pub told_again_is_unserved : unserved_asks told_again_line (dev 1) (reverse told_again_log) ≡ 1
told_again_is_unserved = refl

-- A handler that doesn't recognise its device makes none of its calls.
abbrev pub unrecognised_line : LineDef
unrecognised_line = record latch {
  devices = device 1 kinds.Check ∷ [];
  runs =
      (dev 1, parts.Primary, calls.Quiet (dev 1)) ∷ [];
  calls =
      (driver 1, calls.Request (dev 1) no_flags) ∷
      (driver 1, calls.Ask (dev 1)) ∷
      (driver 1, calls.Serve (dev 1)) ∷ [];
}

abbrev pub unrecognised_log : List Entry
unrecognised_log =
    by.Driver (driver 1) (drivers.Request no_flags links.Linked (opens.Started resends.No) (dev 1)) ∷
    by.Driver (driver 1) (drivers.Ask true (dev 1)) ∷
    by.DriverCall (driver 1) (called.Serve (dev 1) 1) ∷
    by.Cpu (cpu 0) (cpus.Take ways.Line takes.Handle) ∷
    by.Cpu (cpu 0) (cpus.Begin (dev 1)) ∷
    by.Cpu (cpu 0) (cpus.Return answers.Nothing (dev 1) 0) ∷
    by.Cpu (cpu 0) (cpus.End false false notes.Counted) ∷ []

pub unrecognised_is_legal : IsLegal unrecognised_line unrecognised_log
unrecognised_is_legal = (refl, (refl, (refl, (refl, (refl, (refl, (refl, tt)))))))

-- no actor of the line has a due entry
pub unrecognised_is_still :
    (next unrecognised_line unrecognised_log (actors.Cpu (cpu 0)) ≡ None)
    × (next unrecognised_line unrecognised_log (actors.Driver (driver 1)) ≡ None)
    × (next unrecognised_line unrecognised_log (actors.Thread (dev 1)) ≡ None)
unrecognised_is_still = (refl, refl, refl)

-- A wake of a thread that is in a run: it runs once more.
abbrev pub woken_running_line : LineDef
woken_running_line = record latch {
  devices = device 1 kinds.Check ∷ [];
  calls =
      (driver 1, calls.Request (dev 1) no_flags) ∷
      (driver 1, calls.Wake (dev 1)) ∷
      (driver 1, calls.Wake (dev 1)) ∷ [];
}

abbrev pub woken_running_log : List Entry
woken_running_log =
    by.Driver (driver 1) (drivers.Request no_flags links.Linked (opens.Started resends.No) (dev 1)) ∷
    by.DriverCall (driver 1) (called.Wake true (dev 1)) ∷
    by.Thread (dev 1) (threads.Begin) ∷
    by.DriverCall (driver 1) (called.Wake true (dev 1)) ∷
    by.Thread (dev 1) (threads.Return false 0) ∷
    by.Thread (dev 1) (threads.Done) ∷
    by.Thread (dev 1) (threads.Begin) ∷
    by.Thread (dev 1) (threads.Return false 0) ∷
    by.Thread (dev 1) (threads.Done) ∷ []

pub woken_running_is_legal : IsLegal woken_running_line woken_running_log
woken_running_is_legal = (refl, (refl, (refl, (refl, (refl, (refl, (refl, (refl, (refl, tt)))))))))

-- no actor of the line has a due entry
pub woken_running_is_still :
    (next woken_running_line woken_running_log (actors.Cpu (cpu 0)) ≡ None)
    × (next woken_running_line woken_running_log (actors.Driver (driver 1)) ≡ None)
    × (next woken_running_line woken_running_log (actors.Thread (dev 1)) ≡ None)
woken_running_is_still = (refl, refl, refl)

-- A call's wake sets the thread's bit of a one-shot line, and doesn't mask it: the next flow leaves
-- it masked, and the thread opens it.
abbrev pub woken_oneshot_line : LineDef
woken_oneshot_line = record level {
  devices = device 1 kinds.Check ∷ device 2 kinds.Direct ∷ [];
  calls =
      (driver 1, calls.Request (dev 1) shared_oneshot) ∷
      (driver 1, calls.Request (dev 2) shared_oneshot) ∷
      (driver 1, calls.Wake (dev 1)) ∷
      (driver 1, calls.Ask (dev 2)) ∷ [];
}

abbrev pub woken_oneshot_log : List Entry
woken_oneshot_log =
    by.Driver (driver 1) (drivers.Request shared_oneshot links.Linked (opens.Started resends.No) (dev 1)) ∷
    by.Driver (driver 1) (drivers.Request shared_oneshot links.Linked opens.No (dev 2)) ∷
    by.DriverCall (driver 1) (called.Wake true (dev 1)) ∷
    by.Driver (driver 1) (drivers.Ask true (dev 2)) ∷
    by.Cpu (cpu 0) (cpus.Take ways.Line takes.Handle) ∷
    by.Cpu (cpu 0) (cpus.Begin (dev 1)) ∷
    by.Cpu (cpu 0) (cpus.Return answers.Nothing (dev 1) 0) ∷
    by.Cpu (cpu 0) (cpus.Begin (dev 2)) ∷
    by.Cpu (cpu 0) (cpus.Return answers.Handled (dev 2) 1) ∷
    by.Cpu (cpu 0) (cpus.End false false notes.Quiet) ∷
    by.Thread (dev 1) (threads.Begin) ∷
    by.Thread (dev 1) (threads.Return false 0) ∷
    by.Thread (dev 1) (threads.Finish false true) ∷
    by.Thread (dev 1) (threads.Done) ∷ []

pub woken_oneshot_is_legal : IsLegal woken_oneshot_line woken_oneshot_log
woken_oneshot_is_legal = (refl, (refl, (refl, (refl, (refl, (refl, (refl, (refl, (refl, (refl, (refl, (refl, (refl, (refl, tt))))))))))))))

-- no actor of the line has a due entry
pub woken_oneshot_is_still :
    (next woken_oneshot_line woken_oneshot_log (actors.Cpu (cpu 0)) ≡ None)
    × (next woken_oneshot_line woken_oneshot_log (actors.Driver (driver 1)) ≡ None)
    × (next woken_oneshot_line woken_oneshot_log (actors.Thread (dev 1)) ≡ None)
woken_oneshot_is_still = (refl, refl, refl)

-- A handler's enable undoes a driver's disable, within the flow.
abbrev pub handler_enables_line : LineDef
handler_enables_line = record latch {
  devices = device 1 kinds.Direct ∷ [];
  runs =
      (dev 1, parts.Primary, calls.Enable) ∷ [];
  calls =
      (driver 1, calls.Request (dev 1) no_flags) ∷
      (driver 1, calls.Ask (dev 1)) ∷
      (driver 1, calls.DisableNosync) ∷ [];
}

abbrev pub handler_enables_log : List Entry
handler_enables_log =
    by.Driver (driver 1) (drivers.Request no_flags links.Linked (opens.Started resends.No) (dev 1)) ∷
    by.Driver (driver 1) (drivers.Ask true (dev 1)) ∷
    by.Cpu (cpu 0) (cpus.Take ways.Line takes.Handle) ∷
    by.Cpu (cpu 0) (cpus.Begin (dev 1)) ∷
    by.DriverCall (driver 1) (called.Disable) ∷
    by.CpuCall (cpu 0) (called.Enable (enables.Started resends.No)) ∷
    by.Cpu (cpu 0) (cpus.Return answers.Handled (dev 1) 1) ∷
    by.Cpu (cpu 0) (cpus.End false false notes.Quiet) ∷ []

pub handler_enables_is_legal : IsLegal handler_enables_line handler_enables_log
handler_enables_is_legal = (refl, (refl, (refl, (refl, (refl, (refl, (refl, (refl, tt))))))))

-- no actor of the line has a due entry
pub handler_enables_is_still :
    (next handler_enables_line handler_enables_log (actors.Cpu (cpu 0)) ≡ None)
    × (next handler_enables_line handler_enables_log (actors.Driver (driver 1)) ≡ None)
handler_enables_is_still = (refl, refl)

-- A thread's enable over what came meanwhile: this chip can't send again, so the software does.
abbrev pub resent_line : LineDef
resent_line = record plain {
  devices = device 1 kinds.Check ∷ [];
  runs =
      (dev 1, parts.Primary, calls.DisableNosync) ∷
      (dev 1, parts.Thread, calls.Enable) ∷ [];
  calls =
      (driver 1, calls.Request (dev 1) no_flags) ∷
      (driver 1, calls.Ask (dev 1)) ∷
      (driver 1, calls.Ask (dev 1)) ∷ [];
}

abbrev pub resent_log : List Entry
resent_log =
    by.Driver (driver 1) (drivers.Request no_flags links.Linked (opens.Started resends.No) (dev 1)) ∷
    by.Driver (driver 1) (drivers.Ask true (dev 1)) ∷
    by.Cpu (cpu 0) (cpus.Take ways.Line takes.Handle) ∷
    by.Cpu (cpu 0) (cpus.Begin (dev 1)) ∷
    by.CpuCall (cpu 0) (called.Disable) ∷
    by.Cpu (cpu 0) (cpus.Return answers.Wake (dev 1) 0) ∷
    by.Cpu (cpu 0) (cpus.End false false notes.Quiet) ∷
    by.Driver (driver 1) (drivers.Ask true (dev 1)) ∷
    by.Cpu (cpu 0) (cpus.Take ways.Line takes.Off) ∷
    by.Thread (dev 1) (threads.Begin) ∷
    by.ThreadCall (dev 1) (called.Enable (enables.Started resends.Soft)) ∷
    by.Thread (dev 1) (threads.Return true 2) ∷
    by.Thread (dev 1) (threads.Done) ∷
    by.Cpu (cpu 0) (cpus.Take ways.Resend takes.Handle) ∷
    by.Cpu (cpu 0) (cpus.Begin (dev 1)) ∷
    by.Cpu (cpu 0) (cpus.Return answers.Nothing (dev 1) 0) ∷
    by.Cpu (cpu 0) (cpus.End false false notes.Counted) ∷ []

pub resent_is_legal : IsLegal resent_line resent_log
resent_is_legal = (refl, (refl, (refl, (refl, (refl, (refl, (refl, (refl, (refl, (refl, (refl, (refl, (refl, (refl, (refl, (refl, (refl, tt)))))))))))))))))

-- no actor of the line has a due entry
pub resent_is_still :
    (next resent_line resent_log (actors.Cpu (cpu 0)) ≡ None)
    × (next resent_line resent_log (actors.Driver (driver 1)) ≡ None)
    × (next resent_line resent_log (actors.Thread (dev 1)) ≡ None)
resent_is_still = (refl, refl, refl)

-- A handler that synchronises its own line spins, with its device unserved: nobody has a step, the
-- drivers' calls are complete, and the depth is 0, so the line is settled. It isn't at rest.
abbrev pub spinning_line : LineDef
spinning_line = record level {
  devices = device 1 kinds.Direct ∷ [];
  runs =
      (dev 1, parts.Primary, calls.Sync) ∷ [];
  calls =
      (driver 1, calls.Request (dev 1) no_flags) ∷
      (driver 1, calls.Ask (dev 1)) ∷ [];
}

abbrev pub spinning_log : List Entry
spinning_log =
    by.Driver (driver 1) (drivers.Request no_flags links.Linked (opens.Started resends.No) (dev 1)) ∷
    by.Driver (driver 1) (drivers.Ask true (dev 1)) ∷
    by.Cpu (cpu 0) (cpus.Take ways.Line takes.Handle) ∷
    by.Cpu (cpu 0) (cpus.Begin (dev 1)) ∷ []

pub spinning_is_legal : IsLegal spinning_line spinning_log
spinning_is_legal = (refl, (refl, (refl, (refl, tt))))

-- no actor of the line has a due entry
pub spinning_is_still :
    (next spinning_line spinning_log (actors.Cpu (cpu 0)) ≡ None)
    × (next spinning_line spinning_log (actors.Driver (driver 1)) ≡ None)
spinning_is_still = (refl, refl)

pub spinning_is_unserved : unserved_asks spinning_line (dev 1) (reverse spinning_log) ≡ 1
spinning_is_unserved = refl

pub spinning_depth : depth (reverse spinning_log) ≡ 0
spinning_depth = refl

pub spinning_hangs : IsHungPast spinning_line (reverse spinning_log) (actors.Cpu (cpu 0))
spinning_hangs = (zero, (refl, refl))

pub spinning_isnt_at_rest : is_unfinished_actor spinning_line (reverse spinning_log) (actors.Cpu (cpu 0)) ≡ true
spinning_isnt_at_rest = refl

-- A handler that disables and answers Handled: nobody enables, and the line is left disabled.
abbrev pub answers_handled_line : LineDef
answers_handled_line = record latch {
  devices = device 1 (kinds.Told true) ∷ [];
  runs =
      (dev 1, parts.Primary, calls.DisableNosync) ∷
      (dev 1, parts.Thread, calls.Enable) ∷ [];
  told =
      (dev 1, parts.Primary, tolds.Handled) ∷
      (dev 1, parts.Primary, tolds.Wake) ∷ [];
  calls =
      (driver 1, calls.Request (dev 1) no_flags) ∷
      (driver 1, calls.Ask (dev 1)) ∷ [];
}

abbrev pub answers_handled_log : List Entry
answers_handled_log =
    by.Driver (driver 1) (drivers.Request no_flags links.Linked (opens.Started resends.No) (dev 1)) ∷
    by.Driver (driver 1) (drivers.Ask true (dev 1)) ∷
    by.Cpu (cpu 0) (cpus.Take ways.Line takes.Handle) ∷
    by.Cpu (cpu 0) (cpus.Begin (dev 1)) ∷
    by.CpuCall (cpu 0) (called.Disable) ∷
    by.Cpu (cpu 0) (cpus.Return answers.Handled (dev 1) 0) ∷
    by.Cpu (cpu 0) (cpus.End false false notes.Quiet) ∷ []

pub answers_handled_is_legal : IsLegal answers_handled_line answers_handled_log
answers_handled_is_legal = (refl, (refl, (refl, (refl, (refl, (refl, (refl, tt)))))))

-- no actor of the line has a due entry
pub answers_handled_is_still :
    (next answers_handled_line answers_handled_log (actors.Cpu (cpu 0)) ≡ None)
    × (next answers_handled_line answers_handled_log (actors.Driver (driver 1)) ≡ None)
    × (next answers_handled_line answers_handled_log (actors.Thread (dev 1)) ≡ None)
answers_handled_is_still = (refl, refl, refl)

pub answers_handled_depth : depth (reverse answers_handled_log) ≡ 1
answers_handled_depth = refl

-- Two threads that free one another: the first waits for the second's end, the second for the mutex.
abbrev pub mutual_line : LineDef
mutual_line = record latch {
  devices = device 1 kinds.Check ∷ device 2 kinds.Check ∷ [];
  runs =
      (dev 1, parts.Thread, calls.Free (dev 2)) ∷
      (dev 2, parts.Thread, calls.Free (dev 1)) ∷ [];
  calls =
      (driver 1, calls.Request (dev 1) shared) ∷
      (driver 1, calls.Request (dev 2) shared) ∷
      (driver 1, calls.Wake (dev 1)) ∷
      (driver 1, calls.Wake (dev 2)) ∷ [];
}

abbrev pub mutual_log : List Entry
mutual_log =
    by.Driver (driver 1) (drivers.Request shared links.Linked (opens.Started resends.No) (dev 1)) ∷
    by.Driver (driver 1) (drivers.Request shared links.Linked opens.No (dev 2)) ∷
    by.DriverCall (driver 1) (called.Wake true (dev 1)) ∷
    by.DriverCall (driver 1) (called.Wake true (dev 2)) ∷
    by.Thread (dev 1) (threads.Begin) ∷
    by.Thread (dev 2) (threads.Begin) ∷
    by.ThreadCall (dev 1) (called.Unlink (unlinks.Unlinked false) (dev 2)) ∷
    by.ThreadCall (dev 1) (called.HardClear) ∷ []

pub mutual_is_legal : IsLegal mutual_line mutual_log
mutual_is_legal = (refl, (refl, (refl, (refl, (refl, (refl, (refl, (refl, tt))))))))

-- no actor of the line has a due entry
pub mutual_is_still :
    (next mutual_line mutual_log (actors.Cpu (cpu 0)) ≡ None)
    × (next mutual_line mutual_log (actors.Driver (driver 1)) ≡ None)
    × (next mutual_line mutual_log (actors.Thread (dev 1)) ≡ None)
    × (next mutual_line mutual_log (actors.Thread (dev 2)) ≡ None)
mutual_is_still = (refl, refl, refl, refl)

pub mutual_hangs : IsHungPast mutual_line (reverse mutual_log) (actors.Thread (dev 1))
mutual_hangs = ((suc zero), (actors.Thread (dev 2), (refl, (refl, refl)), (refl, refl)))

pub mutual_isnt_at_rest : is_unfinished_actor mutual_line (reverse mutual_log) (actors.Thread (dev 1)) ≡ true
mutual_isnt_at_rest = refl
