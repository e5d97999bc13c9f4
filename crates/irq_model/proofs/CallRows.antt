-- Worked histories of version 3: runs that call, a device's own interrupt, runs that hang.
use Rattle.std.specs.Prelude.{◌≡◌, List, [], ◌∷◌, refl, true, false, None, Some, zero, reverse}
use Rattle.irq_base.specs.declared.calls.Call.TheVariants as calls
use Rattle.irq_base.specs.declared.devices.Kind.TheVariants as kinds
use Rattle.irq_base.specs.declared.devices.Answer.TheVariants as answers
use Rattle.irq_base.specs.declared.devices.Part.TheVariants as parts
use Rattle.irq_base.specs.declared.devices.ToldAnswer.TheVariants as tolds
use Rattle.irq_base.specs.declared.lines.LineDef.{LineDef}
use Rattle.irq_base.specs.declared.entries.Actor.TheVariants as actors
use Rattle.irq_base.specs.declared.entries.Entry.{Entry}
use Rattle.irq_base.specs.declared.entries.Entry.TheVariants as by
use Rattle.irq_base.specs.declared.entries.CpuEntry.TheVariants as cpus
use Rattle.irq_base.specs.declared.entries.ThreadEntry.TheVariants as threads
use Rattle.irq_base.specs.declared.entries.DriverEntry.TheVariants as drivers
use Rattle.irq_base.specs.declared.entries.CallEntry.TheVariants as called
use Rattle.irq_base.specs.declared.entries.Way.TheVariants as ways
use Rattle.irq_base.specs.declared.entries.TakeAnswer.TheVariants as takes
use Rattle.irq_base.specs.declared.entries.Note.TheVariants as notes
use Rattle.irq_base.specs.declared.entries.Resend.TheVariants as resends
use Rattle.irq_base.specs.declared.entries.EnableAnswer.TheVariants as enables
use Rattle.irq_base.specs.declared.entries.Opened.TheVariants as opens
use Rattle.irq_base.specs.declared.entries.LinkAnswer.TheVariants as links
use Rattle.irq_base.specs.declared.entries.UnlinkAnswer.TheVariants as unlinks
use Rattle.irq_model.specs.Asks.{unserved_asks}
use Rattle.irq_model.specs.Legal.{IsLegal}
use Rattle.irq_model.specs.Next.{next, next_past}
use Rattle.irq_model.specs.Waits.{IsHungPast, IsHeldUpPast}
use Rattle.irq_model.proofs.RowWords.{line, cpu, dev, driver, device, no_flags, oneshot, latch, level}

-- A handler turns its device's interrupt off, its thread serves and turns it on: an ask meanwhile makes no
-- edge, and is served by the thread.
abbrev pub poll_line : LineDef
poll_line = record latch {
  devices = device 1 kinds.Check ∷ [];
  runs =
      (dev 1, parts.Primary, calls.Quiet (dev 1)) ∷
      (dev 1, parts.Thread, calls.Serve (dev 1)) ∷
      (dev 1, parts.Thread, calls.Arm (dev 1)) ∷ [];
  calls =
      (driver 1, calls.Request (dev 1) no_flags) ∷
      (driver 2, calls.Ask (dev 1)) ∷
      (driver 2, calls.Ask (dev 1)) ∷ [];
}

abbrev pub poll_log : List Entry
poll_log =
    by.Driver (driver 1) (drivers.Request no_flags links.Linked (opens.Started resends.No) (dev 1)) ∷
    by.Driver (driver 2) (drivers.Ask true (dev 1)) ∷
    by.Cpu (cpu 0) (cpus.Take ways.Line takes.Handle) ∷
    by.Cpu (cpu 0) (cpus.Begin (dev 1)) ∷
    by.CpuCall (cpu 0) (called.Quiet (dev 1)) ∷
    by.Cpu (cpu 0) (cpus.Return answers.Wake (dev 1) 0) ∷
    by.Cpu (cpu 0) (cpus.End false false notes.Quiet) ∷
    by.Thread (dev 1) threads.Begin ∷
    by.Driver (driver 2) (drivers.Ask false (dev 1)) ∷
    by.ThreadCall (dev 1) (called.Serve (dev 1) 2) ∷
    by.ThreadCall (dev 1) (called.Arm false (dev 1)) ∷
    by.Thread (dev 1) (threads.Return true 0) ∷
    by.Thread (dev 1) threads.Done ∷ []

pub poll_is_legal : IsLegal poll_line poll_log
poll_is_legal = (refl, (refl, (refl, (refl, (refl, (refl, (refl, (refl, (refl, (refl, (refl, (refl, (refl, tt)))))))))))))

-- no actor of the line has a due entry
pub poll_is_still :
    (next poll_line poll_log (actors.Cpu (cpu 0)) ≡ None)
    × (next poll_line poll_log (actors.Driver (driver 1)) ≡ None)
    × (next poll_line poll_log (actors.Driver (driver 2)) ≡ None)
    × (next poll_line poll_log (actors.Thread (dev 1)) ≡ None)
poll_is_still = (refl, refl, refl, refl)

-- An ask between the service and the arm: the arm makes the edge.
abbrev pub armed_line : LineDef
armed_line = record latch {
  devices = device 1 kinds.Check ∷ [];
  runs =
      (dev 1, parts.Primary, calls.Quiet (dev 1)) ∷
      (dev 1, parts.Thread, calls.Serve (dev 1)) ∷
      (dev 1, parts.Thread, calls.Arm (dev 1)) ∷ [];
  calls =
      (driver 1, calls.Request (dev 1) no_flags) ∷
      (driver 2, calls.Ask (dev 1)) ∷
      (driver 2, calls.Ask (dev 1)) ∷ [];
}

abbrev pub armed_log : List Entry
armed_log =
    by.Driver (driver 1) (drivers.Request no_flags links.Linked (opens.Started resends.No) (dev 1)) ∷
    by.Driver (driver 2) (drivers.Ask true (dev 1)) ∷
    by.Cpu (cpu 0) (cpus.Take ways.Line takes.Handle) ∷
    by.Cpu (cpu 0) (cpus.Begin (dev 1)) ∷
    by.CpuCall (cpu 0) (called.Quiet (dev 1)) ∷
    by.Cpu (cpu 0) (cpus.Return answers.Wake (dev 1) 0) ∷
    by.Cpu (cpu 0) (cpus.End false false notes.Quiet) ∷
    by.Thread (dev 1) threads.Begin ∷
    by.ThreadCall (dev 1) (called.Serve (dev 1) 1) ∷
    by.Driver (driver 2) (drivers.Ask false (dev 1)) ∷
    by.ThreadCall (dev 1) (called.Arm true (dev 1)) ∷
    by.Thread (dev 1) (threads.Return true 0) ∷
    by.Thread (dev 1) threads.Done ∷
    by.Cpu (cpu 0) (cpus.Take ways.Line takes.Handle) ∷
    by.Cpu (cpu 0) (cpus.Begin (dev 1)) ∷
    by.CpuCall (cpu 0) (called.Quiet (dev 1)) ∷
    by.Cpu (cpu 0) (cpus.Return answers.Wake (dev 1) 0) ∷
    by.Cpu (cpu 0) (cpus.End false false notes.Quiet) ∷
    by.Thread (dev 1) threads.Begin ∷
    by.ThreadCall (dev 1) (called.Serve (dev 1) 1) ∷
    by.ThreadCall (dev 1) (called.Arm false (dev 1)) ∷
    by.Thread (dev 1) (threads.Return true 0) ∷
    by.Thread (dev 1) threads.Done ∷ []

pub armed_is_legal : IsLegal armed_line armed_log
armed_is_legal = (
  refl,
  (
    refl,
    (
      refl,
      (
        refl,
        (
          refl,
          (
            refl,
            (
              refl,
              (
                refl,
                (
                  refl,
                  (
                    refl,
                    (
                      refl,
                      (
                        refl,
                        (
                          refl,
                          (
                            refl,
                            (refl, (refl, (refl, (refl, (refl, (refl, (refl, (refl, (refl, tt))))))))),
                          ),
                        ),
                      ),
                    ),
                  ),
                ),
              ),
            ),
          ),
        ),
      ),
    ),
  ),
)

-- no actor of the line has a due entry
pub armed_is_still :
    (next armed_line armed_log (actors.Cpu (cpu 0)) ≡ None)
    × (next armed_line armed_log (actors.Driver (driver 1)) ≡ None)
    × (next armed_line armed_log (actors.Driver (driver 2)) ≡ None)
    × (next armed_line armed_log (actors.Thread (dev 1)) ≡ None)
armed_is_still = (refl, refl, refl, refl)

-- The same, over a device that forgets: the line is left with an ask that nobody serves.
abbrev pub forgotten_line : LineDef
forgotten_line = record latch {
  devices = record { dev = dev 1; line = line; kind = kinds.Check; held = false; forgets = true } ∷ [];
  runs =
      (dev 1, parts.Primary, calls.Quiet (dev 1)) ∷
      (dev 1, parts.Thread, calls.Serve (dev 1)) ∷
      (dev 1, parts.Thread, calls.Arm (dev 1)) ∷ [];
  calls =
      (driver 1, calls.Request (dev 1) no_flags) ∷
      (driver 2, calls.Ask (dev 1)) ∷
      (driver 2, calls.Ask (dev 1)) ∷ [];
}

abbrev pub forgotten_log : List Entry
forgotten_log =
    by.Driver (driver 1) (drivers.Request no_flags links.Linked (opens.Started resends.No) (dev 1)) ∷
    by.Driver (driver 2) (drivers.Ask true (dev 1)) ∷
    by.Cpu (cpu 0) (cpus.Take ways.Line takes.Handle) ∷
    by.Cpu (cpu 0) (cpus.Begin (dev 1)) ∷
    by.CpuCall (cpu 0) (called.Quiet (dev 1)) ∷
    by.Cpu (cpu 0) (cpus.Return answers.Wake (dev 1) 0) ∷
    by.Cpu (cpu 0) (cpus.End false false notes.Quiet) ∷
    by.Thread (dev 1) threads.Begin ∷
    by.ThreadCall (dev 1) (called.Serve (dev 1) 1) ∷
    by.Driver (driver 2) (drivers.Ask false (dev 1)) ∷
    by.ThreadCall (dev 1) (called.Arm false (dev 1)) ∷
    by.Thread (dev 1) (threads.Return true 0) ∷
    by.Thread (dev 1) threads.Done ∷ []

pub forgotten_is_legal : IsLegal forgotten_line forgotten_log
forgotten_is_legal = (refl, (refl, (refl, (refl, (refl, (refl, (refl, (refl, (refl, (refl, (refl, (refl, (refl, tt)))))))))))))

-- no actor of the line has a due entry
pub forgotten_is_still :
    (next forgotten_line forgotten_log (actors.Cpu (cpu 0)) ≡ None)
    × (next forgotten_line forgotten_log (actors.Driver (driver 1)) ≡ None)
    × (next forgotten_line forgotten_log (actors.Driver (driver 2)) ≡ None)
    × (next forgotten_line forgotten_log (actors.Thread (dev 1)) ≡ None)
forgotten_is_still = (refl, refl, refl, refl)

pub forgotten_is_unserved : unserved_asks forgotten_line (dev 1) (reverse forgotten_log) ≡ 1
forgotten_is_unserved = refl

-- A handler disables its line, and its thread enables it.
abbrev pub held_off_line : LineDef
held_off_line = record latch {
  devices = device 1 kinds.Check ∷ [];
  runs =
      (dev 1, parts.Primary, calls.DisableNosync) ∷
      (dev 1, parts.Thread, calls.Enable) ∷ [];
  calls =
      (driver 1, calls.Request (dev 1) no_flags) ∷
      (driver 2, calls.Ask (dev 1)) ∷ [];
}

abbrev pub held_off_log : List Entry
held_off_log =
    by.Driver (driver 1) (drivers.Request no_flags links.Linked (opens.Started resends.No) (dev 1)) ∷
    by.Driver (driver 2) (drivers.Ask true (dev 1)) ∷
    by.Cpu (cpu 0) (cpus.Take ways.Line takes.Handle) ∷
    by.Cpu (cpu 0) (cpus.Begin (dev 1)) ∷
    by.CpuCall (cpu 0) called.Disable ∷
    by.Cpu (cpu 0) (cpus.Return answers.Wake (dev 1) 0) ∷
    by.Cpu (cpu 0) (cpus.End false false notes.Quiet) ∷
    by.Thread (dev 1) threads.Begin ∷
    by.ThreadCall (dev 1) (called.Enable (enables.Started resends.No)) ∷
    by.Thread (dev 1) (threads.Return true 1) ∷
    by.Thread (dev 1) threads.Done ∷ []

pub held_off_is_legal : IsLegal held_off_line held_off_log
held_off_is_legal = (refl, (refl, (refl, (refl, (refl, (refl, (refl, (refl, (refl, (refl, (refl, tt)))))))))))

-- no actor of the line has a due entry
pub held_off_is_still :
    (next held_off_line held_off_log (actors.Cpu (cpu 0)) ≡ None)
    × (next held_off_line held_off_log (actors.Driver (driver 1)) ≡ None)
    × (next held_off_line held_off_log (actors.Driver (driver 2)) ≡ None)
    × (next held_off_line held_off_log (actors.Thread (dev 1)) ≡ None)
held_off_is_still = (refl, refl, refl, refl)

-- An enable too many, by a thread: unbalanced.
abbrev pub enabled_twice_line : LineDef
enabled_twice_line = record latch {
  devices = device 1 kinds.Check ∷ [];
  runs =
      (dev 1, parts.Thread, calls.Enable) ∷ [];
  calls =
      (driver 1, calls.Request (dev 1) no_flags) ∷
      (driver 2, calls.Ask (dev 1)) ∷ [];
}

abbrev pub enabled_twice_log : List Entry
enabled_twice_log =
    by.Driver (driver 1) (drivers.Request no_flags links.Linked (opens.Started resends.No) (dev 1)) ∷
    by.Driver (driver 2) (drivers.Ask true (dev 1)) ∷
    by.Cpu (cpu 0) (cpus.Take ways.Line takes.Handle) ∷
    by.Cpu (cpu 0) (cpus.Begin (dev 1)) ∷
    by.Cpu (cpu 0) (cpus.Return answers.Wake (dev 1) 0) ∷
    by.Cpu (cpu 0) (cpus.End false false notes.Quiet) ∷
    by.Thread (dev 1) threads.Begin ∷
    by.ThreadCall (dev 1) (called.Enable enables.Unbalanced) ∷
    by.Thread (dev 1) (threads.Return true 1) ∷
    by.Thread (dev 1) threads.Done ∷ []

pub enabled_twice_is_legal : IsLegal enabled_twice_line enabled_twice_log
enabled_twice_is_legal = (refl, (refl, (refl, (refl, (refl, (refl, (refl, (refl, (refl, (refl, tt))))))))))

-- no actor of the line has a due entry
pub enabled_twice_is_still :
    (next enabled_twice_line enabled_twice_log (actors.Cpu (cpu 0)) ≡ None)
    × (next enabled_twice_line enabled_twice_log (actors.Driver (driver 1)) ≡ None)
    × (next enabled_twice_line enabled_twice_log (actors.Driver (driver 2)) ≡ None)
    × (next enabled_twice_line enabled_twice_log (actors.Thread (dev 1)) ≡ None)
enabled_twice_is_still = (refl, refl, refl, refl)

-- A driver wakes the thread; a second wake before it begins answers no.
abbrev pub woken_line : LineDef
woken_line = record latch {
  devices = device 1 kinds.Check ∷ [];
  calls =
      (driver 1, calls.Request (dev 1) no_flags) ∷
      (driver 2, calls.Wake (dev 1)) ∷
      (driver 2, calls.Wake (dev 1)) ∷ [];
}

abbrev pub woken_log : List Entry
woken_log =
    by.Driver (driver 1) (drivers.Request no_flags links.Linked (opens.Started resends.No) (dev 1)) ∷
    by.DriverCall (driver 2) (called.Wake true (dev 1)) ∷
    by.DriverCall (driver 2) (called.Wake false (dev 1)) ∷
    by.Thread (dev 1) threads.Begin ∷
    by.Thread (dev 1) (threads.Return false 0) ∷
    by.Thread (dev 1) threads.Done ∷ []

pub woken_is_legal : IsLegal woken_line woken_log
woken_is_legal = (refl, (refl, (refl, (refl, (refl, (refl, tt))))))

-- no actor of the line has a due entry
pub woken_is_still :
    (next woken_line woken_log (actors.Cpu (cpu 0)) ≡ None)
    × (next woken_line woken_log (actors.Driver (driver 1)) ≡ None)
    × (next woken_line woken_log (actors.Driver (driver 2)) ≡ None)
    × (next woken_line woken_log (actors.Thread (dev 1)) ≡ None)
woken_is_still = (refl, refl, refl, refl)

-- A wake of a device that isn't linked answers no.
abbrev pub unlinked_line : LineDef
unlinked_line = record latch {
  devices = device 1 kinds.Check ∷ [];
  calls =
      (driver 2, calls.Wake (dev 1)) ∷ [];
}

abbrev pub unlinked_log : List Entry
unlinked_log =
    by.DriverCall (driver 2) (called.Wake false (dev 1)) ∷ []

pub unlinked_is_legal : IsLegal unlinked_line unlinked_log
unlinked_is_legal = (refl, tt)

-- no actor of the line has a due entry
pub unlinked_is_still :
    (next unlinked_line unlinked_log (actors.Cpu (cpu 0)) ≡ None)
    × (next unlinked_line unlinked_log (actors.Driver (driver 1)) ≡ None)
    × (next unlinked_line unlinked_log (actors.Driver (driver 2)) ≡ None)
    × (next unlinked_line unlinked_log (actors.Thread (dev 1)) ≡ None)
unlinked_is_still = (refl, refl, refl, refl)

-- A device whose signal stays until it is served: its second ask makes no edge.
abbrev pub standing_line : LineDef
standing_line = record latch {
  devices = record { dev = dev 1; line = line; kind = kinds.Direct; held = true; forgets = false } ∷ [];
  calls =
      (driver 1, calls.Request (dev 1) no_flags) ∷
      (driver 2, calls.Ask (dev 1)) ∷
      (driver 2, calls.Ask (dev 1)) ∷ [];
}

abbrev pub standing_log : List Entry
standing_log =
    by.Driver (driver 1) (drivers.Request no_flags links.Linked (opens.Started resends.No) (dev 1)) ∷
    by.Driver (driver 2) (drivers.Ask true (dev 1)) ∷
    by.Driver (driver 2) (drivers.Ask false (dev 1)) ∷
    by.Cpu (cpu 0) (cpus.Take ways.Line takes.Handle) ∷
    by.Cpu (cpu 0) (cpus.Begin (dev 1)) ∷
    by.Cpu (cpu 0) (cpus.Return answers.Handled (dev 1) 2) ∷
    by.Cpu (cpu 0) (cpus.End false false notes.Quiet) ∷ []

pub standing_is_legal : IsLegal standing_line standing_log
standing_is_legal = (refl, (refl, (refl, (refl, (refl, (refl, (refl, tt)))))))

-- no actor of the line has a due entry
pub standing_is_still :
    (next standing_line standing_log (actors.Cpu (cpu 0)) ≡ None)
    × (next standing_line standing_log (actors.Driver (driver 1)) ≡ None)
    × (next standing_line standing_log (actors.Driver (driver 2)) ≡ None)
    × (next standing_line standing_log (actors.Thread (dev 1)) ≡ None)
standing_is_still = (refl, refl, refl, refl)

-- An odd device: its handler recognises nothing, and the ask is gone.
abbrev pub glitch_line : LineDef
glitch_line = record level {
  devices = device 1 kinds.Odd ∷ [];
  calls =
      (driver 1, calls.Request (dev 1) no_flags) ∷
      (driver 2, calls.Ask (dev 1)) ∷ [];
}

abbrev pub glitch_log : List Entry
glitch_log =
    by.Driver (driver 1) (drivers.Request no_flags links.Linked (opens.Started resends.No) (dev 1)) ∷
    by.Driver (driver 2) (drivers.Ask true (dev 1)) ∷
    by.Cpu (cpu 0) (cpus.Take ways.Line takes.Handle) ∷
    by.Cpu (cpu 0) (cpus.Begin (dev 1)) ∷
    by.Cpu (cpu 0) (cpus.Return answers.Nothing (dev 1) 1) ∷
    by.Cpu (cpu 0) (cpus.End false true notes.Counted) ∷ []

pub glitch_is_legal : IsLegal glitch_line glitch_log
glitch_is_legal = (refl, (refl, (refl, (refl, (refl, (refl, tt))))))

-- no actor of the line has a due entry
pub glitch_is_still :
    (next glitch_line glitch_log (actors.Cpu (cpu 0)) ≡ None)
    × (next glitch_line glitch_log (actors.Driver (driver 1)) ≡ None)
    × (next glitch_line glitch_log (actors.Driver (driver 2)) ≡ None)
    × (next glitch_line glitch_log (actors.Thread (dev 1)) ≡ None)
glitch_is_still = (refl, refl, refl, refl)

-- A told device that claims, and then serves: the level stays high until it does.
abbrev pub claiming_line : LineDef
claiming_line = record level {
  devices = device 1 (kinds.Told false) ∷ [];
  told =
      (dev 1, parts.Primary, tolds.Claims) ∷
      (dev 1, parts.Primary, tolds.Handled) ∷ [];
  calls =
      (driver 1, calls.Request (dev 1) no_flags) ∷
      (driver 2, calls.Ask (dev 1)) ∷ [];
}

abbrev pub claiming_log : List Entry
claiming_log =
    by.Driver (driver 1) (drivers.Request no_flags links.Linked (opens.Started resends.No) (dev 1)) ∷
    by.Driver (driver 2) (drivers.Ask true (dev 1)) ∷
    by.Cpu (cpu 0) (cpus.Take ways.Line takes.Handle) ∷
    by.Cpu (cpu 0) (cpus.Begin (dev 1)) ∷
    by.Cpu (cpu 0) (cpus.Return answers.Handled (dev 1) 0) ∷
    by.Cpu (cpu 0) (cpus.End false true notes.Quiet) ∷
    by.Cpu (cpu 0) (cpus.Take ways.Line takes.Handle) ∷
    by.Cpu (cpu 0) (cpus.Begin (dev 1)) ∷
    by.Cpu (cpu 0) (cpus.Return answers.Handled (dev 1) 1) ∷
    by.Cpu (cpu 0) (cpus.End false true notes.Quiet) ∷ []

pub claiming_is_legal : IsLegal claiming_line claiming_log
claiming_is_legal = (refl, (refl, (refl, (refl, (refl, (refl, (refl, (refl, (refl, (refl, tt))))))))))

-- no actor of the line has a due entry
pub claiming_is_still :
    (next claiming_line claiming_log (actors.Cpu (cpu 0)) ≡ None)
    × (next claiming_line claiming_log (actors.Driver (driver 1)) ≡ None)
    × (next claiming_line claiming_log (actors.Driver (driver 2)) ≡ None)
    × (next claiming_line claiming_log (actors.Thread (dev 1)) ≡ None)
claiming_is_still = (refl, refl, refl, refl)

-- After its last answer a told device answers nothing.
abbrev pub told_out_line : LineDef
told_out_line = record latch {
  devices = device 1 (kinds.Told false) ∷ [];
  told =
      (dev 1, parts.Primary, tolds.Handled) ∷ [];
  calls =
      (driver 1, calls.Request (dev 1) no_flags) ∷
      (driver 2, calls.Ask (dev 1)) ∷
      (driver 2, calls.Ask (dev 1)) ∷ [];
}

abbrev pub told_out_log : List Entry
told_out_log =
    by.Driver (driver 1) (drivers.Request no_flags links.Linked (opens.Started resends.No) (dev 1)) ∷
    by.Driver (driver 2) (drivers.Ask true (dev 1)) ∷
    by.Cpu (cpu 0) (cpus.Take ways.Line takes.Handle) ∷
    by.Cpu (cpu 0) (cpus.Begin (dev 1)) ∷
    by.Cpu (cpu 0) (cpus.Return answers.Handled (dev 1) 1) ∷
    by.Cpu (cpu 0) (cpus.End false false notes.Quiet) ∷
    by.Driver (driver 2) (drivers.Ask true (dev 1)) ∷
    by.Cpu (cpu 0) (cpus.Take ways.Line takes.Handle) ∷
    by.Cpu (cpu 0) (cpus.Begin (dev 1)) ∷
    by.Cpu (cpu 0) (cpus.Return answers.Nothing (dev 1) 0) ∷
    by.Cpu (cpu 0) (cpus.End false false notes.Counted) ∷ []

pub told_out_is_legal : IsLegal told_out_line told_out_log
told_out_is_legal = (refl, (refl, (refl, (refl, (refl, (refl, (refl, (refl, (refl, (refl, (refl, tt)))))))))))

-- no actor of the line has a due entry
pub told_out_is_still :
    (next told_out_line told_out_log (actors.Cpu (cpu 0)) ≡ None)
    × (next told_out_line told_out_log (actors.Driver (driver 1)) ≡ None)
    × (next told_out_line told_out_log (actors.Driver (driver 2)) ≡ None)
    × (next told_out_line told_out_log (actors.Thread (dev 1)) ≡ None)
told_out_is_still = (refl, refl, refl, refl)

pub told_out_is_unserved : unserved_asks told_out_line (dev 1) (reverse told_out_log) ≡ 1
told_out_is_unserved = refl

-- `synchronize_hardirq` and `disable_hardirq` of a driver.
abbrev pub hard_cleared_line : LineDef
hard_cleared_line = record latch {
  devices = device 1 kinds.Check ∷ [];
  calls =
      (driver 1, calls.Request (dev 1) no_flags) ∷
      (driver 1, calls.SyncHard) ∷
      (driver 1, calls.DisableHard) ∷ [];
}

abbrev pub hard_cleared_log : List Entry
hard_cleared_log =
    by.Driver (driver 1) (drivers.Request no_flags links.Linked (opens.Started resends.No) (dev 1)) ∷
    by.DriverCall (driver 1) called.HardClear ∷
    by.DriverCall (driver 1) called.Disable ∷
    by.DriverCall (driver 1) called.HardClear ∷ []

pub hard_cleared_is_legal : IsLegal hard_cleared_line hard_cleared_log
hard_cleared_is_legal = (refl, (refl, (refl, (refl, tt))))

-- no actor of the line has a due entry
pub hard_cleared_is_still :
    (next hard_cleared_line hard_cleared_log (actors.Cpu (cpu 0)) ≡ None)
    × (next hard_cleared_line hard_cleared_log (actors.Driver (driver 1)) ≡ None)
    × (next hard_cleared_line hard_cleared_log (actors.Driver (driver 2)) ≡ None)
    × (next hard_cleared_line hard_cleared_log (actors.Thread (dev 1)) ≡ None)
hard_cleared_is_still = (refl, refl, refl, refl)

-- A thread that synchronises its own line waits for itself.
abbrev pub own_sync_line : LineDef
own_sync_line = record latch {
  devices = device 1 kinds.Check ∷ [];
  runs =
      (dev 1, parts.Thread, calls.Sync) ∷ [];
  calls =
      (driver 1, calls.Request (dev 1) no_flags) ∷
      (driver 2, calls.Ask (dev 1)) ∷ [];
}

abbrev pub own_sync_log : List Entry
own_sync_log =
    by.Driver (driver 1) (drivers.Request no_flags links.Linked (opens.Started resends.No) (dev 1)) ∷
    by.Driver (driver 2) (drivers.Ask true (dev 1)) ∷
    by.Cpu (cpu 0) (cpus.Take ways.Line takes.Handle) ∷
    by.Cpu (cpu 0) (cpus.Begin (dev 1)) ∷
    by.Cpu (cpu 0) (cpus.Return answers.Wake (dev 1) 0) ∷
    by.Cpu (cpu 0) (cpus.End false false notes.Quiet) ∷
    by.Thread (dev 1) threads.Begin ∷
    by.ThreadCall (dev 1) called.HardClear ∷ []

pub own_sync_is_legal : IsLegal own_sync_line own_sync_log
own_sync_is_legal = (refl, (refl, (refl, (refl, (refl, (refl, (refl, (refl, tt))))))))

-- no actor of the line has a due entry
pub own_sync_is_still :
    (next own_sync_line own_sync_log (actors.Cpu (cpu 0)) ≡ None)
    × (next own_sync_line own_sync_log (actors.Driver (driver 1)) ≡ None)
    × (next own_sync_line own_sync_log (actors.Driver (driver 2)) ≡ None)
    × (next own_sync_line own_sync_log (actors.Thread (dev 1)) ≡ None)
own_sync_is_still = (refl, refl, refl, refl)

pub own_sync_hangs : IsHungPast own_sync_line (reverse own_sync_log) (actors.Thread (dev 1))
own_sync_hangs = (zero, (refl, refl))

-- A handler that disables its own line and waits spins for its own flow.
abbrev pub own_disable_line : LineDef
own_disable_line = record latch {
  devices = device 1 kinds.Check ∷ [];
  runs =
      (dev 1, parts.Primary, calls.Disable) ∷ [];
  calls =
      (driver 1, calls.Request (dev 1) no_flags) ∷
      (driver 2, calls.Ask (dev 1)) ∷ [];
}

abbrev pub own_disable_log : List Entry
own_disable_log =
    by.Driver (driver 1) (drivers.Request no_flags links.Linked (opens.Started resends.No) (dev 1)) ∷
    by.Driver (driver 2) (drivers.Ask true (dev 1)) ∷
    by.Cpu (cpu 0) (cpus.Take ways.Line takes.Handle) ∷
    by.Cpu (cpu 0) (cpus.Begin (dev 1)) ∷
    by.CpuCall (cpu 0) called.Disable ∷ []

pub own_disable_is_legal : IsLegal own_disable_line own_disable_log
own_disable_is_legal = (refl, (refl, (refl, (refl, (refl, tt)))))

-- no actor of the line has a due entry
pub own_disable_is_still :
    (next own_disable_line own_disable_log (actors.Cpu (cpu 0)) ≡ None)
    × (next own_disable_line own_disable_log (actors.Driver (driver 1)) ≡ None)
    × (next own_disable_line own_disable_log (actors.Driver (driver 2)) ≡ None)
    × (next own_disable_line own_disable_log (actors.Thread (dev 1)) ≡ None)
own_disable_is_still = (refl, refl, refl, refl)

pub own_disable_hangs : IsHungPast own_disable_line (reverse own_disable_log) (actors.Cpu (cpu 0))
own_disable_hangs = (zero, (refl, refl))

-- A thread that frees its own device waits for its own end; a driver that wants the mutex is held up.
abbrev pub own_free_line : LineDef
own_free_line = record latch {
  devices = device 1 kinds.Check ∷ [];
  runs =
      (dev 1, parts.Thread, calls.Free (dev 1)) ∷ [];
  calls =
      (driver 1, calls.Request (dev 1) no_flags) ∷
      (driver 2, calls.Ask (dev 1)) ∷
      (driver 1, calls.Free (dev 1)) ∷ [];
}

abbrev pub own_free_log : List Entry
own_free_log =
    by.Driver (driver 1) (drivers.Request no_flags links.Linked (opens.Started resends.No) (dev 1)) ∷
    by.Driver (driver 2) (drivers.Ask true (dev 1)) ∷
    by.Cpu (cpu 0) (cpus.Take ways.Line takes.Handle) ∷
    by.Cpu (cpu 0) (cpus.Begin (dev 1)) ∷
    by.Cpu (cpu 0) (cpus.Return answers.Wake (dev 1) 0) ∷
    by.Cpu (cpu 0) (cpus.End false false notes.Quiet) ∷
    by.Thread (dev 1) threads.Begin ∷
    by.ThreadCall (dev 1) (called.Unlink (unlinks.Unlinked true) (dev 1)) ∷
    by.ThreadCall (dev 1) called.HardClear ∷ []

pub own_free_is_legal : IsLegal own_free_line own_free_log
own_free_is_legal = (refl, (refl, (refl, (refl, (refl, (refl, (refl, (refl, (refl, tt)))))))))

-- no actor of the line has a due entry
pub own_free_is_still :
    (next own_free_line own_free_log (actors.Cpu (cpu 0)) ≡ None)
    × (next own_free_line own_free_log (actors.Driver (driver 1)) ≡ None)
    × (next own_free_line own_free_log (actors.Driver (driver 2)) ≡ None)
    × (next own_free_line own_free_log (actors.Thread (dev 1)) ≡ None)
own_free_is_still = (refl, refl, refl, refl)

pub own_free_hangs : IsHungPast own_free_line (reverse own_free_log) (actors.Thread (dev 1))
own_free_hangs = (zero, (refl, (refl, refl)))

pub own_free_holds_up : IsHeldUpPast own_free_line (reverse own_free_log) (actors.Driver (driver 1))
own_free_holds_up = (zero, actors.Thread (dev 1), (refl, refl), own_free_hangs)
