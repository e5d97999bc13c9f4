-- Worked histories of lines with threads.
use Rattle.std.specs.Prelude.{◌≡◌, List, [], ◌∷◌, refl, true, false, None}
use Rattle.irq_base.specs.declared.calls.Call.TheVariants as calls
use Rattle.irq_base.specs.declared.devices.Kind.TheVariants as kinds
use Rattle.irq_base.specs.declared.devices.Answer.TheVariants as answers
use Rattle.irq_base.specs.declared.lines.LineDef.{LineDef}
use Rattle.irq_base.specs.declared.entries.Actor.TheVariants as actors
use Rattle.irq_base.specs.declared.entries.Entry.{Entry}
use Rattle.irq_base.specs.declared.entries.Entry.TheVariants as by
use Rattle.irq_base.specs.declared.entries.CpuEntry.TheVariants as cpus
use Rattle.irq_base.specs.declared.entries.ThreadEntry.TheVariants as threads
use Rattle.irq_base.specs.declared.entries.DriverEntry.TheVariants as drivers
use Rattle.irq_base.specs.declared.entries.CallEntry.TheVariants as called
use Rattle.irq_base.specs.declared.entries.Way.TheVariants as ways
use Rattle.irq_base.specs.declared.entries.TakeAnswer.TheVariants as takes
use Rattle.irq_base.specs.declared.entries.Note.TheVariants as notes
use Rattle.irq_base.specs.declared.entries.Resend.TheVariants as resends
use Rattle.irq_base.specs.declared.entries.EnableAnswer.TheVariants as enables
use Rattle.irq_base.specs.declared.entries.Opened.TheVariants as opens
use Rattle.irq_base.specs.declared.entries.LinkAnswer.TheVariants as links
use Rattle.irq_model.specs.Legal.{IsLegal}
use Rattle.irq_model.specs.Next.{next}
use Rattle.irq_model.proofs.RowWords.{line, cpu, dev, driver, device, oneshot, shared_oneshot, latch, level, eoi}

-- One-shot with two threads: the last finish opens the line.
abbrev pub two_threads_line : LineDef
two_threads_line = record level {
  devices = device 1 kinds.Null ∷ device 2 kinds.Null ∷ [];
  calls =
      (driver 1, calls.Request (dev 1) shared_oneshot) ∷
      (driver 1, calls.Request (dev 2) shared_oneshot) ∷
      (driver 1, calls.Ask (dev 1)) ∷ [];
}

abbrev pub two_threads_log : List Entry
two_threads_log =
    by.Driver (driver 1) (drivers.Request shared_oneshot links.Linked (opens.Started resends.No) (dev 1)) ∷
    by.Driver (driver 1) (drivers.Request shared_oneshot links.Linked opens.No (dev 2)) ∷
    by.Driver (driver 1) (drivers.Ask true (dev 1)) ∷
    by.Cpu (cpu 0) (cpus.Take ways.Line takes.Handle) ∷
    by.Cpu (cpu 0) (cpus.Begin (dev 1)) ∷
    by.Cpu (cpu 0) (cpus.Return answers.Wake (dev 1) 0) ∷
    by.Thread (dev 1) threads.Begin ∷
    by.Thread (dev 1) (threads.Return true 1) ∷
    by.Cpu (cpu 0) (cpus.Begin (dev 2)) ∷
    by.Cpu (cpu 0) (cpus.Return answers.Wake (dev 2) 0) ∷
    by.Thread (dev 2) threads.Begin ∷
    by.Thread (dev 2) (threads.Return false 0) ∷
    by.Cpu (cpu 0) (cpus.End false false notes.Quiet) ∷
    by.Thread (dev 1) (threads.Finish false false) ∷
    by.Thread (dev 1) threads.Done ∷
    by.Thread (dev 2) (threads.Finish false true) ∷
    by.Thread (dev 2) threads.Done ∷ []

pub two_threads_is_legal : IsLegal two_threads_line two_threads_log
two_threads_is_legal = (
  refl,
  (
    refl,
    (
      refl,
      (
        refl,
        (
          refl,
          (refl, (refl, (refl, (refl, (refl, (refl, (refl, (refl, (refl, (refl, (refl, (refl, tt)))))))))))),
        ),
      ),
    ),
  ),
)

-- no actor of the line has a due entry
pub two_threads_is_still :
    (next two_threads_line two_threads_log (actors.Cpu (cpu 0)) ≡ None)
    × (next two_threads_line two_threads_log (actors.Driver (driver 1)) ≡ None)
    × (next two_threads_line two_threads_log (actors.Thread (dev 1)) ≡ None)
    × (next two_threads_line two_threads_log (actors.Thread (dev 2)) ≡ None)
two_threads_is_still = (refl, refl, refl, refl)

-- a finish waits for the flow: after the thread's return nothing is due for it
abbrev pub waiting_log : List Entry
waiting_log =
    by.Driver (driver 1) (drivers.Request shared_oneshot links.Linked (opens.Started resends.No) (dev 1)) ∷
    by.Driver (driver 1) (drivers.Request shared_oneshot links.Linked opens.No (dev 2)) ∷
    by.Driver (driver 1) (drivers.Ask true (dev 1)) ∷
    by.Cpu (cpu 0) (cpus.Take ways.Line takes.Handle) ∷
    by.Cpu (cpu 0) (cpus.Begin (dev 1)) ∷
    by.Cpu (cpu 0) (cpus.Return answers.Wake (dev 1) 0) ∷
    by.Thread (dev 1) threads.Begin ∷
    by.Thread (dev 1) (threads.Return true 1) ∷ []

pub waiting_is_legal : IsLegal two_threads_line waiting_log
waiting_is_legal = (refl, (refl, (refl, (refl, (refl, (refl, (refl, (refl, tt))))))))

pub finish_waits : next two_threads_line waiting_log (actors.Thread (dev 1)) ≡ None
finish_waits = refl

-- A thread that is woken while it runs keeps its bit, and runs once more.
abbrev pub woken_again_line : LineDef
woken_again_line = record latch {
  devices = device 1 kinds.Check ∷ [];
  calls =
      (driver 1, calls.Request (dev 1) oneshot) ∷
      (driver 1, calls.Ask (dev 1)) ∷
      (driver 1, calls.Ask (dev 1)) ∷ [];
}

abbrev pub woken_again_log : List Entry
woken_again_log =
    by.Driver (driver 1) (drivers.Request oneshot links.Linked (opens.Started resends.No) (dev 1)) ∷
    by.Driver (driver 1) (drivers.Ask true (dev 1)) ∷
    by.Cpu (cpu 0) (cpus.Take ways.Line takes.Handle) ∷
    by.Cpu (cpu 0) (cpus.Begin (dev 1)) ∷
    by.Cpu (cpu 0) (cpus.Return answers.Wake (dev 1) 0) ∷
    by.Cpu (cpu 0) (cpus.End false false notes.Quiet) ∷
    by.Thread (dev 1) threads.Begin ∷
    by.Driver (driver 1) (drivers.Ask true (dev 1)) ∷
    by.Cpu (cpu 0) (cpus.Take ways.Line takes.Handle) ∷
    by.Cpu (cpu 0) (cpus.Begin (dev 1)) ∷
    by.Cpu (cpu 0) (cpus.Return answers.Wake (dev 1) 0) ∷
    by.Cpu (cpu 0) (cpus.End false false notes.Counted) ∷
    by.Thread (dev 1) (threads.Return true 1) ∷
    by.Thread (dev 1) (threads.Finish true false) ∷
    by.Thread (dev 1) threads.Done ∷
    by.Thread (dev 1) threads.Begin ∷
    by.Thread (dev 1) (threads.Return true 1) ∷
    by.Thread (dev 1) (threads.Finish false false) ∷
    by.Thread (dev 1) threads.Done ∷ []

pub woken_again_is_legal : IsLegal woken_again_line woken_again_log
woken_again_is_legal = (
  refl,
  (
    refl,
    (
      refl,
      (
        refl,
        (
          refl,
          (
            refl,
            (
              refl,
              (
                refl,
                (
                  refl,
                  (
                    refl,
                    (
                      refl,
                      (
                        refl,
                        (
                          refl,
                          (refl, (refl, (refl, (refl, (refl, (refl, tt)))))),
                        ),
                      ),
                    ),
                  ),
                ),
              ),
            ),
          ),
        ),
      ),
    ),
  ),
)

-- no actor of the line has a due entry
pub woken_again_is_still :
    (next woken_again_line woken_again_log (actors.Cpu (cpu 0)) ≡ None)
    × (next woken_again_line woken_again_log (actors.Driver (driver 1)) ≡ None)
    × (next woken_again_line woken_again_log (actors.Thread (dev 1)) ≡ None)
woken_again_is_still = (refl, refl, refl)

-- An enable opens a level line over a one-shot thread that runs.
abbrev pub enabled_thread_line : LineDef
enabled_thread_line = record level {
  devices = device 1 kinds.Null ∷ [];
  calls =
      (driver 1, calls.Request (dev 1) oneshot) ∷
      (driver 1, calls.Ask (dev 1)) ∷
      (driver 1, calls.DisableNosync) ∷
      (driver 1, calls.Enable) ∷ [];
}

abbrev pub enabled_thread_log : List Entry
enabled_thread_log =
    by.Driver (driver 1) (drivers.Request oneshot links.Linked (opens.Started resends.No) (dev 1)) ∷
    by.Driver (driver 1) (drivers.Ask true (dev 1)) ∷
    by.Cpu (cpu 0) (cpus.Take ways.Line takes.Handle) ∷
    by.Cpu (cpu 0) (cpus.Begin (dev 1)) ∷
    by.Cpu (cpu 0) (cpus.Return answers.Wake (dev 1) 0) ∷
    by.Cpu (cpu 0) (cpus.End false false notes.Quiet) ∷
    by.Thread (dev 1) threads.Begin ∷
    by.DriverCall (driver 1) called.Disable ∷
    by.DriverCall (driver 1) (called.Enable (enables.Started resends.No)) ∷
    by.Cpu (cpu 0) (cpus.Take ways.Line takes.Handle) ∷
    by.Cpu (cpu 0) (cpus.Begin (dev 1)) ∷
    by.Cpu (cpu 0) (cpus.Return answers.Wake (dev 1) 0) ∷
    by.Cpu (cpu 0) (cpus.End false false notes.Counted) ∷
    by.Thread (dev 1) (threads.Return true 1) ∷
    by.Thread (dev 1) (threads.Finish true false) ∷
    by.Thread (dev 1) threads.Done ∷
    by.Thread (dev 1) threads.Begin ∷
    by.Thread (dev 1) (threads.Return false 0) ∷
    by.Thread (dev 1) (threads.Finish false true) ∷
    by.Thread (dev 1) threads.Done ∷ []

pub enabled_thread_is_legal : IsLegal enabled_thread_line enabled_thread_log
enabled_thread_is_legal = (
  refl,
  (
    refl,
    (
      refl,
      (
        refl,
        (
          refl,
          (
            refl,
            (
              refl,
              (
                refl,
                (
                  refl,
                  (
                    refl,
                    (
                      refl,
                      (
                        refl,
                        (
                          refl,
                          (refl, (refl, (refl, (refl, (refl, (refl, (refl, tt))))))),
                        ),
                      ),
                    ),
                  ),
                ),
              ),
            ),
          ),
        ),
      ),
    ),
  ),
)

-- no actor of the line has a due entry
pub enabled_thread_is_still :
    (next enabled_thread_line enabled_thread_log (actors.Cpu (cpu 0)) ≡ None)
    × (next enabled_thread_line enabled_thread_log (actors.Driver (driver 1)) ≡ None)
    × (next enabled_thread_line enabled_thread_log (actors.Thread (dev 1)) ≡ None)
enabled_thread_is_still = (refl, refl, refl)

-- One-shot with the fast-EOI flow: the take masks the line, and the thread's finish opens it. An
-- ask that came while the thread ran is taken then.
abbrev pub eoi_thread_line : LineDef
eoi_thread_line = record eoi {
  devices = device 1 kinds.Null ∷ [];
  calls =
      (driver 1, calls.Request (dev 1) oneshot) ∷
      (driver 1, calls.Ask (dev 1)) ∷
      (driver 1, calls.Ask (dev 1)) ∷ [];
}

abbrev pub eoi_thread_log : List Entry
eoi_thread_log =
    by.Driver (driver 1) (drivers.Request oneshot links.Linked (opens.Started resends.No) (dev 1)) ∷
    by.Driver (driver 1) (drivers.Ask true (dev 1)) ∷
    by.Cpu (cpu 0) (cpus.Take ways.Line takes.Handle) ∷
    by.Cpu (cpu 0) (cpus.Begin (dev 1)) ∷
    by.Cpu (cpu 0) (cpus.Return answers.Wake (dev 1) 0) ∷
    by.Cpu (cpu 0) (cpus.End false false notes.Quiet) ∷
    by.Thread (dev 1) threads.Begin ∷
    by.Driver (driver 1) (drivers.Ask true (dev 1)) ∷
    by.Thread (dev 1) (threads.Return true 1) ∷
    by.Thread (dev 1) (threads.Finish false true) ∷
    by.Thread (dev 1) threads.Done ∷
    by.Cpu (cpu 0) (cpus.Take ways.Line takes.Handle) ∷
    by.Cpu (cpu 0) (cpus.Begin (dev 1)) ∷
    by.Cpu (cpu 0) (cpus.Return answers.Wake (dev 1) 0) ∷
    by.Cpu (cpu 0) (cpus.End false false notes.Quiet) ∷
    by.Thread (dev 1) threads.Begin ∷
    by.Thread (dev 1) (threads.Return true 1) ∷
    by.Thread (dev 1) (threads.Finish false true) ∷
    by.Thread (dev 1) threads.Done ∷ []

pub eoi_thread_is_legal : IsLegal eoi_thread_line eoi_thread_log
eoi_thread_is_legal = (
  refl,
  (
    refl,
    (
      refl,
      (
        refl,
        (
          refl,
          (
            refl,
            (
              refl,
              (
                refl,
                (
                  refl,
                  (
                    refl,
                    (
                      refl,
                      (
                        refl,
                        (
                          refl,
                          (refl, (refl, (refl, (refl, (refl, (refl, tt)))))),
                        ),
                      ),
                    ),
                  ),
                ),
              ),
            ),
          ),
        ),
      ),
    ),
  ),
)

-- no actor of the line has a due entry
pub eoi_thread_is_still :
    (next eoi_thread_line eoi_thread_log (actors.Cpu (cpu 0)) ≡ None)
    × (next eoi_thread_line eoi_thread_log (actors.Driver (driver 1)) ≡ None)
    × (next eoi_thread_line eoi_thread_log (actors.Thread (dev 1)) ≡ None)
eoi_thread_is_still = (refl, refl, refl)
