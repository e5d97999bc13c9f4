-- Worked histories of level lines, and of the rule on spurious interrupts.
use Rattle.std.specs.Prelude.{◌≡◌, List, [], ◌∷◌, refl, true, false, None}
use Rattle.irq_base.specs.declared.calls.Call.TheVariants as calls
use Rattle.irq_base.specs.declared.devices.Kind.TheVariants as kinds
use Rattle.irq_base.specs.declared.devices.Answer.TheVariants as answers
use Rattle.irq_base.specs.declared.lines.LineDef.{LineDef}
use Rattle.irq_base.specs.declared.entries.Actor.TheVariants as actors
use Rattle.irq_base.specs.declared.entries.Entry.{Entry}
use Rattle.irq_base.specs.declared.entries.Entry.TheVariants as by
use Rattle.irq_base.specs.declared.entries.CpuEntry.TheVariants as cpus
use Rattle.irq_base.specs.declared.entries.DriverEntry.TheVariants as drivers
use Rattle.irq_base.specs.declared.entries.CallEntry.TheVariants as called
use Rattle.irq_base.specs.declared.entries.Way.TheVariants as ways
use Rattle.irq_base.specs.declared.entries.TakeAnswer.TheVariants as takes
use Rattle.irq_base.specs.declared.entries.Note.TheVariants as notes
use Rattle.irq_base.specs.declared.entries.Resend.TheVariants as resends
use Rattle.irq_base.specs.declared.entries.EnableAnswer.TheVariants as enables
use Rattle.irq_base.specs.declared.entries.Opened.TheVariants as opens
use Rattle.irq_base.specs.declared.entries.LinkAnswer.TheVariants as links
use Rattle.irq_model.specs.Legal.{IsLegal}
use Rattle.irq_model.specs.Bounds.{bound}
use Rattle.irq_model.specs.Next.{next}
use Rattle.irq_model.proofs.RowWords.{cpu, dev, driver, device, no_flags, shared, level}

-- A level that is still high after the end is taken again.
abbrev pub retaken_line : LineDef
retaken_line = record level {
  devices = device 1 kinds.Direct ∷ device 2 kinds.Direct ∷ [];
  calls =
      (driver 1, calls.Request (dev 1) shared) ∷
      (driver 1, calls.Request (dev 2) shared) ∷
      (driver 1, calls.Ask (dev 2)) ∷
      (driver 1, calls.Ask (dev 1)) ∷ [];
}

abbrev pub retaken_log : List Entry
retaken_log =
    by.Driver (driver 1) (drivers.Request shared links.Linked (opens.Started resends.No) (dev 1)) ∷
    by.Driver (driver 1) (drivers.Request shared links.Linked opens.No (dev 2)) ∷
    by.Driver (driver 1) (drivers.Ask true (dev 2)) ∷
    by.Cpu (cpu 0) (cpus.Take ways.Line takes.Handle) ∷
    by.Cpu (cpu 0) (cpus.Begin (dev 1)) ∷
    by.Cpu (cpu 0) (cpus.Return answers.Nothing (dev 1) 0) ∷
    by.Driver (driver 1) (drivers.Ask true (dev 1)) ∷
    by.Cpu (cpu 0) (cpus.Begin (dev 2)) ∷
    by.Cpu (cpu 0) (cpus.Return answers.Handled (dev 2) 1) ∷
    by.Cpu (cpu 0) (cpus.End false true notes.Quiet) ∷
    by.Cpu (cpu 0) (cpus.Take ways.Line takes.Handle) ∷
    by.Cpu (cpu 0) (cpus.Begin (dev 1)) ∷
    by.Cpu (cpu 0) (cpus.Return answers.Handled (dev 1) 1) ∷
    by.Cpu (cpu 0) (cpus.Begin (dev 2)) ∷
    by.Cpu (cpu 0) (cpus.Return answers.Nothing (dev 2) 0) ∷
    by.Cpu (cpu 0) (cpus.End false true notes.Quiet) ∷ []

pub retaken_is_legal : IsLegal retaken_line retaken_log
retaken_is_legal = (refl, (refl, (refl, (refl, (refl, (refl, (refl, (refl, (refl, (refl, (refl, (refl, (refl, (refl, (refl, (refl, tt))))))))))))))))

-- no actor of the line has a due entry
pub retaken_is_still :
    (next retaken_line retaken_log (actors.Cpu (cpu 0)) ≡ None)
    × (next retaken_line retaken_log (actors.Driver (driver 1)) ≡ None)
retaken_is_still = (refl, refl)

-- A small storm: the third unhandled end of the window kills the line; a further request opens it,
-- and it is killed again.
abbrev pub storm_line : LineDef
storm_line = record level {
  window = 3;
  limit = 2;
  devices = device 1 kinds.Stuck ∷ device 2 kinds.Direct ∷ [];
  calls =
      (driver 1, calls.Request (dev 1) shared) ∷
      (driver 1, calls.Ask (dev 1)) ∷
      (driver 1, calls.Request (dev 2) shared) ∷ [];
}

abbrev pub storm_log : List Entry
storm_log =
    by.Driver (driver 1) (drivers.Request shared links.Linked (opens.Started resends.No) (dev 1)) ∷
    by.Driver (driver 1) (drivers.Ask true (dev 1)) ∷
    by.Cpu (cpu 0) (cpus.Take ways.Line takes.Handle) ∷
    by.Cpu (cpu 0) (cpus.Begin (dev 1)) ∷
    by.Cpu (cpu 0) (cpus.Return answers.Nothing (dev 1) 0) ∷
    by.Cpu (cpu 0) (cpus.End false true notes.Counted) ∷
    by.Cpu (cpu 0) (cpus.Take ways.Line takes.Handle) ∷
    by.Cpu (cpu 0) (cpus.Begin (dev 1)) ∷
    by.Cpu (cpu 0) (cpus.Return answers.Nothing (dev 1) 0) ∷
    by.Cpu (cpu 0) (cpus.End false true notes.Counted) ∷
    by.Cpu (cpu 0) (cpus.Take ways.Line takes.Handle) ∷
    by.Cpu (cpu 0) (cpus.Begin (dev 1)) ∷
    by.Cpu (cpu 0) (cpus.Return answers.Nothing (dev 1) 0) ∷
    by.Cpu (cpu 0) (cpus.End false false notes.Killed) ∷
    by.Driver (driver 1) (drivers.Request shared links.Linked (opens.Started resends.No) (dev 2)) ∷
    by.Cpu (cpu 0) (cpus.Take ways.Line takes.Handle) ∷
    by.Cpu (cpu 0) (cpus.Begin (dev 1)) ∷
    by.Cpu (cpu 0) (cpus.Return answers.Nothing (dev 1) 0) ∷
    by.Cpu (cpu 0) (cpus.Begin (dev 2)) ∷
    by.Cpu (cpu 0) (cpus.Return answers.Nothing (dev 2) 0) ∷
    by.Cpu (cpu 0) (cpus.End false true notes.Counted) ∷
    by.Cpu (cpu 0) (cpus.Take ways.Line takes.Handle) ∷
    by.Cpu (cpu 0) (cpus.Begin (dev 1)) ∷
    by.Cpu (cpu 0) (cpus.Return answers.Nothing (dev 1) 0) ∷
    by.Cpu (cpu 0) (cpus.Begin (dev 2)) ∷
    by.Cpu (cpu 0) (cpus.Return answers.Nothing (dev 2) 0) ∷
    by.Cpu (cpu 0) (cpus.End false true notes.Counted) ∷
    by.Cpu (cpu 0) (cpus.Take ways.Line takes.Handle) ∷
    by.Cpu (cpu 0) (cpus.Begin (dev 1)) ∷
    by.Cpu (cpu 0) (cpus.Return answers.Nothing (dev 1) 0) ∷
    by.Cpu (cpu 0) (cpus.Begin (dev 2)) ∷
    by.Cpu (cpu 0) (cpus.Return answers.Nothing (dev 2) 0) ∷
    by.Cpu (cpu 0) (cpus.End false false notes.Killed) ∷ []

pub storm_is_legal : IsLegal storm_line storm_log
storm_is_legal = (
  refl,
  (
    refl,
    (
      refl,
      (
        refl,
        (
          refl,
          (
            refl,
            (
              refl,
              (
                refl,
                (
                  refl,
                  (
                    refl,
                    (
                      refl,
                      (
                        refl,
                        (
                          refl,
                          (
                            refl,
                            (
                              refl,
                              (
                                refl,
                                (
                                  refl,
                                  (
                                    refl,
                                    (
                                      refl,
                                      (
                                        refl,
                                        (
                                          refl,
                                          (
                                            refl,
                                            (refl, (refl, (refl, (refl, (refl, (refl, (refl, (refl, (refl, (refl, (refl, tt))))))))))),
                                          ),
                                        ),
                                      ),
                                    ),
                                  ),
                                ),
                              ),
                            ),
                          ),
                        ),
                      ),
                    ),
                  ),
                ),
              ),
            ),
          ),
        ),
      ),
    ),
  ),
)

-- no actor of the line has a due entry
pub storm_is_still :
    (next storm_line storm_log (actors.Cpu (cpu 0)) ≡ None)
    × (next storm_line storm_log (actors.Driver (driver 1)) ≡ None)
storm_is_still = (refl, refl)

-- with a window of 10: two devices, one ask and two other calls
pub storm_bound : bound (record storm_line { window = 10 }) ≡ 2000
storm_bound = refl

-- A killed line that was enabled before the further request: the request finds it enabled.
abbrev pub enabled_storm_line : LineDef
enabled_storm_line = record level {
  window = 3;
  limit = 2;
  devices = device 1 kinds.Stuck ∷ device 2 kinds.Direct ∷ [];
  calls =
      (driver 1, calls.Request (dev 1) shared) ∷
      (driver 1, calls.Ask (dev 1)) ∷
      (driver 1, calls.Enable) ∷
      (driver 1, calls.Request (dev 2) shared) ∷ [];
}

abbrev pub enabled_storm_log : List Entry
enabled_storm_log =
    by.Driver (driver 1) (drivers.Request shared links.Linked (opens.Started resends.No) (dev 1)) ∷
    by.Driver (driver 1) (drivers.Ask true (dev 1)) ∷
    by.Cpu (cpu 0) (cpus.Take ways.Line takes.Handle) ∷
    by.Cpu (cpu 0) (cpus.Begin (dev 1)) ∷
    by.Cpu (cpu 0) (cpus.Return answers.Nothing (dev 1) 0) ∷
    by.Cpu (cpu 0) (cpus.End false true notes.Counted) ∷
    by.Cpu (cpu 0) (cpus.Take ways.Line takes.Handle) ∷
    by.Cpu (cpu 0) (cpus.Begin (dev 1)) ∷
    by.Cpu (cpu 0) (cpus.Return answers.Nothing (dev 1) 0) ∷
    by.Cpu (cpu 0) (cpus.End false true notes.Counted) ∷
    by.Cpu (cpu 0) (cpus.Take ways.Line takes.Handle) ∷
    by.Cpu (cpu 0) (cpus.Begin (dev 1)) ∷
    by.Cpu (cpu 0) (cpus.Return answers.Nothing (dev 1) 0) ∷
    by.Cpu (cpu 0) (cpus.End false false notes.Killed) ∷
    by.DriverCall (driver 1) (called.Enable (enables.Started resends.No)) ∷
    by.Driver (driver 1) (drivers.Request shared links.Linked opens.Unbalanced (dev 2)) ∷ []

pub enabled_storm_is_legal : IsLegal enabled_storm_line enabled_storm_log
enabled_storm_is_legal = (refl, (refl, (refl, (refl, (refl, (refl, (refl, (refl, (refl, (refl, (refl, (refl, (refl, (refl, (refl, (refl, tt))))))))))))))))

-- An unhandled interrupt more than 100 ms after the last begins the count of the unhandled anew, so
-- that the first window doesn't kill.
abbrev pub moment_late_line : LineDef
moment_late_line = record level {
  window = 4;
  limit = 2;
  devices = device 1 kinds.Stuck ∷ [];
  calls =
      (driver 1, calls.Request (dev 1) no_flags) ∷
      (driver 1, calls.Ask (dev 1)) ∷
      (driver 1, calls.Moment 101) ∷ [];
}

abbrev pub moment_late_log : List Entry
moment_late_log =
    by.Driver (driver 1) (drivers.Request no_flags links.Linked (opens.Started resends.No) (dev 1)) ∷
    by.Driver (driver 1) (drivers.Ask true (dev 1)) ∷
    by.Cpu (cpu 0) (cpus.Take ways.Line takes.Handle) ∷
    by.Cpu (cpu 0) (cpus.Begin (dev 1)) ∷
    by.Cpu (cpu 0) (cpus.Return answers.Nothing (dev 1) 0) ∷
    by.Cpu (cpu 0) (cpus.End false true notes.Counted) ∷
    by.Cpu (cpu 0) (cpus.Take ways.Line takes.Handle) ∷
    by.Cpu (cpu 0) (cpus.Begin (dev 1)) ∷
    by.Cpu (cpu 0) (cpus.Return answers.Nothing (dev 1) 0) ∷
    by.Cpu (cpu 0) (cpus.End false true notes.Counted) ∷
    by.Driver (driver 1) (drivers.Moment 101) ∷
    by.Cpu (cpu 0) (cpus.Take ways.Line takes.Handle) ∷
    by.Cpu (cpu 0) (cpus.Begin (dev 1)) ∷
    by.Cpu (cpu 0) (cpus.Return answers.Nothing (dev 1) 0) ∷
    by.Cpu (cpu 0) (cpus.End false true notes.Counted) ∷
    by.Cpu (cpu 0) (cpus.Take ways.Line takes.Handle) ∷
    by.Cpu (cpu 0) (cpus.Begin (dev 1)) ∷
    by.Cpu (cpu 0) (cpus.Return answers.Nothing (dev 1) 0) ∷
    by.Cpu (cpu 0) (cpus.End false true notes.Counted) ∷
    by.Cpu (cpu 0) (cpus.Take ways.Line takes.Handle) ∷
    by.Cpu (cpu 0) (cpus.Begin (dev 1)) ∷
    by.Cpu (cpu 0) (cpus.Return answers.Nothing (dev 1) 0) ∷
    by.Cpu (cpu 0) (cpus.End false true notes.Counted) ∷
    by.Cpu (cpu 0) (cpus.Take ways.Line takes.Handle) ∷
    by.Cpu (cpu 0) (cpus.Begin (dev 1)) ∷
    by.Cpu (cpu 0) (cpus.Return answers.Nothing (dev 1) 0) ∷
    by.Cpu (cpu 0) (cpus.End false true notes.Counted) ∷
    by.Cpu (cpu 0) (cpus.Take ways.Line takes.Handle) ∷
    by.Cpu (cpu 0) (cpus.Begin (dev 1)) ∷
    by.Cpu (cpu 0) (cpus.Return answers.Nothing (dev 1) 0) ∷
    by.Cpu (cpu 0) (cpus.End false true notes.Counted) ∷
    by.Cpu (cpu 0) (cpus.Take ways.Line takes.Handle) ∷
    by.Cpu (cpu 0) (cpus.Begin (dev 1)) ∷
    by.Cpu (cpu 0) (cpus.Return answers.Nothing (dev 1) 0) ∷
    by.Cpu (cpu 0) (cpus.End false false notes.Killed) ∷ []

pub moment_late_is_legal : IsLegal moment_late_line moment_late_log
moment_late_is_legal = (
  refl,
  (
    refl,
    (
      refl,
      (
        refl,
        (
          refl,
          (
            refl,
            (
              refl,
              (
                refl,
                (
                  refl,
                  (
                    refl,
                    (
                      refl,
                      (
                        refl,
                        (
                          refl,
                          (
                            refl,
                            (
                              refl,
                              (
                                refl,
                                (
                                  refl,
                                  (
                                    refl,
                                    (
                                      refl,
                                      (
                                        refl,
                                        (
                                          refl,
                                          (
                                            refl,
                                            (
                                              refl,
                                              (
                                                refl,
                                                (
                                                  refl,
                                                  (
                                                    refl,
                                                    (
                                                      refl,
                                                      (
                                                        refl,
                                                        (
                                                          refl,
                                                          (refl, (refl, (refl, (refl, (refl, (refl, tt)))))),
                                                        ),
                                                      ),
                                                    ),
                                                  ),
                                                ),
                                              ),
                                            ),
                                          ),
                                        ),
                                      ),
                                    ),
                                  ),
                                ),
                              ),
                            ),
                          ),
                        ),
                      ),
                    ),
                  ),
                ),
              ),
            ),
          ),
        ),
      ),
    ),
  ),
)

-- no actor of the line has a due entry
pub moment_late_is_still :
    (next moment_late_line moment_late_log (actors.Cpu (cpu 0)) ≡ None)
    × (next moment_late_line moment_late_log (actors.Driver (driver 1)) ≡ None)
moment_late_is_still = (refl, refl)

-- At 100 ms it doesn't.
abbrev pub moment_soon_line : LineDef
moment_soon_line = record level {
  window = 4;
  limit = 2;
  devices = device 1 kinds.Stuck ∷ [];
  calls =
      (driver 1, calls.Request (dev 1) no_flags) ∷
      (driver 1, calls.Ask (dev 1)) ∷
      (driver 1, calls.Moment 100) ∷ [];
}

abbrev pub moment_soon_log : List Entry
moment_soon_log =
    by.Driver (driver 1) (drivers.Request no_flags links.Linked (opens.Started resends.No) (dev 1)) ∷
    by.Driver (driver 1) (drivers.Ask true (dev 1)) ∷
    by.Cpu (cpu 0) (cpus.Take ways.Line takes.Handle) ∷
    by.Cpu (cpu 0) (cpus.Begin (dev 1)) ∷
    by.Cpu (cpu 0) (cpus.Return answers.Nothing (dev 1) 0) ∷
    by.Cpu (cpu 0) (cpus.End false true notes.Counted) ∷
    by.Cpu (cpu 0) (cpus.Take ways.Line takes.Handle) ∷
    by.Cpu (cpu 0) (cpus.Begin (dev 1)) ∷
    by.Cpu (cpu 0) (cpus.Return answers.Nothing (dev 1) 0) ∷
    by.Cpu (cpu 0) (cpus.End false true notes.Counted) ∷
    by.Driver (driver 1) (drivers.Moment 100) ∷
    by.Cpu (cpu 0) (cpus.Take ways.Line takes.Handle) ∷
    by.Cpu (cpu 0) (cpus.Begin (dev 1)) ∷
    by.Cpu (cpu 0) (cpus.Return answers.Nothing (dev 1) 0) ∷
    by.Cpu (cpu 0) (cpus.End false true notes.Counted) ∷
    by.Cpu (cpu 0) (cpus.Take ways.Line takes.Handle) ∷
    by.Cpu (cpu 0) (cpus.Begin (dev 1)) ∷
    by.Cpu (cpu 0) (cpus.Return answers.Nothing (dev 1) 0) ∷
    by.Cpu (cpu 0) (cpus.End false false notes.Killed) ∷ []

pub moment_soon_is_legal : IsLegal moment_soon_line moment_soon_log
moment_soon_is_legal = (
  refl,
  (
    refl,
    (
      refl,
      (
        refl,
        (
          refl,
          (
            refl,
            (
              refl,
              (
                refl,
                (
                  refl,
                  (
                    refl,
                    (
                      refl,
                      (
                        refl,
                        (
                          refl,
                          (refl, (refl, (refl, (refl, (refl, (refl, tt)))))),
                        ),
                      ),
                    ),
                  ),
                ),
              ),
            ),
          ),
        ),
      ),
    ),
  ),
)

-- no actor of the line has a due entry
pub moment_soon_is_still :
    (next moment_soon_line moment_soon_log (actors.Cpu (cpu 0)) ≡ None)
    × (next moment_soon_line moment_soon_log (actors.Driver (driver 1)) ≡ None)
moment_soon_is_still = (refl, refl)
