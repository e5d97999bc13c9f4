-- Worked histories of a small level line: how their ends are judged, what the window allows, and
-- that they are within the bound.
use Rattle.std.specs.Prelude.{◌≡◌, ◌≤◌, ℕ, List, [], ◌∷◌, reverse, length, take, refl, true, false, None}
use Rattle.std.proofs.Common.{arith}
use Rattle.irq_base.specs.declared.numbers.LineNo.{LineNo}
use Rattle.irq_base.specs.declared.numbers.CpuNo.{CpuNo}
use Rattle.irq_base.specs.declared.numbers.DevNo.{DevNo}
use Rattle.irq_base.specs.declared.numbers.DriverNo.{DriverNo}
use Rattle.irq_base.specs.declared.calls.Flags.{Flags}
use Rattle.irq_base.specs.declared.calls.Call.TheVariants as calls
use Rattle.irq_base.specs.declared.devices.Kind.{Kind}
use Rattle.irq_base.specs.declared.devices.Kind.TheVariants as kinds
use Rattle.irq_base.specs.declared.devices.Answer.TheVariants as answers
use Rattle.irq_base.specs.declared.lines.Trigger.TheVariants as triggers
use Rattle.irq_base.specs.declared.lines.FlowKind.TheVariants as flows
use Rattle.irq_base.specs.declared.lines.LineDef.{LineDef}
use Rattle.irq_base.specs.declared.entries.Actor.TheVariants as actors
use Rattle.irq_base.specs.declared.entries.Entry.{Entry}
use Rattle.irq_base.specs.declared.entries.Entry.TheVariants as by
use Rattle.irq_base.specs.declared.entries.CpuEntry.TheVariants as cpus
use Rattle.irq_base.specs.declared.entries.ThreadEntry.TheVariants as threads
use Rattle.irq_base.specs.declared.entries.DriverEntry.TheVariants as drivers
use Rattle.irq_base.specs.declared.entries.Way.TheVariants as ways
use Rattle.irq_base.specs.declared.entries.TakeAnswer.TheVariants as takes
use Rattle.irq_base.specs.declared.entries.Note.TheVariants as notes
use Rattle.irq_base.specs.declared.entries.Resend.TheVariants as resends
use Rattle.irq_base.specs.declared.entries.Opened.TheVariants as opens
use Rattle.irq_base.specs.declared.entries.LinkAnswer.TheVariants as links
use Rattle.irq_base.specs.declared.devices.Part.TheVariants as parts
use Rattle.irq_base.specs.declared.entries.CallEntry.TheVariants as called
use Rattle.irq_base.specs.declared.entries.EnableAnswer.TheVariants as enables
use Rattle.std.specs.List.{list_any}
use Rattle.irq_model.specs.Bounds.{other_calls, bound}
use Rattle.irq_model.specs.Lines.{run_script}
use Rattle.irq_model.specs.RunLaws.{is_enabling}
use Rattle.irq_model.specs.RunBounds.{EnablesOnlyItsOwn}
use Rattle.irq_model.specs.Legal.{IsLegal}
use Rattle.irq_model.specs.Next.{next}
use Rattle.irq_storms.specs.Judged.{handled_ends, nothing_ends, deferred_ends, breaks, allowed, count_where, starts_killed}

abbrev line : LineNo
line = record { 0 = 1 }

abbrev cpu : ℕ → CpuNo
cpu n = record { 0 = n }

abbrev dev : ℕ → DevNo
dev n = record { 0 = n }

abbrev driver : ℕ → DriverNo
driver n = record { 0 = n }

abbrev no_flags : Flags
no_flags = record { shared = false; oneshot = false; noauto = false }

abbrev shared_oneshot : Flags
shared_oneshot = record { shared = true; oneshot = true; noauto = false }

-- a level line of one processor and one device, which is killed by a window of 3 unhandled ends
abbrev small : Kind → LineDef
small kind =
    record {
      line = line;
      flow = flows.Level;
      trigger = triggers.Level;
      keeps = false;
      recalls = false;
      retriggers = false;
      unlazy = false;
      later = false;
      mask = 1;
      cpus = 1;
      window = 3;
      limit = 2;
      log = 10000;
      devices = record { dev = dev 1; line = line; kind = kind; held = false; forgets = false } ∷ [];
      runs = [];
      told = [];
      calls = (driver 1, calls.Request (dev 1) no_flags) ∷ (driver 1, calls.Ask (dev 1)) ∷ [];
    }

-- A storm that nobody serves. The two calls make an entry each; then each round has four entries
-- and an end that is judged nothing, and the third of these kills the line. No history of this line
-- is longer.
abbrev pub longest_line : LineDef
longest_line = small kinds.Stuck

abbrev pub longest_log : List Entry
longest_log =
    by.Driver (driver 1) (drivers.Request no_flags links.Linked (opens.Started resends.No) (dev 1)) ∷
    by.Driver (driver 1) (drivers.Ask true (dev 1)) ∷
    by.Cpu (cpu 0) (cpus.Take ways.Line takes.Handle) ∷
    by.Cpu (cpu 0) (cpus.Begin (dev 1)) ∷
    by.Cpu (cpu 0) (cpus.Return answers.Nothing (dev 1) 0) ∷
    by.Cpu (cpu 0) (cpus.End false true notes.Counted) ∷
    by.Cpu (cpu 0) (cpus.Take ways.Line takes.Handle) ∷
    by.Cpu (cpu 0) (cpus.Begin (dev 1)) ∷
    by.Cpu (cpu 0) (cpus.Return answers.Nothing (dev 1) 0) ∷
    by.Cpu (cpu 0) (cpus.End false true notes.Counted) ∷
    by.Cpu (cpu 0) (cpus.Take ways.Line takes.Handle) ∷
    by.Cpu (cpu 0) (cpus.Begin (dev 1)) ∷
    by.Cpu (cpu 0) (cpus.Return answers.Nothing (dev 1) 0) ∷
    by.Cpu (cpu 0) (cpus.End false false notes.Killed) ∷ []

pub longest_is_legal : IsLegal longest_line longest_log
longest_is_legal = (refl, (refl, (refl, (refl, (refl, (refl, (refl, (refl, (refl, (refl, (refl, (refl, (refl, (refl, tt))))))))))))))

-- no actor of the line has a due entry
pub longest_is_still :
    (next longest_line longest_log (actors.Cpu (cpu 0)) ≡ None)
    × (next longest_line longest_log (actors.Driver (driver 1)) ≡ None)
longest_is_still = (refl, refl)

-- one device, one ask, one other call, and a window of 3
pub longest_bound : bound longest_line ≡ 462
longest_bound = refl

pub longest_is_within : (length longest_log ≡ 14) × (length longest_log ≤ bound longest_line)
longest_is_within = (refl, omega arith)

-- three ends are allowed after the request; after the second end one is left, and after the kill
-- none
pub longest_window :
    (allowed longest_line (reverse (take 1 longest_log)) ≡ 3)
    × (allowed longest_line (reverse (take 10 longest_log)) ≡ 1)
    × (allowed longest_line (reverse longest_log) ≡ 0)
    × (nothing_ends longest_line (reverse longest_log) ≡ 3)
    × (breaks longest_line (reverse longest_log) ≡ 1)
longest_window = (refl, refl, refl, refl, refl)

-- Past 100 ms the next unhandled end begins the count anew: the rest of the window is allowed, and
-- the whole next window. Exactly this number of ends follows.
abbrev pub late_line : LineDef
late_line = record longest_line { calls = (driver 1, calls.Request (dev 1) no_flags) ∷ (driver 1, calls.Ask (dev 1)) ∷ (driver 1, calls.Moment 101) ∷ [] }

abbrev pub late_log : List Entry
late_log =
    by.Driver (driver 1) (drivers.Request no_flags links.Linked (opens.Started resends.No) (dev 1)) ∷
    by.Driver (driver 1) (drivers.Ask true (dev 1)) ∷
    by.Cpu (cpu 0) (cpus.Take ways.Line takes.Handle) ∷
    by.Cpu (cpu 0) (cpus.Begin (dev 1)) ∷
    by.Cpu (cpu 0) (cpus.Return answers.Nothing (dev 1) 0) ∷
    by.Cpu (cpu 0) (cpus.End false true notes.Counted) ∷
    by.Cpu (cpu 0) (cpus.Take ways.Line takes.Handle) ∷
    by.Cpu (cpu 0) (cpus.Begin (dev 1)) ∷
    by.Cpu (cpu 0) (cpus.Return answers.Nothing (dev 1) 0) ∷
    by.Cpu (cpu 0) (cpus.End false true notes.Counted) ∷
    by.Driver (driver 1) (drivers.Moment 101) ∷
    by.Cpu (cpu 0) (cpus.Take ways.Line takes.Handle) ∷
    by.Cpu (cpu 0) (cpus.Begin (dev 1)) ∷
    by.Cpu (cpu 0) (cpus.Return answers.Nothing (dev 1) 0) ∷
    by.Cpu (cpu 0) (cpus.End false true notes.Counted) ∷
    by.Cpu (cpu 0) (cpus.Take ways.Line takes.Handle) ∷
    by.Cpu (cpu 0) (cpus.Begin (dev 1)) ∷
    by.Cpu (cpu 0) (cpus.Return answers.Nothing (dev 1) 0) ∷
    by.Cpu (cpu 0) (cpus.End false true notes.Counted) ∷
    by.Cpu (cpu 0) (cpus.Take ways.Line takes.Handle) ∷
    by.Cpu (cpu 0) (cpus.Begin (dev 1)) ∷
    by.Cpu (cpu 0) (cpus.Return answers.Nothing (dev 1) 0) ∷
    by.Cpu (cpu 0) (cpus.End false true notes.Counted) ∷
    by.Cpu (cpu 0) (cpus.Take ways.Line takes.Handle) ∷
    by.Cpu (cpu 0) (cpus.Begin (dev 1)) ∷
    by.Cpu (cpu 0) (cpus.Return answers.Nothing (dev 1) 0) ∷
    by.Cpu (cpu 0) (cpus.End false false notes.Killed) ∷ []

pub late_is_legal : IsLegal late_line late_log
late_is_legal = (
  refl,
  (
    refl,
    (
      refl,
      (
        refl,
        (
          refl,
          (
            refl,
            (
              refl,
              (
                refl,
                (
                  refl,
                  (
                    refl,
                    (
                      refl,
                      (
                        refl,
                        (
                          refl,
                          (
                            refl,
                            (
                              refl,
                              (
                                refl,
                                (
                                  refl,
                                  (
                                    refl,
                                    (
                                      refl,
                                      (
                                        refl,
                                        (
                                          refl,
                                          (
                                            refl,
                                            (refl, (refl, (refl, (refl, (refl, tt))))),
                                          ),
                                        ),
                                      ),
                                    ),
                                  ),
                                ),
                              ),
                            ),
                          ),
                        ),
                      ),
                    ),
                  ),
                ),
              ),
            ),
          ),
        ),
      ),
    ),
  ),
)

-- no actor of the line has a due entry
pub late_is_still :
    (next late_line late_log (actors.Cpu (cpu 0)) ≡ None)
    × (next late_line late_log (actors.Driver (driver 1)) ≡ None)
late_is_still = (refl, refl)

pub late_window :
    (allowed late_line (reverse (take 10 late_log)) ≡ 1)
    × (allowed late_line (reverse (take 11 late_log)) ≡ 4)
    × (nothing_ends late_line (reverse (take 11 late_log)) ≡ 2)
    × (nothing_ends late_line (reverse late_log) ≡ 6)
    × (breaks late_line (reverse late_log) ≡ 2)
    × (allowed late_line (reverse late_log) ≡ 0)
late_window = (refl, refl, refl, refl, refl, refl)

-- An end that only woke its thread is judged by the next: the second comes before the thread has
-- served, the third after it. Not all ends of the window are unhandled then, so the next window is
-- allowed too.
abbrev pub woken_line : LineDef
woken_line = record (small kinds.Check) {
  calls = (driver 1, calls.Request (dev 1) no_flags)
      ∷ (driver 1, calls.Ask (dev 1)) ∷ (driver 1, calls.Ask (dev 1)) ∷ [];
}

abbrev pub woken_log : List Entry
woken_log =
    by.Driver (driver 1) (drivers.Request no_flags links.Linked (opens.Started resends.No) (dev 1)) ∷
    by.Driver (driver 1) (drivers.Ask true (dev 1)) ∷
    by.Cpu (cpu 0) (cpus.Take ways.Line takes.Handle) ∷
    by.Cpu (cpu 0) (cpus.Begin (dev 1)) ∷
    by.Cpu (cpu 0) (cpus.Return answers.Wake (dev 1) 0) ∷
    by.Cpu (cpu 0) (cpus.End false true notes.Quiet) ∷
    by.Cpu (cpu 0) (cpus.Take ways.Line takes.Handle) ∷
    by.Cpu (cpu 0) (cpus.Begin (dev 1)) ∷
    by.Cpu (cpu 0) (cpus.Return answers.Wake (dev 1) 0) ∷
    by.Cpu (cpu 0) (cpus.End false true notes.Counted) ∷
    by.Thread (dev 1) threads.Begin ∷
    by.Thread (dev 1) (threads.Return true 1) ∷
    by.Thread (dev 1) threads.Done ∷
    by.Driver (driver 1) (drivers.Ask true (dev 1)) ∷
    by.Cpu (cpu 0) (cpus.Take ways.Line takes.Handle) ∷
    by.Cpu (cpu 0) (cpus.Begin (dev 1)) ∷
    by.Cpu (cpu 0) (cpus.Return answers.Wake (dev 1) 0) ∷
    by.Cpu (cpu 0) (cpus.End false true notes.Counted) ∷
    by.Thread (dev 1) threads.Begin ∷
    by.Thread (dev 1) (threads.Return true 1) ∷
    by.Thread (dev 1) threads.Done ∷ []

pub woken_is_legal : IsLegal woken_line woken_log
woken_is_legal = (
  refl,
  (
    refl,
    (
      refl,
      (
        refl,
        (
          refl,
          (
            refl,
            (
              refl,
              (
                refl,
                (
                  refl,
                  (
                    refl,
                    (
                      refl,
                      (
                        refl,
                        (
                          refl,
                          (
                            refl,
                            (refl, (refl, (refl, (refl, (refl, (refl, (refl, tt))))))),
                          ),
                        ),
                      ),
                    ),
                  ),
                ),
              ),
            ),
          ),
        ),
      ),
    ),
  ),
)

-- no actor of the line has a due entry
pub woken_is_still :
    (next woken_line woken_log (actors.Cpu (cpu 0)) ≡ None)
    × (next woken_line woken_log (actors.Driver (driver 1)) ≡ None)
    × (next woken_line woken_log (actors.Thread (dev 1)) ≡ None)
woken_is_still = (refl, refl, refl)

pub woken_ends :
    (deferred_ends woken_line (reverse woken_log) ≡ 1)
    × (nothing_ends woken_line (reverse woken_log) ≡ 1)
    × (handled_ends woken_line (reverse woken_log) ≡ 1)
    × (breaks woken_line (reverse woken_log) ≡ 2)
    × (allowed woken_line (reverse woken_log) ≡ 4)
woken_ends = (refl, refl, refl, refl, refl)

-- A thread that enables a line which it doesn't disable: device 1 wakes it in each round, though
-- nobody asked device 1, and nobody serves device 2. Each end past the first kills the line at once,
-- and each run of the thread starts it again. There are two calls that aren't asks, and three such
-- starts here; with more rounds there are more.
abbrev pub reopened_line : LineDef
reopened_line = record (small kinds.Null) {
  window = 1;
  limit = 0;
  devices = record { dev = dev 1; line = line; kind = kinds.Null; held = false; forgets = false }
      ∷ record { dev = dev 2; line = line; kind = kinds.Stuck; held = false; forgets = false } ∷ [];
  calls = (driver 1, calls.Request (dev 1) shared_oneshot) ∷ (driver 1, calls.Request (dev 2) shared_oneshot) ∷ (driver 1, calls.Ask (dev 2)) ∷ [];
  runs = (dev 1, parts.Thread, calls.Enable) ∷ [];
}

abbrev pub reopened_log : List Entry
reopened_log =
    by.Driver (driver 1) (drivers.Request shared_oneshot links.Linked (opens.Started resends.No) (dev 1)) ∷
    by.Driver (driver 1) (drivers.Request shared_oneshot links.Linked opens.No (dev 2)) ∷
    by.Driver (driver 1) (drivers.Ask true (dev 2)) ∷
    by.Cpu (cpu 0) (cpus.Take ways.Line takes.Handle) ∷
    by.Cpu (cpu 0) (cpus.Begin (dev 1)) ∷
    by.Cpu (cpu 0) (cpus.Return answers.Wake (dev 1) 0) ∷
    by.Cpu (cpu 0) (cpus.Begin (dev 2)) ∷
    by.Cpu (cpu 0) (cpus.Return answers.Nothing (dev 2) 0) ∷
    by.Cpu (cpu 0) (cpus.End false false notes.Quiet) ∷
    by.Thread (dev 1) threads.Begin ∷
    by.ThreadCall (dev 1) (called.Enable enables.Unbalanced) ∷
    by.Thread (dev 1) (threads.Return false 0) ∷
    by.Thread (dev 1) (threads.Finish false true) ∷
    by.Thread (dev 1) threads.Done ∷
    by.Cpu (cpu 0) (cpus.Take ways.Line takes.Handle) ∷
    by.Cpu (cpu 0) (cpus.Begin (dev 1)) ∷
    by.Cpu (cpu 0) (cpus.Return answers.Wake (dev 1) 0) ∷
    by.Cpu (cpu 0) (cpus.Begin (dev 2)) ∷
    by.Cpu (cpu 0) (cpus.Return answers.Nothing (dev 2) 0) ∷
    by.Cpu (cpu 0) (cpus.End false false notes.Killed) ∷
    by.Thread (dev 1) threads.Begin ∷
    by.ThreadCall (dev 1) (called.Enable (enables.Started resends.No)) ∷
    by.Thread (dev 1) (threads.Return false 0) ∷
    by.Thread (dev 1) (threads.Finish false false) ∷
    by.Thread (dev 1) threads.Done ∷
    by.Cpu (cpu 0) (cpus.Take ways.Line takes.Handle) ∷
    by.Cpu (cpu 0) (cpus.Begin (dev 1)) ∷
    by.Cpu (cpu 0) (cpus.Return answers.Wake (dev 1) 0) ∷
    by.Cpu (cpu 0) (cpus.Begin (dev 2)) ∷
    by.Cpu (cpu 0) (cpus.Return answers.Nothing (dev 2) 0) ∷
    by.Cpu (cpu 0) (cpus.End false false notes.Killed) ∷
    by.Thread (dev 1) threads.Begin ∷
    by.ThreadCall (dev 1) (called.Enable (enables.Started resends.No)) ∷
    by.Thread (dev 1) (threads.Return false 0) ∷
    by.Thread (dev 1) (threads.Finish false false) ∷
    by.Thread (dev 1) threads.Done ∷
    by.Cpu (cpu 0) (cpus.Take ways.Line takes.Handle) ∷
    by.Cpu (cpu 0) (cpus.Begin (dev 1)) ∷
    by.Cpu (cpu 0) (cpus.Return answers.Wake (dev 1) 0) ∷
    by.Cpu (cpu 0) (cpus.Begin (dev 2)) ∷
    by.Cpu (cpu 0) (cpus.Return answers.Nothing (dev 2) 0) ∷
    by.Cpu (cpu 0) (cpus.End false false notes.Killed) ∷
    by.Thread (dev 1) threads.Begin ∷
    by.ThreadCall (dev 1) (called.Enable (enables.Started resends.No)) ∷
    by.Thread (dev 1) (threads.Return false 0) ∷
    by.Thread (dev 1) (threads.Finish false false) ∷
    by.Thread (dev 1) threads.Done ∷ []

pub reopened_is_legal : IsLegal reopened_line reopened_log
reopened_is_legal = (
  refl,
  (
    refl,
    (
      refl,
      (
        refl,
        (
          refl,
          (
            refl,
            (
              refl,
              (
                refl,
                (
                  refl,
                  (
                    refl,
                    (
                      refl,
                      (
                        refl,
                        (
                          refl,
                          (
                            refl,
                            (
                              refl,
                              (
                                refl,
                                (
                                  refl,
                                  (
                                    refl,
                                    (
                                      refl,
                                      (
                                        refl,
                                        (
                                          refl,
                                          (
                                            refl,
                                            (
                                              refl,
                                              (
                                                refl,
                                                (
                                                  refl,
                                                  (
                                                    refl,
                                                    (
                                                      refl,
                                                      (
                                                        refl,
                                                        (
                                                          refl,
                                                          (
                                                            refl,
                                                            (
                                                              refl,
                                                              (
                                                                refl,
                                                                (
                                                                  refl,
                                                                  (
                                                                    refl,
                                                                    (
                                                                      refl,
                                                                      (
                                                                        refl,
                                                                        (
                                                                          refl,
                                                                          (
                                                                            refl,
                                                                            (
                                                                              refl,
                                                                              (
                                                                                refl,
                                                                                (
                                                                                  refl,
                                                                                  (
                                                                                    refl,
                                                                                    (
                                                                                      refl,
                                                                                      (
                                                                                        refl,
                                                                                        (
                                                                                          refl,
                                                                                          (refl, (refl, tt)),
                                                                                        ),
                                                                                      ),
                                                                                    ),
                                                                                  ),
                                                                                ),
                                                                              ),
                                                                            ),
                                                                          ),
                                                                        ),
                                                                      ),
                                                                    ),
                                                                  ),
                                                                ),
                                                              ),
                                                            ),
                                                          ),
                                                        ),
                                                      ),
                                                    ),
                                                  ),
                                                ),
                                              ),
                                            ),
                                          ),
                                        ),
                                      ),
                                    ),
                                  ),
                                ),
                              ),
                            ),
                          ),
                        ),
                      ),
                    ),
                  ),
                ),
              ),
            ),
          ),
        ),
      ),
    ),
  ),
)

pub reopened_starts :
    (other_calls reopened_line ≡ 2)
    × (count_where starts_killed (reverse reopened_log) ≡ 3)
    × (list_any is_enabling (run_script reopened_line (dev 1) parts.Thread) ≡ true)
reopened_starts = (refl, refl, refl)

-- the enabling device isn't a check device
pub reopened_isnt_bounded : EnablesOnlyItsOwn reopened_line → ⊥
reopened_isnt_bounded rules = let k : kinds.Null ≡ kinds.Check = (rules.threads (dev 1) refl).0 in cc
