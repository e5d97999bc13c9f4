-- Worked histories of lines that driver 9 puts to sleep.
use Rattle.std.specs.Prelude.{◌≡◌, List, [], ◌∷◌, ℕ, refl, true, false, Some, None, map, reverse, take}
use Rattle.irq_base.specs.declared.numbers.LineNo.{LineNo}
use Rattle.irq_base.specs.declared.numbers.CpuNo.{CpuNo}
use Rattle.irq_base.specs.declared.numbers.DevNo.{DevNo}
use Rattle.irq_base.specs.declared.numbers.DriverNo.{DriverNo}
use Rattle.irq_base.specs.declared.calls.Flags.{Flags}
use Rattle.irq_base.specs.declared.calls.Call.TheVariants as calls
use Rattle.irq_base.specs.declared.devices.Kind.{Kind}
use Rattle.irq_base.specs.declared.devices.Kind.TheVariants as kinds
use Rattle.irq_base.specs.declared.devices.Answer.TheVariants as answers
use Rattle.irq_base.specs.declared.devices.DeviceDef.{DeviceDef}
use Rattle.irq_base.specs.declared.lines.Trigger.TheVariants as triggers
use Rattle.irq_base.specs.declared.lines.FlowKind.TheVariants as flows
use Rattle.irq_base.specs.declared.lines.LineDef.{LineDef}
use Rattle.irq_base.specs.declared.entries.Actor.TheVariants as actors
use Rattle.irq_base.specs.declared.entries.Entry.{Entry}
use Rattle.irq_base.specs.declared.entries.Entry.TheVariants as by
use Rattle.irq_base.specs.declared.entries.CpuEntry.TheVariants as cpus
use Rattle.irq_base.specs.declared.entries.ThreadEntry.TheVariants as threads
use Rattle.irq_base.specs.declared.entries.DriverEntry.TheVariants as drivers
use Rattle.irq_base.specs.declared.entries.CallEntry.TheVariants as called
use Rattle.irq_base.specs.declared.entries.Way.TheVariants as ways
use Rattle.irq_base.specs.declared.entries.TakeAnswer.TheVariants as takes
use Rattle.irq_base.specs.declared.entries.Note.TheVariants as notes
use Rattle.irq_base.specs.declared.entries.Resend.TheVariants as resends
use Rattle.irq_base.specs.declared.entries.EnableAnswer.TheVariants as enables
use Rattle.irq_base.specs.declared.entries.Opened.TheVariants as opens
use Rattle.irq_base.specs.declared.entries.LinkAnswer.TheVariants as links
use Rattle.irq_base.specs.declared.entries.UnlinkAnswer.TheVariants as unlinks
use Rattle.irq_model.specs.Legal.{IsLegal}
use Rattle.irq_model.specs.Links.{depth}
use Rattle.irq_model.specs.Next.{next}
use Rattle.irq_model.specs.Waiting.{is_pending}
use Rattle.irq_pm.specs.Sleeping.{is_suspended, is_asleep, is_left_alone, others_only_ask}
use Rattle.irq_pm.specs.SleptLines.{IsReopening}

abbrev line : LineNo
line = record { 0 = 1 }

abbrev cpu : ℕ → CpuNo
cpu n = record { 0 = n }

abbrev dev : ℕ → DevNo
dev n = record { 0 = n }

abbrev driver : ℕ → DriverNo
driver n = record { 0 = n }

abbrev device : ℕ → Kind → DeviceDef
device n kind = record { dev = dev n; line = line; kind = kind; held = false; forgets = false }

abbrev no_flags : Flags
no_flags = record { shared = false; oneshot = false; noauto = false }

-- an edge line whose chip keeps edges while it is masked, and can send them again
abbrev latch : LineDef
latch =
    record {
      line = line;
      flow = flows.Edge;
      trigger = triggers.Edge;
      keeps = true;
      recalls = true;
      retriggers = true;
      unlazy = false;
      later = false;
      mask = 1;
      cpus = 1;
      window = 100000;
      limit = 99900;
      log = 10000;
      devices = [];
      calls = [];
      runs = [];
      told = [];
    }

-- a level line with the level flow
abbrev level : LineDef
level = record latch { flow = flows.Level; trigger = triggers.Level; keeps = false; recalls = false; retriggers = false }

-- the first n entries, the newest first
abbrev first : ℕ → List Entry → List Entry
first n h = reverse (take n h)

-- A device asks while the line sleeps: the interrupt is taken, calls no handler, and is sent again
-- by the enable.
abbrev pub wake_line : LineDef
wake_line = record latch {
  devices = device 1 kinds.Direct ∷ [];
  calls =
      (driver 1, calls.Request (dev 1) no_flags) ∷
      (driver 1, calls.Ask (dev 1)) ∷
      (driver 9, calls.Disable) ∷
      (driver 9, calls.Enable) ∷ [];
}

abbrev pub wake_log : List Entry
wake_log =
    by.Driver (driver 1) (drivers.Request no_flags links.Linked (opens.Started resends.No) (dev 1)) ∷
    by.DriverCall (driver 9) called.Disable ∷
    by.DriverCall (driver 9) called.HardClear ∷
    by.DriverCall (driver 9) called.Synced ∷
    by.Driver (driver 1) (drivers.Ask true (dev 1)) ∷
    by.Cpu (cpu 0) (cpus.Take ways.Line takes.Off) ∷
    by.DriverCall (driver 9) (called.Enable (enables.Started resends.Chip)) ∷
    by.Cpu (cpu 0) (cpus.Take ways.Line takes.Handle) ∷
    by.Cpu (cpu 0) (cpus.Begin (dev 1)) ∷
    by.Cpu (cpu 0) (cpus.Return answers.Handled (dev 1) 1) ∷
    by.Cpu (cpu 0) (cpus.End false false notes.Quiet) ∷ []

pub wake_is_legal : IsLegal wake_line wake_log
wake_is_legal = (refl, (refl, (refl, (refl, (refl, (refl, (refl, (refl, (refl, (refl, (refl, tt)))))))))))

-- no actor of the line has a due entry
pub wake_is_still :
    (next wake_line wake_log (actors.Cpu (cpu 0)) ≡ None)
    × (next wake_line wake_log (actors.Driver (driver 1)) ≡ None)
    × (next wake_line wake_log (actors.Driver (driver 9)) ≡ None)
wake_is_still = (refl, refl, refl)

-- it sleeps from the synced to the enable, and is disabled from the disable to the enable
pub wake_sleeps :
    (map (λ n. is_asleep (driver 9) (first n wake_log)) (0 ∷ 1 ∷ 2 ∷ 3 ∷ 4 ∷ 5 ∷ 6 ∷ 7 ∷ 11 ∷ [])
    ≡ false ∷ false ∷ false ∷ false ∷ true ∷ true ∷ true ∷ false ∷ false ∷ [])
    × (map (λ n. is_suspended (driver 9) (first n wake_log)) (0 ∷ 1 ∷ 2 ∷ 3 ∷ 6 ∷ 7 ∷ []) ≡ false ∷ false ∷ true ∷ true ∷ true ∷ false ∷ [])
    × (map (λ n. depth (first n wake_log)) (0 ∷ 1 ∷ 2 ∷ 3 ∷ 4 ∷ 5 ∷ 6 ∷ 7 ∷ []) ≡ 1 ∷ 0 ∷ 1 ∷ 1 ∷ 1 ∷ 1 ∷ 1 ∷ 0 ∷ [])
wake_sleeps = (refl, refl, refl)

-- the ask disturbs nothing, and the take leaves it pending
pub wake_is_left_alone :
    (is_left_alone (driver 9) (first 6 wake_log) ≡ true)
    × (others_only_ask (driver 9) (first 6 wake_log) ≡ true)
    × (is_pending wake_line (first 5 wake_log) ≡ false)
    × (is_pending wake_line (first 6 wake_log) ≡ true)
wake_is_left_alone = (refl, refl, refl, refl)

-- the enable ends the sleep of a line that was open
pub wake_reopens : IsReopening (driver 9) (by.DriverCall (driver 9) (called.Enable (enables.Started resends.Chip))) (first 6 wake_log)
wake_reopens = record { resume = record { enable = refl; suspended = refl; alone = refl }; open_before = refl; unkilled = refl }

-- no other driver has the line asleep
pub wake_is_of_one : is_asleep (driver 1) (first 6 wake_log) ≡ false
wake_is_of_one = refl

-- On a level line the take masks the line, which stays high; the enable opens it, and the next entry
-- is a take that is handled.
abbrev pub level_line : LineDef
level_line = record level { devices = device 1 kinds.Direct ∷ []; calls = wake_line.calls }

abbrev pub level_log : List Entry
level_log =
    by.Driver (driver 1) (drivers.Request no_flags links.Linked (opens.Started resends.No) (dev 1)) ∷
    by.DriverCall (driver 9) called.Disable ∷
    by.DriverCall (driver 9) called.HardClear ∷
    by.DriverCall (driver 9) called.Synced ∷
    by.Driver (driver 1) (drivers.Ask true (dev 1)) ∷
    by.Cpu (cpu 0) (cpus.Take ways.Line takes.Off) ∷
    by.DriverCall (driver 9) (called.Enable (enables.Started resends.No)) ∷ []

pub level_is_legal : IsLegal level_line level_log
level_is_legal = (refl, (refl, (refl, (refl, (refl, (refl, (refl, tt)))))))

pub level_is_handled_next :
    (is_asleep (driver 9) (first 6 level_log) ≡ true)
    × (next level_line (take 6 level_log) (actors.Cpu (cpu 0)) ≡ None)
    × (next level_line level_log (actors.Cpu (cpu 0)) ≡ Some (by.Cpu (cpu 0) (cpus.Take ways.Line takes.Handle)))
level_is_handled_next = (refl, refl, refl)

-- The disable waits for the flow that is in progress, and then for the thread that it wakes: the
-- line sleeps only then.
abbrev pub thread_line : LineDef
thread_line = record wake_line { devices = device 1 kinds.Check ∷ [] }

abbrev pub thread_log : List Entry
thread_log =
    by.Driver (driver 1) (drivers.Request no_flags links.Linked (opens.Started resends.No) (dev 1)) ∷
    by.Driver (driver 1) (drivers.Ask true (dev 1)) ∷
    by.Cpu (cpu 0) (cpus.Take ways.Line takes.Handle) ∷
    by.Cpu (cpu 0) (cpus.Begin (dev 1)) ∷
    by.DriverCall (driver 9) called.Disable ∷
    by.Cpu (cpu 0) (cpus.Return answers.Wake (dev 1) 0) ∷
    by.Cpu (cpu 0) (cpus.End false false notes.Quiet) ∷
    by.DriverCall (driver 9) called.HardClear ∷
    by.Thread (dev 1) threads.Begin ∷
    by.Thread (dev 1) (threads.Return true 1) ∷
    by.Thread (dev 1) threads.Done ∷
    by.DriverCall (driver 9) called.Synced ∷
    by.DriverCall (driver 9) (called.Enable (enables.Started resends.No)) ∷ []

pub thread_is_legal : IsLegal thread_line thread_log
thread_is_legal = (refl, (refl, (refl, (refl, (refl, (refl, (refl, (refl, (refl, (refl, (refl, (refl, (refl, tt)))))))))))))

pub thread_sleeps :
    (map (λ n. is_asleep (driver 9) (first n thread_log)) (5 ∷ 8 ∷ 11 ∷ 12 ∷ 13 ∷ []) ≡ false ∷ false ∷ false ∷ true ∷ false ∷ [])
    × (next thread_line (take 5 thread_log) (actors.Driver (driver 9)) ≡ None)
    × (next thread_line (take 8 thread_log) (actors.Driver (driver 9)) ≡ None)
    × (map (λ n. depth (first n thread_log)) (4 ∷ 5 ∷ 12 ∷ 13 ∷ []) ≡ 0 ∷ 1 ∷ 1 ∷ 0 ∷ [])
thread_sleeps = (refl, refl, refl, refl)

-- A line that was disabled before goes on so: the enable gives back the depth that it found.
abbrev pub nested_line : LineDef
nested_line = record latch {
  devices = device 1 kinds.Direct ∷ [];
  calls =
      (driver 1, calls.Request (dev 1) no_flags) ∷
      (driver 1, calls.DisableNosync) ∷
      (driver 9, calls.Disable) ∷
      (driver 9, calls.Enable) ∷ [];
}

abbrev pub nested_log : List Entry
nested_log =
    by.Driver (driver 1) (drivers.Request no_flags links.Linked (opens.Started resends.No) (dev 1)) ∷
    by.DriverCall (driver 1) called.Disable ∷
    by.DriverCall (driver 9) called.Disable ∷
    by.DriverCall (driver 9) called.HardClear ∷
    by.DriverCall (driver 9) called.Synced ∷
    by.DriverCall (driver 9) (called.Enable enables.Lowered) ∷ []

pub nested_is_legal : IsLegal nested_line nested_log
nested_is_legal = (refl, (refl, (refl, (refl, (refl, (refl, tt))))))

pub nested_sleeps :
    (is_left_alone (driver 9) (first 5 nested_log) ≡ true)
    × (map (λ n. depth (first n nested_log)) (2 ∷ 3 ∷ 5 ∷ 6 ∷ []) ≡ 1 ∷ 2 ∷ 2 ∷ 1 ∷ [])
nested_sleeps = (refl, refl)

-- ---- what the laws can't promise

-- Another driver enables the line while driver 9's disable stands: the handler is called, and the
-- depth is 0. (6.1 refuses such an enable, with a warning: `__enable_irq` looks at
-- `IRQS_SUSPENDED`.)
abbrev pub enabled_line : LineDef
enabled_line = record latch {
  devices = device 1 kinds.Direct ∷ [];
  calls =
      (driver 1, calls.Request (dev 1) no_flags) ∷
      (driver 1, calls.Ask (dev 1)) ∷
      (driver 2, calls.Enable) ∷
      (driver 9, calls.Disable) ∷
      (driver 9, calls.Enable) ∷ [];
}

abbrev pub enabled_log : List Entry
enabled_log =
    by.Driver (driver 1) (drivers.Request no_flags links.Linked (opens.Started resends.No) (dev 1)) ∷
    by.DriverCall (driver 9) called.Disable ∷
    by.DriverCall (driver 9) called.HardClear ∷
    by.DriverCall (driver 9) called.Synced ∷
    by.DriverCall (driver 2) (called.Enable (enables.Started resends.No)) ∷
    by.Driver (driver 1) (drivers.Ask true (dev 1)) ∷
    by.Cpu (cpu 0) (cpus.Take ways.Line takes.Handle) ∷
    by.Cpu (cpu 0) (cpus.Begin (dev 1)) ∷
    by.Cpu (cpu 0) (cpus.Return answers.Handled (dev 1) 1) ∷
    by.Cpu (cpu 0) (cpus.End false false notes.Quiet) ∷
    by.DriverCall (driver 9) (called.Enable enables.Unbalanced) ∷ []

pub enabled_is_legal : IsLegal enabled_line enabled_log
enabled_is_legal = (refl, (refl, (refl, (refl, (refl, (refl, (refl, (refl, (refl, (refl, (refl, tt)))))))))))

-- the handler is called after seven entries
pub enabled_wakes :
    (is_asleep (driver 9) (first 7 enabled_log) ≡ true)
    × (depth (first 7 enabled_log) ≡ 0)
    × (is_left_alone (driver 9) (first 4 enabled_log) ≡ true)
    × (is_left_alone (driver 9) (first 7 enabled_log) ≡ false)
    × (others_only_ask (driver 9) (first 7 enabled_log) ≡ false)
enabled_wakes = (refl, refl, refl, refl, refl)

-- Another driver links the first device meanwhile: that starts the line.
abbrev pub linked_line : LineDef
linked_line = record latch {
  devices = device 1 kinds.Direct ∷ [];
  calls =
      (driver 1, calls.Request (dev 1) no_flags) ∷
      (driver 9, calls.Disable) ∷
      (driver 9, calls.Enable) ∷ [];
}

abbrev pub linked_log : List Entry
linked_log =
    by.DriverCall (driver 9) called.Disable ∷
    by.DriverCall (driver 9) called.HardClear ∷
    by.DriverCall (driver 9) called.Synced ∷
    by.Driver (driver 1) (drivers.Request no_flags links.Linked (opens.Started resends.No) (dev 1)) ∷ []

pub linked_is_legal : IsLegal linked_line linked_log
linked_is_legal = (refl, (refl, (refl, (refl, tt))))

pub linked_wakes :
    (is_asleep (driver 9) (first 4 linked_log) ≡ true)
    × (map (λ n. depth (first n linked_log)) (0 ∷ 1 ∷ 3 ∷ 4 ∷ []) ≡ 1 ∷ 2 ∷ 2 ∷ 0 ∷ [])
    × (is_left_alone (driver 9) (first 4 linked_log) ≡ false)
linked_wakes = (refl, refl, refl)

-- Another driver disables it meanwhile: one enable doesn't open it.
abbrev pub disabled_line : LineDef
disabled_line = record latch {
  devices = device 1 kinds.Direct ∷ [];
  calls =
      (driver 1, calls.Request (dev 1) no_flags) ∷
      (driver 2, calls.DisableNosync) ∷
      (driver 9, calls.Disable) ∷
      (driver 9, calls.Enable) ∷ [];
}

abbrev pub disabled_log : List Entry
disabled_log =
    by.Driver (driver 1) (drivers.Request no_flags links.Linked (opens.Started resends.No) (dev 1)) ∷
    by.DriverCall (driver 9) called.Disable ∷
    by.DriverCall (driver 9) called.HardClear ∷
    by.DriverCall (driver 9) called.Synced ∷
    by.DriverCall (driver 2) called.Disable ∷
    by.DriverCall (driver 9) (called.Enable enables.Lowered) ∷ []

pub disabled_is_legal : IsLegal disabled_line disabled_log
disabled_is_legal = (refl, (refl, (refl, (refl, (refl, (refl, tt))))))

pub disabled_stays_deeper :
    (is_asleep (driver 9) (first 5 disabled_log) ≡ true)
    × (is_left_alone (driver 9) (first 5 disabled_log) ≡ false)
    × (map (λ n. depth (first n disabled_log)) (1 ∷ 2 ∷ 5 ∷ 6 ∷ []) ≡ 0 ∷ 1 ∷ 2 ∷ 1 ∷ [])
disabled_stays_deeper = (refl, refl, refl)

-- The last device is unlinked meanwhile: that gives the depth a value of its own, and the enable
-- changes nothing.
abbrev pub unlinked_line : LineDef
unlinked_line = record latch {
  devices = device 1 kinds.Direct ∷ [];
  calls =
      (driver 1, calls.Request (dev 1) no_flags) ∷
      (driver 1, calls.Free (dev 1)) ∷
      (driver 9, calls.Disable) ∷
      (driver 9, calls.Enable) ∷ [];
}

abbrev pub unlinked_log : List Entry
unlinked_log =
    by.Driver (driver 1) (drivers.Request no_flags links.Linked (opens.Started resends.No) (dev 1)) ∷
    by.DriverCall (driver 9) called.Disable ∷
    by.DriverCall (driver 9) called.HardClear ∷
    by.DriverCall (driver 9) called.Synced ∷
    by.DriverCall (driver 1) (called.Unlink (unlinks.Unlinked true) (dev 1)) ∷
    by.DriverCall (driver 1) called.HardClear ∷
    by.DriverCall (driver 1) (called.Freed (dev 1)) ∷
    by.DriverCall (driver 9) (called.Enable enables.Unbalanced) ∷ []

pub unlinked_is_legal : IsLegal unlinked_line unlinked_log
unlinked_is_legal = (refl, (refl, (refl, (refl, (refl, (refl, (refl, (refl, tt))))))))

pub unlinked_stays_disabled :
    (is_asleep (driver 9) (first 7 unlinked_log) ≡ true)
    × (map (λ n. is_left_alone (driver 9) (first n unlinked_log)) (4 ∷ 5 ∷ 7 ∷ []) ≡ true ∷ false ∷ false ∷ [])
    × (map (λ n. depth (first n unlinked_log)) (1 ∷ 2 ∷ 5 ∷ 8 ∷ []) ≡ 0 ∷ 1 ∷ 1 ∷ 1 ∷ [])
unlinked_stays_disabled = (refl, refl, refl)

-- An end kills the line, of a flow that was in progress at the disable: after the enable it is
-- disabled, though it was open before.
abbrev pub killed_line : LineDef
killed_line = record level {
  window = 1;
  limit = 0;
  devices = device 1 kinds.Stuck ∷ [];
  calls =
      (driver 1, calls.Request (dev 1) no_flags) ∷
      (driver 1, calls.Ask (dev 1)) ∷
      (driver 9, calls.Disable) ∷
      (driver 9, calls.Enable) ∷ [];
}

abbrev pub killed_log : List Entry
killed_log =
    by.Driver (driver 1) (drivers.Request no_flags links.Linked (opens.Started resends.No) (dev 1)) ∷
    by.Driver (driver 1) (drivers.Ask true (dev 1)) ∷
    by.Cpu (cpu 0) (cpus.Take ways.Line takes.Handle) ∷
    by.Cpu (cpu 0) (cpus.Begin (dev 1)) ∷
    by.DriverCall (driver 9) called.Disable ∷
    by.Cpu (cpu 0) (cpus.Return answers.Nothing (dev 1) 0) ∷
    by.Cpu (cpu 0) (cpus.End false false notes.Killed) ∷
    by.DriverCall (driver 9) called.HardClear ∷
    by.DriverCall (driver 9) called.Synced ∷
    by.DriverCall (driver 9) (called.Enable enables.Lowered) ∷ []

pub killed_is_legal : IsLegal killed_line killed_log
killed_is_legal = (refl, (refl, (refl, (refl, (refl, (refl, (refl, (refl, (refl, (refl, tt))))))))))

pub killed_stays_disabled :
    (is_left_alone (driver 9) (first 9 killed_log) ≡ true)
    × (map (λ n. depth (first n killed_log)) (4 ∷ 5 ∷ 7 ∷ 9 ∷ 10 ∷ []) ≡ 0 ∷ 1 ∷ 2 ∷ 2 ∷ 1 ∷ [])
killed_stays_disabled = (refl, refl)

-- Nothing is linked: the enable changes nothing, and the line stays one disable deeper.
abbrev pub empty_log : List Entry
empty_log =
    by.DriverCall (driver 9) called.Disable ∷
    by.DriverCall (driver 9) called.HardClear ∷
    by.DriverCall (driver 9) called.Synced ∷
    by.DriverCall (driver 9) (called.Enable enables.Unbalanced) ∷ []

pub empty_is_legal : IsLegal linked_line empty_log
empty_is_legal = (refl, (refl, (refl, (refl, tt))))

pub empty_stays_deeper : map (λ n. depth (first n empty_log)) (0 ∷ 1 ∷ 3 ∷ 4 ∷ []) ≡ 1 ∷ 2 ∷ 2 ∷ 2 ∷ []
empty_stays_deeper = refl

-- A sync alone puts no line to sleep.
abbrev pub synced_line : LineDef
synced_line = record linked_line { calls = (driver 9, calls.Sync) ∷ [] }

abbrev pub synced_log : List Entry
synced_log = by.DriverCall (driver 9) called.HardClear ∷ by.DriverCall (driver 9) called.Synced ∷ []

pub synced_is_awake : IsLegal synced_line synced_log × (is_asleep (driver 9) (reverse synced_log) ≡ false)
synced_is_awake = ((refl, (refl, tt)), refl)
