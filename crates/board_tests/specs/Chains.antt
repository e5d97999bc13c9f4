-- Boards behind one demultiplexer, each with the rows of its play, worked out by hand.
use Rattle.std.specs.Prelude.{true, false, List, [], ◌∷◌}
use Rattle.irq_base.specs.declared.calls.Call.TheVariants as calls
use Rattle.irq_base.specs.declared.devices.Answer.TheVariants as answers
use Rattle.irq_base.specs.declared.devices.Kind.TheVariants as kinds
use Rattle.irq_base.specs.declared.domains.ControllerKind.TheVariants as levels
use Rattle.irq_base.specs.declared.entries.Actor.TheVariants as actors
use Rattle.irq_base.specs.declared.entries.EnableAnswer.TheVariants as enables
use Rattle.irq_base.specs.declared.entries.Entry.TheVariants as by
use Rattle.irq_base.specs.declared.entries.CpuEntry.TheVariants as cpus
use Rattle.irq_base.specs.declared.entries.ThreadEntry.TheVariants as threads
use Rattle.irq_base.specs.declared.entries.DriverEntry.TheVariants as drivers
use Rattle.irq_base.specs.declared.entries.CallEntry.TheVariants as called
use Rattle.irq_base.specs.declared.entries.LinkAnswer.TheVariants as links
use Rattle.irq_base.specs.declared.entries.Note.TheVariants as notes
use Rattle.irq_base.specs.declared.entries.Opened.TheVariants as opens
use Rattle.irq_base.specs.declared.entries.Resend.TheVariants as resends
use Rattle.irq_base.specs.declared.entries.TakeAnswer.TheVariants as takes
use Rattle.irq_base.specs.declared.entries.UnlinkAnswer.TheVariants as unlinks
use Rattle.irq_base.specs.declared.entries.Way.TheVariants as ways
use Rattle.board_def.specs.Seen.{BoardSeen}
use Rattle.board_tests.specs.Short.{line, cpu, dev, driver, no_flags, oneshot_flag, domain, row}
use Rattle.board_tests.specs.Short.{device, call}
use Rattle.irq_chained.specs.declared.chain.ChainEntry.{ChainEntry}
use Rattle.irq_chained.specs.declared.chain.ChainEntry.TheVariants as steps

-- one child, taken in its chain; the free comes after the exit
abbrev pub one_child : BoardSeen
one_child = record {
  version = 1;
  cpus = 1;
  window = 100000;
  limit = 99900;
  log = 10000;
  domains = domain 4 levels.Latch ∷ [];
  lines = row 1 2 ∷ [];
  devices = device 1 1 kinds.Direct ∷ [];
  told = [];
  runs = [];
  drivers = driver 1 ∷ [];
  calls = call 1 1 (calls.Request (dev 1) no_flags) ∷
      call 1 1 (calls.Ask (dev 1)) ∷
      call 1 1 (calls.Free (dev 1)) ∷
      [];
  picks = [];
}

abbrev pub one_child_rows : List ChainEntry
one_child_rows =
    steps.Child (line 1) (by.Driver (driver 1)
    (drivers.Request no_flags links.Linked (opens.Started resends.No) (dev 1)))
    ∷ steps.Child (line 1) (by.Driver (driver 1) (drivers.Ask true (dev 1)))
    ∷ steps.Enter (cpu 0) 1
    ∷ steps.Child (line 1) (by.Cpu (cpu 0) (cpus.Take ways.Line takes.Handle))
    ∷ steps.Child (line 1) (by.Cpu (cpu 0) (cpus.Begin (dev 1)))
    ∷ steps.Child (line 1) (by.Cpu (cpu 0) (cpus.Return answers.Handled (dev 1) 1))
    ∷ steps.Child (line 1) (by.Cpu (cpu 0) (cpus.End false false notes.Quiet))
    ∷ steps.Exit (cpu 0)
    ∷ steps.Child (line 1) (by.DriverCall (driver 1)
    (called.Unlink (unlinks.Unlinked true) (dev 1)))
    ∷ steps.Child (line 1) (by.DriverCall (driver 1) called.HardClear)
    ∷ steps.Child (line 1) (by.DriverCall (driver 1) (called.Freed (dev 1)))
    ∷ []

-- two children in one chain, the lower place first
abbrev pub two_children : BoardSeen
two_children = record {
  version = 1;
  cpus = 1;
  window = 100000;
  limit = 99900;
  log = 10000;
  domains = domain 4 levels.Level ∷ [];
  lines = row 1 2 ∷ row 2 3 ∷ [];
  devices = device 1 1 kinds.Direct ∷ device 2 2 kinds.Direct ∷ [];
  told = [];
  runs = [];
  drivers = driver 1 ∷ [];
  calls = call 1 1 (calls.Request (dev 1) no_flags) ∷
      call 1 2 (calls.Request (dev 2) no_flags) ∷
      call 1 2 (calls.Ask (dev 2)) ∷
      call 1 1 (calls.Ask (dev 1)) ∷
      [];
  picks = actors.Driver (driver 1) ∷ actors.Driver (driver 1) ∷ actors.Driver (driver 1)
      ∷ actors.Driver (driver 1) ∷ [];
}

abbrev pub two_children_rows : List ChainEntry
two_children_rows =
    steps.Child (line 1) (by.Driver (driver 1)
    (drivers.Request no_flags links.Linked (opens.Started resends.No) (dev 1)))
    ∷ steps.Child (line 2) (by.Driver (driver 1)
    (drivers.Request no_flags links.Linked (opens.Started resends.No) (dev 2)))
    ∷ steps.Child (line 2) (by.Driver (driver 1) (drivers.Ask true (dev 2)))
    ∷ steps.Child (line 1) (by.Driver (driver 1) (drivers.Ask true (dev 1)))
    ∷ steps.Enter (cpu 0) 3
    ∷ steps.Child (line 1) (by.Cpu (cpu 0) (cpus.Take ways.Line takes.Handle))
    ∷ steps.Child (line 1) (by.Cpu (cpu 0) (cpus.Begin (dev 1)))
    ∷ steps.Child (line 1) (by.Cpu (cpu 0) (cpus.Return answers.Handled (dev 1) 1))
    ∷ steps.Child (line 1) (by.Cpu (cpu 0) (cpus.End false true notes.Quiet))
    ∷ steps.Child (line 2) (by.Cpu (cpu 0) (cpus.Take ways.Line takes.Handle))
    ∷ steps.Child (line 2) (by.Cpu (cpu 0) (cpus.Begin (dev 2)))
    ∷ steps.Child (line 2) (by.Cpu (cpu 0) (cpus.Return answers.Handled (dev 2) 1))
    ∷ steps.Child (line 2) (by.Cpu (cpu 0) (cpus.End false true notes.Quiet))
    ∷ steps.Exit (cpu 0)
    ∷ []

-- a child asks again while the chain is open, and is taken in the next
abbrev pub asks_again : BoardSeen
asks_again = record {
  version = 1;
  cpus = 1;
  window = 100000;
  limit = 99900;
  log = 10000;
  domains = domain 4 levels.Level ∷ [];
  lines = row 1 2 ∷ row 2 3 ∷ [];
  devices = device 1 1 kinds.Direct ∷ device 2 2 kinds.Direct ∷ [];
  told = [];
  runs = [];
  drivers = driver 1 ∷ driver 2 ∷ [];
  calls = call 1 1 (calls.Request (dev 1) no_flags) ∷
      call 1 2 (calls.Request (dev 2) no_flags) ∷
      call 1 1 (calls.Ask (dev 1)) ∷
      call 1 2 (calls.Ask (dev 2)) ∷
      call 2 1 (calls.Ask (dev 1)) ∷
      [];
  picks = actors.Driver (driver 1) ∷ actors.Driver (driver 1) ∷ actors.Driver (driver 1)
      ∷ actors.Driver (driver 1) ∷ actors.Cpu (cpu 0) ∷ actors.Cpu (cpu 0) ∷ actors.Cpu (cpu 0)
      ∷ actors.Cpu (cpu 0) ∷ actors.Cpu (cpu 0) ∷ actors.Driver (driver 2) ∷ [];
}

abbrev pub asks_again_rows : List ChainEntry
asks_again_rows =
    steps.Child (line 1) (by.Driver (driver 1)
    (drivers.Request no_flags links.Linked (opens.Started resends.No) (dev 1)))
    ∷ steps.Child (line 2) (by.Driver (driver 1)
    (drivers.Request no_flags links.Linked (opens.Started resends.No) (dev 2)))
    ∷ steps.Child (line 1) (by.Driver (driver 1) (drivers.Ask true (dev 1)))
    ∷ steps.Child (line 2) (by.Driver (driver 1) (drivers.Ask true (dev 2)))
    ∷ steps.Enter (cpu 0) 3
    ∷ steps.Child (line 1) (by.Cpu (cpu 0) (cpus.Take ways.Line takes.Handle))
    ∷ steps.Child (line 1) (by.Cpu (cpu 0) (cpus.Begin (dev 1)))
    ∷ steps.Child (line 1) (by.Cpu (cpu 0) (cpus.Return answers.Handled (dev 1) 1))
    ∷ steps.Child (line 1) (by.Cpu (cpu 0) (cpus.End false true notes.Quiet))
    ∷ steps.Child (line 1) (by.Driver (driver 2) (drivers.Ask true (dev 1)))
    ∷ steps.Child (line 2) (by.Cpu (cpu 0) (cpus.Take ways.Line takes.Handle))
    ∷ steps.Child (line 2) (by.Cpu (cpu 0) (cpus.Begin (dev 2)))
    ∷ steps.Child (line 2) (by.Cpu (cpu 0) (cpus.Return answers.Handled (dev 2) 1))
    ∷ steps.Child (line 2) (by.Cpu (cpu 0) (cpus.End false true notes.Quiet))
    ∷ steps.Exit (cpu 0)
    ∷ steps.Enter (cpu 0) 1
    ∷ steps.Child (line 1) (by.Cpu (cpu 0) (cpus.Take ways.Line takes.Handle))
    ∷ steps.Child (line 1) (by.Cpu (cpu 0) (cpus.Begin (dev 1)))
    ∷ steps.Child (line 1) (by.Cpu (cpu 0) (cpus.Return answers.Handled (dev 1) 1))
    ∷ steps.Child (line 1) (by.Cpu (cpu 0) (cpus.End false true notes.Quiet))
    ∷ steps.Exit (cpu 0)
    ∷ []

-- an edge within the handler opens a chain of its own
abbrev pub edge_within : BoardSeen
edge_within = record {
  version = 1;
  cpus = 1;
  window = 100000;
  limit = 99900;
  log = 10000;
  domains = domain 4 levels.Latch ∷ [];
  lines = row 1 2 ∷ [];
  devices = device 1 1 kinds.Direct ∷ [];
  told = [];
  runs = [];
  drivers = driver 1 ∷ [];
  calls = call 1 1 (calls.Request (dev 1) no_flags) ∷
      call 1 1 (calls.Ask (dev 1)) ∷
      call 1 1 (calls.Ask (dev 1)) ∷
      [];
  picks = actors.Driver (driver 1) ∷ actors.Driver (driver 1) ∷ actors.Cpu (cpu 0)
      ∷ actors.Cpu (cpu 0) ∷ actors.Cpu (cpu 0) ∷ actors.Driver (driver 1) ∷ [];
}

abbrev pub edge_within_rows : List ChainEntry
edge_within_rows =
    steps.Child (line 1) (by.Driver (driver 1)
    (drivers.Request no_flags links.Linked (opens.Started resends.No) (dev 1)))
    ∷ steps.Child (line 1) (by.Driver (driver 1) (drivers.Ask true (dev 1)))
    ∷ steps.Enter (cpu 0) 1
    ∷ steps.Child (line 1) (by.Cpu (cpu 0) (cpus.Take ways.Line takes.Handle))
    ∷ steps.Child (line 1) (by.Cpu (cpu 0) (cpus.Begin (dev 1)))
    ∷ steps.Child (line 1) (by.Driver (driver 1) (drivers.Ask true (dev 1)))
    ∷ steps.Child (line 1) (by.Cpu (cpu 0) (cpus.Return answers.Handled (dev 1) 1))
    ∷ steps.Child (line 1) (by.Cpu (cpu 0) (cpus.End false false notes.Quiet))
    ∷ steps.Exit (cpu 0)
    ∷ steps.Enter (cpu 0) 1
    ∷ steps.Child (line 1) (by.Cpu (cpu 0) (cpus.Take ways.Line takes.Handle))
    ∷ steps.Child (line 1) (by.Cpu (cpu 0) (cpus.Begin (dev 1)))
    ∷ steps.Child (line 1) (by.Cpu (cpu 0) (cpus.Return answers.Handled (dev 1) 1))
    ∷ steps.Child (line 1) (by.Cpu (cpu 0) (cpus.End false false notes.Quiet))
    ∷ steps.Exit (cpu 0)
    ∷ []

-- a level within a handler of a fast eoi controller
abbrev pub level_within : BoardSeen
level_within = record {
  version = 1;
  cpus = 1;
  window = 100000;
  limit = 99900;
  log = 10000;
  domains = domain 4 levels.Eoi ∷ [];
  lines = row 1 2 ∷ [];
  devices = device 1 1 kinds.Direct ∷ [];
  told = [];
  runs = [];
  drivers = driver 1 ∷ [];
  calls = call 1 1 (calls.Request (dev 1) no_flags) ∷
      call 1 1 (calls.Ask (dev 1)) ∷
      call 1 1 (calls.Ask (dev 1)) ∷
      [];
  picks = actors.Driver (driver 1) ∷ actors.Driver (driver 1) ∷ actors.Cpu (cpu 0)
      ∷ actors.Cpu (cpu 0) ∷ actors.Cpu (cpu 0) ∷ actors.Driver (driver 1) ∷ [];
}

abbrev pub level_within_rows : List ChainEntry
level_within_rows =
    steps.Child (line 1) (by.Driver (driver 1)
    (drivers.Request no_flags links.Linked (opens.Started resends.No) (dev 1)))
    ∷ steps.Child (line 1) (by.Driver (driver 1) (drivers.Ask true (dev 1)))
    ∷ steps.Enter (cpu 0) 1
    ∷ steps.Child (line 1) (by.Cpu (cpu 0) (cpus.Take ways.Line takes.Handle))
    ∷ steps.Child (line 1) (by.Cpu (cpu 0) (cpus.Begin (dev 1)))
    ∷ steps.Child (line 1) (by.Driver (driver 1) (drivers.Ask true (dev 1)))
    ∷ steps.Child (line 1) (by.Cpu (cpu 0) (cpus.Return answers.Handled (dev 1) 1))
    ∷ steps.Child (line 1) (by.Cpu (cpu 0) (cpus.End false false notes.Quiet))
    ∷ steps.Exit (cpu 0)
    ∷ steps.Enter (cpu 0) 1
    ∷ steps.Child (line 1) (by.Cpu (cpu 0) (cpus.Take ways.Line takes.Handle))
    ∷ steps.Child (line 1) (by.Cpu (cpu 0) (cpus.Begin (dev 1)))
    ∷ steps.Child (line 1) (by.Cpu (cpu 0) (cpus.Return answers.Handled (dev 1) 1))
    ∷ steps.Child (line 1) (by.Cpu (cpu 0) (cpus.End false false notes.Quiet))
    ∷ steps.Exit (cpu 0)
    ∷ []

-- a thread steps before the exit
abbrev pub threads_first : BoardSeen
threads_first = record {
  version = 1;
  cpus = 1;
  window = 100000;
  limit = 99900;
  log = 10000;
  domains = domain 4 levels.Level ∷ [];
  lines = row 1 2 ∷ [];
  devices = device 1 1 kinds.Null ∷ [];
  told = [];
  runs = [];
  drivers = driver 1 ∷ [];
  calls = call 1 1 (calls.Request (dev 1) oneshot_flag) ∷
      call 1 1 (calls.Ask (dev 1)) ∷
      [];
  picks = [];
}

abbrev pub threads_first_rows : List ChainEntry
threads_first_rows =
    steps.Child (line 1) (by.Driver (driver 1)
    (drivers.Request oneshot_flag links.Linked (opens.Started resends.No) (dev 1)))
    ∷ steps.Child (line 1) (by.Driver (driver 1) (drivers.Ask true (dev 1)))
    ∷ steps.Enter (cpu 0) 1
    ∷ steps.Child (line 1) (by.Cpu (cpu 0) (cpus.Take ways.Line takes.Handle))
    ∷ steps.Child (line 1) (by.Cpu (cpu 0) (cpus.Begin (dev 1)))
    ∷ steps.Child (line 1) (by.Cpu (cpu 0) (cpus.Return answers.Wake (dev 1) 0))
    ∷ steps.Child (line 1) (by.Thread (dev 1) threads.Begin)
    ∷ steps.Child (line 1) (by.Thread (dev 1) (threads.Return true 1))
    ∷ steps.Child (line 1) (by.Cpu (cpu 0) (cpus.End false false notes.Quiet))
    ∷ steps.Child (line 1) (by.Thread (dev 1) (threads.Finish false true))
    ∷ steps.Child (line 1) (by.Thread (dev 1) threads.Done)
    ∷ steps.Exit (cpu 0)
    ∷ []

-- an enable that has the software resend raises the parent
abbrev pub soft_resend : BoardSeen
soft_resend = record {
  version = 1;
  cpus = 1;
  window = 100000;
  limit = 99900;
  log = 10000;
  domains = domain 4 levels.Plain ∷ [];
  lines = row 1 2 ∷ [];
  devices = device 1 1 kinds.Direct ∷ [];
  told = [];
  runs = [];
  drivers = driver 1 ∷ [];
  calls = call 1 1 (calls.Request (dev 1) no_flags) ∷
      call 1 1 calls.DisableNosync ∷
      call 1 1 (calls.Ask (dev 1)) ∷
      call 1 1 calls.Enable ∷
      [];
  picks = [];
}

abbrev pub soft_resend_rows : List ChainEntry
soft_resend_rows =
    steps.Child (line 1) (by.Driver (driver 1)
    (drivers.Request no_flags links.Linked (opens.Started resends.No) (dev 1)))
    ∷ steps.Child (line 1) (by.DriverCall (driver 1) called.Disable)
    ∷ steps.Child (line 1) (by.Driver (driver 1) (drivers.Ask true (dev 1)))
    ∷ steps.Enter (cpu 0) 1
    ∷ steps.Child (line 1) (by.Cpu (cpu 0) (cpus.Take ways.Line takes.Off))
    ∷ steps.Exit (cpu 0)
    ∷ steps.Child (line 1) (by.DriverCall (driver 1) (called.Enable (enables.Started resends.Soft)))
    ∷ steps.Enter (cpu 0) 1
    ∷ steps.Child (line 1) (by.Cpu (cpu 0) (cpus.Take ways.Resend takes.Handle))
    ∷ steps.Child (line 1) (by.Cpu (cpu 0) (cpus.Begin (dev 1)))
    ∷ steps.Child (line 1) (by.Cpu (cpu 0) (cpus.Return answers.Handled (dev 1) 1))
    ∷ steps.Child (line 1) (by.Cpu (cpu 0) (cpus.End false false notes.Quiet))
    ∷ steps.Exit (cpu 0)
    ∷ []

-- a sibling of the status is disabled before it is taken
abbrev pub sibling_disabled : BoardSeen
sibling_disabled = record {
  version = 1;
  cpus = 1;
  window = 100000;
  limit = 99900;
  log = 10000;
  domains = domain 4 levels.Level ∷ [];
  lines = row 1 2 ∷ row 2 3 ∷ [];
  devices = device 1 1 kinds.Direct ∷ device 2 2 kinds.Direct ∷ [];
  told = [];
  runs = [];
  drivers = driver 1 ∷ [];
  calls = call 1 1 (calls.Request (dev 1) no_flags) ∷
      call 1 2 (calls.Request (dev 2) no_flags) ∷
      call 1 1 (calls.Ask (dev 1)) ∷
      call 1 2 (calls.Ask (dev 2)) ∷
      call 1 2 calls.DisableNosync ∷
      call 1 2 calls.Enable ∷
      [];
  picks = actors.Driver (driver 1) ∷ actors.Driver (driver 1) ∷ actors.Driver (driver 1)
      ∷ actors.Driver (driver 1) ∷ actors.Cpu (cpu 0) ∷ actors.Cpu (cpu 0)
      ∷ actors.Driver (driver 1) ∷ [];
}

abbrev pub sibling_disabled_rows : List ChainEntry
sibling_disabled_rows =
    steps.Child (line 1) (by.Driver (driver 1)
    (drivers.Request no_flags links.Linked (opens.Started resends.No) (dev 1)))
    ∷ steps.Child (line 2) (by.Driver (driver 1)
    (drivers.Request no_flags links.Linked (opens.Started resends.No) (dev 2)))
    ∷ steps.Child (line 1) (by.Driver (driver 1) (drivers.Ask true (dev 1)))
    ∷ steps.Child (line 2) (by.Driver (driver 1) (drivers.Ask true (dev 2)))
    ∷ steps.Enter (cpu 0) 3
    ∷ steps.Child (line 1) (by.Cpu (cpu 0) (cpus.Take ways.Line takes.Handle))
    ∷ steps.Child (line 2) (by.DriverCall (driver 1) called.Disable)
    ∷ steps.Child (line 1) (by.Cpu (cpu 0) (cpus.Begin (dev 1)))
    ∷ steps.Child (line 1) (by.Cpu (cpu 0) (cpus.Return answers.Handled (dev 1) 1))
    ∷ steps.Child (line 1) (by.Cpu (cpu 0) (cpus.End false true notes.Quiet))
    ∷ steps.Child (line 2) (by.Cpu (cpu 0) (cpus.Take ways.Line takes.Off))
    ∷ steps.Exit (cpu 0)
    ∷ steps.Child (line 2) (by.DriverCall (driver 1) (called.Enable (enables.Started resends.No)))
    ∷ steps.Enter (cpu 0) 2
    ∷ steps.Child (line 2) (by.Cpu (cpu 0) (cpus.Take ways.Line takes.Handle))
    ∷ steps.Child (line 2) (by.Cpu (cpu 0) (cpus.Begin (dev 2)))
    ∷ steps.Child (line 2) (by.Cpu (cpu 0) (cpus.Return answers.Handled (dev 2) 1))
    ∷ steps.Child (line 2) (by.Cpu (cpu 0) (cpus.End false true notes.Quiet))
    ∷ steps.Exit (cpu 0)
    ∷ []
