-- Short words for the worked histories: the parts of line 1, and the kinds of lines.
use Rattle.std.specs.Prelude.{ℕ, true, false, []}
use Rattle.irq_base.specs.declared.numbers.LineNo.{LineNo}
use Rattle.irq_base.specs.declared.numbers.CpuNo.{CpuNo}
use Rattle.irq_base.specs.declared.numbers.DevNo.{DevNo}
use Rattle.irq_base.specs.declared.numbers.DriverNo.{DriverNo}
use Rattle.irq_base.specs.declared.calls.Flags.{Flags}
use Rattle.irq_base.specs.declared.devices.Kind.{Kind}
use Rattle.irq_base.specs.declared.devices.DeviceDef.{DeviceDef}
use Rattle.irq_base.specs.declared.lines.Trigger.TheVariants as triggers
use Rattle.irq_base.specs.declared.lines.FlowKind.TheVariants as flows
use Rattle.irq_base.specs.declared.lines.LineDef.{LineDef}

abbrev pub line : LineNo
line = record { 0 = 1 }

abbrev pub cpu : ℕ → CpuNo
cpu n = record { 0 = n }

abbrev pub dev : ℕ → DevNo
dev n = record { 0 = n }

abbrev pub driver : ℕ → DriverNo
driver n = record { 0 = n }

abbrev pub device : ℕ → Kind → DeviceDef
device n kind = record { dev = dev n; line = line; kind = kind; held = false; forgets = false }

abbrev pub no_flags : Flags
no_flags = record { shared = false; oneshot = false; noauto = false }

abbrev pub shared : Flags
shared = record { shared = true; oneshot = false; noauto = false }

abbrev pub oneshot : Flags
oneshot = record { shared = false; oneshot = true; noauto = false }

abbrev pub shared_oneshot : Flags
shared_oneshot = record { shared = true; oneshot = true; noauto = false }

abbrev pub shared_noauto : Flags
shared_noauto = record { shared = true; oneshot = false; noauto = true }

-- an edge line of one processor, whose chip stores edges, takes them back when it is masked, and
-- can send them again
abbrev pub latch : LineDef
latch =
    record {
      line = line;
      flow = flows.Edge;
      trigger = triggers.Edge;
      keeps = true;
      recalls = true;
      retriggers = true;
      unlazy = false;
      later = false;
      mask = 1;
      cpus = 1;
      window = 100000;
      limit = 99900;
      log = 10000;
      devices = [];
      calls = [];
      runs = [];
      told = [];
    }

-- one whose chip drops edges while it is masked
abbrev pub plain : LineDef
plain = record latch { keeps = false; recalls = false; retriggers = false }

-- a message line over a vector of a processor, masked as soon as it is disabled
abbrev pub msi : LineDef
msi = record latch { recalls = false; unlazy = true }

-- an edge line with the fast-EOI flow
abbrev pub lpi : LineDef
lpi = record latch { flow = flows.Eoi }

-- a level line with the level flow
abbrev pub level : LineDef
level = record plain { flow = flows.Level; trigger = triggers.Level }

-- one with the fast-EOI flow
abbrev pub eoi : LineDef
eoi = record level { flow = flows.Eoi }
