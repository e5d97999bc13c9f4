-- Short words for boards that are written out.
use Rattle.std.specs.Prelude.{ℕ, true, false, None, codes}
use Rattle.irq_base.specs.declared.calls.Call.{Call}
use Rattle.irq_base.specs.declared.calls.Flags.{Flags}
use Rattle.irq_base.specs.declared.devices.DeviceDef.{DeviceDef}
use Rattle.irq_base.specs.declared.devices.Kind.{Kind}
use Rattle.irq_base.specs.declared.domains.ControllerKind.{ControllerKind}
use Rattle.irq_base.specs.declared.domains.MapKind.TheVariants as maps
use Rattle.irq_base.specs.declared.numbers.CpuNo.{CpuNo}
use Rattle.irq_base.specs.declared.numbers.DevNo.{DevNo}
use Rattle.irq_base.specs.declared.numbers.DriverNo.{DriverNo}
use Rattle.irq_base.specs.declared.numbers.LineNo.{LineNo}
use Rattle.board_def.specs.Names.{name_of}
use Rattle.board_def.specs.declared.rows.DomainRow.{DomainRow}
use Rattle.board_def.specs.declared.rows.LineRow.{LineRow}
use Rattle.board_def.specs.declared.rows.ScriptCall.{ScriptCall}

abbrev pub line : ℕ → LineNo
line n = record { 0 = n }

abbrev pub cpu : ℕ → CpuNo
cpu n = record { 0 = n }

abbrev pub dev : ℕ → DevNo
dev n = record { 0 = n }

abbrev pub driver : ℕ → DriverNo
driver n = record { 0 = n }

abbrev pub no_flags : Flags
no_flags = record { shared = false; oneshot = false; noauto = false }

abbrev pub oneshot_flag : Flags
oneshot_flag = record { shared = false; oneshot = true; noauto = false }

-- a domain with `size` hardware numbers, over controllers of this kind
abbrev pub domain : ℕ → ControllerKind → DomainRow
domain size kind = record {
  name = name_of (codes "intc");
  def = record { map = maps.Linear size; kind = kind; parent = None };
}

-- a line of the first domain, on one processor
abbrev pub row : ℕ → ℕ → LineRow
row n hw = record {
  line = line n;
  domain = 0;
  hw = hw;
  unlazy = false;
  later = false;
  mask = 1;
}

abbrev pub device : ℕ → ℕ → Kind → DeviceDef
device n of_line kind = record {
  dev = dev n;
  line = line of_line;
  kind = kind;
  held = false;
  forgets = false;
}

abbrev pub call : ℕ → ℕ → Call → ScriptCall
call by of_line called = record { driver = driver by; line = line of_line; call = called }
