-- The line of a log that is long enough: an edge line of one device, with one ask, whose log limit
-- is its bound.
use Rattle.std.specs.Prelude.{true, false, [], ◌∷◌}
use Rattle.irq_base.specs.declared.calls.Call.TheVariants as calls
use Rattle.irq_base.specs.declared.devices.Kind.TheVariants as kinds
use Rattle.irq_base.specs.declared.lines.FlowKind.TheVariants as flows
use Rattle.irq_base.specs.declared.lines.LineDef.{LineDef}
use Rattle.irq_base.specs.declared.lines.Trigger.TheVariants as triggers

abbrev pub asked_line : LineDef
asked_line =
    record {
      line = record { 0 = 7 };
      flow = flows.Edge;
      trigger = triggers.Edge;
      keeps = true;
      recalls = true;
      retriggers = true;
      unlazy = false;
      later = false;
      mask = 1;
      cpus = 1;
      window = 100000;
      limit = 99900;
      log = 28;
      devices =
          record {
            dev = record { 0 = 3 };
            line = record { 0 = 7 };
            kind = kinds.Direct;
            held = false;
            forgets = false;
          } ∷ [];
      calls = (record { 0 = 1 }, calls.Ask (record { 0 = 3 })) ∷ [];
      runs = [];
      told = [];
    }
