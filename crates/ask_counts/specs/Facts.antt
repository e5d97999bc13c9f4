-- What is fixed of a line's devices, read off its definition.
use Rattle.std.specs.Prelude.{false, unwrap_or, None, List}
use Rattle.irq_base.specs.declared.devices.Kind.TheVariants as kinds
use Rattle.irq_base.specs.declared.lines.LineDef.{LineDef}
use Rattle.irq_base.specs.declared.numbers.DevNo.{DevNo}
use Rattle.irq_model.specs.Asks.{serving}
use Rattle.irq_model.specs.Lines.{kind_of, is_held, does_forget}
use Rattle.device_table.specs.Rows.{at, table_by}
use Rattle.ask_counts.specs.declared.facts.DeviceFacts.{DeviceFacts}

abbrev pub facts_of : LineDef → DevNo → DeviceFacts
facts_of def d = record {
  kind = kind_of def d;
  serving = serving def d;
  held = is_held def d;
  forgets = does_forget def d;
}

-- each device of the line with its facts
abbrev pub all_facts : LineDef → List (DevNo × DeviceFacts)
all_facts def = table_by (facts_of def) def.devices

-- those of a device that the line lacks: it counts as stuck, and never serves
abbrev pub no_facts : DeviceFacts
no_facts = record { kind = kinds.Stuck; serving = None; held = false; forgets = false }

abbrev pub facts_at : List (DevNo × DeviceFacts) → DevNo → DeviceFacts
facts_at t d = unwrap_or (at t d) no_facts
