-- The vector level of a path, as a signal cell.
use Rattle.std.specs.Prelude.{Bool, true, false}
use Rattle.irq_base.specs.Cell.{Cell}
use Rattle.irq_base.specs.declared.lines.Trigger.TheVariants as triggers

-- an edge cell that retriggers and is never masked; all that changes is whether an edge is sent
abbrev pub vector_cell : Bool → Cell
vector_cell sent = record {
  trigger = triggers.Edge;
  keeps = false;
  recalls = false;
  retriggers = true;
  serves = false;
  masked = false;
  stored = false;
  sent = sent;
  high = false;
  in_service = false;
}
