-- The signal cell with the properties and the marks that are told.
use Rattle.irq_base.specs.Cell.{Cell}
use Rattle.line_cell.specs.declared.marks.CellMarks.{CellMarks}

abbrev pub cell_told : CellMarks → Cell
cell_told m = record {
  trigger = m.trigger;
  keeps = m.keeps;
  recalls = m.recalls;
  retriggers = m.retriggers;
  serves = m.serves;
  masked = m.masked;
  stored = m.stored;
  sent = m.sent;
  high = m.high;
  in_service = m.in_service;
}
