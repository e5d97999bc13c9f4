use Rattle.std.proofs.Common.{◌≡◌, take}
use Rattle.device_table.specs.Rows.{table_by}
use Rattle.ask_counts.specs.Facts.{facts_of}
use Rattle.ask_counts.proofs.facts.FactTable.new.Given as goal

abbrev pub invariant-loop-i : goal.invariant-loop-i
invariant-loop-i l = l.facts ≡ table_by (facts_of l.def) (take l.i l.def.devices)
