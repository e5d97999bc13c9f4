-- What it means that a row is kept: it is the row of its word's entry.
use Rattle.std.specs.Prelude.{◌≡◌, ◌≤◌, [], take}
use Rattle.irq_base.specs.Packed.{unpack}
use Rattle.log_text.specs.Rows.{entry_text}
use Rattle.log_text.specs.declared.kept.KeptRow.{KeptRow}

pub record IsKept (row : KeptRow) : Type 0 where
  pub fits : row.len ≤ 48
  pub text : take row.len row.bytes ≡ entry_text row.line (unpack [] row.word)
