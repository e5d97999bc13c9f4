-- Definitions that differ in the log limit alone.
use Rattle.std.specs.Prelude.{ℕ}
use Rattle.irq_base.specs.declared.lines.LineDef.{LineDef}

abbrev pub with_log : LineDef → ℕ → LineDef
with_log def n = record def { log = n }
