use Rattle.std.proofs.Common.{◌≡◌, length, refl, ap, ◌∙◌, arith}
use Rattle.std.specs.Fmt.{digits}
use Rattle.irq_base.specs.declared.entries.Entry.TheVariants as by
use Rattle.irq_base.specs.declared.entries.ThreadEntry.TheVariants as threads
use Rattle.log_text.specs.Rows.{entry_text}
use Rattle.log_text.proofs.kept.KeptRow.first.Goals as goal

-- "0 t0 done", and a line feed
ten : length (entry_text (record { 0 = 0 }) (by.Thread (record { 0 = 0 }) threads.Done)) ≡ 10
unfolding digits
ten = refl

pub keep-requires-clause-short : goal.keep-requires-clause-short
keep-requires-clause-short c = omega (arith, ap length (c.bytes.ensures.bytes ∙ c.entry_row.ensures.text), ten)
