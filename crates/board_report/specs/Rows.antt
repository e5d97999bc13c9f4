-- Which reports can be printed entry by entry.
use Rattle.std.specs.Prelude.{All}
use Rattle.irq_base.specs.declared.reporting.LineReport.{LineReport}
use Rattle.log_text.specs.EntryWords.{IsPrintable}

-- each entry of the report has a row
abbrev pub HasRows : LineReport → Type 0
HasRows report = All IsPrintable report.history.entries
