use Rattle.std.specs.Prelude.{ℕ, List}
use Rattle.irq_base.specs.declared.reporting.LineReport.{LineReport}

-- What is seen of the reports: one for each line, and how many more fit without memory.
pub record ReportsSeen : Type 0 where
  pub reports : List LineReport
  pub spare : ℕ
