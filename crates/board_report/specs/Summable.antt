-- Which reports can be summed up.
use Rattle.std.specs.Prelude.{◌≤◌, length}
use Rattle.irq_base.specs.declared.reporting.LineReport.{LineReport}
use Rattle.log_summary.specs.Lasts.{TellsLasts}

-- the history isn't too long, and its unlinks tell rightly whether they were the last, as those of
-- each legal history do
pub record IsSummable (report : LineReport) : Type 0 where
  pub few : length report.history.entries ≤ 100000000
  pub lasts : TellsLasts report.history.entries
