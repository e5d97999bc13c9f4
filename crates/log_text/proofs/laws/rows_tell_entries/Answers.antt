use Rattle.log_text.proofs.RowLaws.{rows_tell}
use Rattle.log_text.proofs.laws.rows_tell_entries.Goals as goal

pub returns : goal.returns
returns c = record { law = rows_tell }
