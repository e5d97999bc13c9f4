use Rattle.std.proofs.Common.{◌+◌}
use Rattle.std.proofs.lemmas.List.{take_rest}
use Rattle.log_read.proofs.RowCutting.{at_feed, no_feed}
use Rattle.log_read.proofs.reading.cut_row.Goals as goal

pub returns-in-Some-clause-rows : goal.returns-in-Some-clause-rows
returns-in-Some-clause-rows c = rw (take_rest c.args.text.now (c.in-Some.end + 1)) (at_feed c.args.text.now c.in-Some.end c.in-Some.ensures)

pub returns-in-None-clause-rows : goal.returns-in-None-clause-rows
returns-in-None-clause-rows c = no_feed c.args.text.now c.requires c.in-None.ensures
