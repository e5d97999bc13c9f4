use Rattle.log_read.proofs.RowCutting.{hash_first}
use Rattle.log_check.proofs.why.begins_with_hash.Goals as goal

pub returns-in-Some : goal.returns-in-Some
returns-in-Some c = hash_first c.args.row.now c.in-Some.b.now c.in-Some.ensures.value
