use Rattle.std.proofs.Common.{sym, subst}
use Rattle.std.proofs.lemmas.List.{get_or-replicate}
use Rattle.log_text.specs.Kept.{IsKept}
use Rattle.log_text.proofs.kept.KeptRows.new.Goals as goal

pub invariant_of-result : goal.invariant_of-result
invariant_of-result c k d small = subst IsKept (sym (get_or-replicate 512 k c.first-kept.result d small)) c.first-kept.ensures
