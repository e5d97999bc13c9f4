use Rattle.std.proofs.Common.{sym, subst}
use Rattle.device_table.specs.Rows.{all_with}
use Rattle.act_thread.specs.Marked.{IsKept}
use Rattle.act_thread.specs.Steps.{idle_row}
use Rattle.act_thread.proofs.Starting.{all_kept}
use Rattle.act_thread.proofs.threads.Threads.new.Goals as goal

pub invariant_of-result : goal.invariant_of-result
invariant_of-result c =
    subst (λ t. IsKept t 0 0 c.in_ok-ranks.ranks c.new-3.result c.new-4.result) (sym c.in_ok-rows.ensures)
    (subst (λ r. IsKept (all_with idle_row c.args.def.now.devices) 0 0 r c.new-3.result c.new-4.result)
    (sym c.in_ok-ranks.ensures) (all_kept c.args.def.now.devices c.new-3.result c.new-4.result c.requires.distinct
    c.requires.few c.new-3.ensures c.new-4.ensures))
