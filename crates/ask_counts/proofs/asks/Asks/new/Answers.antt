use Rattle.std.proofs.Common.{sym, subst}
use Rattle.ask_counts.specs.Rows.{IsCounted}
use Rattle.ask_counts.proofs.Starting.{all_counted}
use Rattle.ask_counts.proofs.asks.Asks.new.Goals as goal

pub invariant_of-result : goal.invariant_of-result
invariant_of-result c = subst (λ t. IsCounted t 0) (sym c.in_ok-rows.ensures) (all_counted c.args.def.now.devices c.requires.few)
