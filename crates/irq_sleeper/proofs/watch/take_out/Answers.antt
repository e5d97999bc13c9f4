use Rattle.std.proofs.Common.{rules}
use Rattle.std.proofs.lemmas.Fn.{filter_same}
use Rattle.irq_sleeper.proofs.Taking.{among_left}
use Rattle.irq_sleeper.proofs.watch.take_out.Goals as goal

pub returns : goal.returns
returns c = among_left c.args.line c.args.lines.now.items _
    (filter_same _ _ _ (λ x b f' k. search rules) _ _ c.retain.ensures.filtered)
