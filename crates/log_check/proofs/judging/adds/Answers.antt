use Rattle.std.proofs.Common.{subst}
use Rattle.irq_base.specs.declared.entries.Actor.{Actor}
use Rattle.log_check.specs.Judged.{AddsDue}
use Rattle.log_check.proofs.Trying.{tried}
use Rattle.log_check.proofs.judging.adds.Goals as goal

pub returns-clause-tried : goal.returns-clause-tried
returns-clause-tried g c =
    let seen = g.L.IrqLine.seen in
    let old = seen c.args.line.now in
    tried old (seen c.step.new.line) c.args.entry c.in_ok-due.due c.eq.result
    (subst (λ (a : Actor). AddsDue old a c.in_ok-due.due (seen c.step.new.line)) c.actor.ensures c.in_ok-due.ensures.added) c.eq.ensures
