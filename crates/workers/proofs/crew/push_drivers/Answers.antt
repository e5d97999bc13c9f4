use Rattle.std.proofs.Common.{sym, ◌∙◌}
use Rattle.irq_base.specs.declared.numbers.DriverNo.{DriverNo}
use Rattle.irq_base.specs.declared.entries.Actor.TheVariants as kinds
use Rattle.workers.proofs.Manning.{pushed}
use Rattle.workers.proofs.crew.push_drivers.Goals as goal

pub loop-i-preserved : goal.loop-i-preserved
loop-i-preserved c =
    pushed (λ (r : DriverNo). kinds.Driver r) c.args.crew.now.items c.loop-i.crew.items c.push.new.self.items
    c.args.board.now.drivers c.loop-i.i c.in-Some.driver c.loop-i.invariant
    (sym c.driver.ensures ∙ c.in-Some.is) c.in_ok-push.ensures.items
