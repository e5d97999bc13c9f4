use Rattle.std.proofs.Common.{subst, sym, refl, None, Option, ◌≡◌}
use Rattle.irq_base.specs.declared.entries.Actor.TheVariants as actors
use Rattle.irq_chained.proofs.Lowest.{driver_is_lowest, no_driver}
use Rattle.irq_chained.specs.Seen.{DemuxSeen}
use Rattle.irq_chained.specs.Turned.{TurnsBy, lowest_driver_of, next_of}
use Rattle.irq_chained.specs.declared.chain.ChainEntry.{ChainEntry}
use Rattle.irq_chained.proofs.Wanting.{due_wants}
use Rattle.irq_chained.proofs.demux.Demux.turn_lowest_driver.Goals as goal

pub returns-in-Some-clause-turns : goal.returns-in-Some-clause-turns
returns-in-Some-clause-turns g c =
    let is = subst (λ (d : DemuxSeen). lowest_driver_of d ≡ next_of d (actors.Driver c.in-Some.driver)) c.self.view_is
    (driver_is_lowest c.self.invariant c.in-Some.driver c.in-Some.ensures) in
    subst (λ (o : Option ChainEntry). TurnsBy c.args.self.now o c.turn_other.result c.turn_other.new.self) (sym is) c.turn_other.ensures.turns

pub returns-in-None-clause-turns : goal.returns-in-None-clause-turns
returns-in-None-clause-turns g c =
    (subst (λ (d : DemuxSeen). lowest_driver_of d ≡ None) c.self.view_is (no_driver c.self.invariant c.in-None.ensures), refl)

pub returns-in-Some-clause-memory : goal.returns-in-Some-clause-memory
returns-in-Some-clause-memory g c =
    let is = subst (λ (d : DemuxSeen). lowest_driver_of d ≡ next_of d (actors.Driver c.in-Some.driver)) c.self.view_is
    (driver_is_lowest c.self.invariant c.in-Some.driver c.in-Some.ensures) in
    due_wants g.L.IrqLine.may_want c.args.self.now (lowest_driver_of c.args.self.now) (actors.Driver c.in-Some.driver) c.turn_other.result is
    c.turn_other.ensures.memory
