use Rattle.irq_chained.proofs.Turning.{number_is}
use Rattle.irq_chained.proofs.status.number_at.Goals as goal

pub returns : goal.returns
returns g c = number_is g.L.IrqLine.seen c.lines.result.now c.args.system.now.lines c.args.place
    c.index-lines-place.result c.definition.result.now c.lines.ensures c.requires c.index-lines-place.is
    c.definition.ensures
