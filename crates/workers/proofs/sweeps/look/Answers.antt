use Rattle.workers.specs.Terms.{terms_of}
use Rattle.workers.proofs.Sweeping.{all_more}
use Rattle.workers.proofs.sweeps.look.Goals as goal

pub returns-then-ne : goal.returns-then-ne
returns-then-ne g c =
    all_more (terms_of g.L.IrqLine.seen g.L.IrqLine.may_want (g.H.SharedHandler.gave c.args.handlers.now))
    c.args.board.now c.args.lines.now c.args.jobs.now c.loop.jobs c.sweep-end.new.jobs
    c.loop.auto.jobs c.loop.invariant c.sweep-end.ensures

pub loop-preserved : goal.loop-preserved
loop-preserved g c =
    all_more (terms_of g.L.IrqLine.seen g.L.IrqLine.may_want (g.H.SharedHandler.gave c.args.handlers.now))
    c.args.board.now c.args.lines.now c.args.jobs.now c.loop.jobs c.sweep-end.new.jobs
    c.loop.auto.jobs c.loop.invariant c.sweep-end.ensures

pub returns : goal.returns
returns g c =
    all_more (terms_of g.L.IrqLine.seen g.L.IrqLine.may_want (g.H.SharedHandler.gave c.args.handlers.now))
    c.args.board.now c.args.lines.now c.args.jobs.now c.loop.jobs c.sweep.new.jobs
    c.loop.auto.jobs c.loop.invariant c.sweep.ensures
