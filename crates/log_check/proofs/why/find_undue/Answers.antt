use Rattle.std.proofs.Common.{rules, refl}
use Rattle.std.specs.Option.{option_map}
use Rattle.log_check.proofs.OneUndue.{at_next, none_ended, none_undue, undue_here}
use Rattle.log_check.proofs.why.find_undue.Goals as goal

pub returns-in_default-clause-explains : goal.returns-in_default-clause-explains
returns-in_default-clause-explains g c =
    none_ended c.args.number c.args.log.now c.loop-rest.rest.now c.loop-rest.row (option_map g.L.IrqLine.seen c.args.fresh)
    (option_map g.L.IrqLine.seen c.loop-rest.line) c.loop-rest.invariant c.in_default.ensures.rows

pub returns-in-Some-2-clause-explains : goal.returns-in-Some-2-clause-explains
returns-in-Some-2-clause-explains g c =
    undue_here c.args.number c.args.log.now c.loop-rest.rest.now c.loop-rest.row (option_map g.L.IrqLine.seen c.args.fresh)
    (option_map g.L.IrqLine.seen c.loop-rest.line) (option_map g.L.IrqLine.seen c.undue_in.new.line) c.loop-rest.invariant _
    c.in-Some.after.now c.in-Some.ensures.rows _ refl (rw c.in-Some-2.is at c.in_ok-due.ensures.finds)

pub loop-rest-preserved : goal.loop-rest-preserved
loop-rest-preserved g c =
    at_next c.args.number c.args.log.now c.loop-rest.rest.now c.loop-rest.row (option_map g.L.IrqLine.seen c.args.fresh)
    (option_map g.L.IrqLine.seen c.loop-rest.line) (option_map g.L.IrqLine.seen c.undue_in.new.line) c.loop-rest.invariant _
    c.in-Some.after.now c.in-Some.ensures.rows c.in-Some.ensures.shorter c.in_ok-due.ensures.grows (rw c.in_default-2.is at c.in_ok-due.ensures.finds)

pub returns-clause-explains : goal.returns-clause-explains
returns-clause-explains g c =
    none_undue c.args.number c.args.log.now c.loop-rest.rest.now c.loop-rest.row (option_map g.L.IrqLine.seen c.args.fresh)
    (option_map g.L.IrqLine.seen c.loop-rest.line) c.loop-rest.invariant (search rules)
