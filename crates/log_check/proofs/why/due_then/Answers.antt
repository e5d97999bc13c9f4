use Rattle.log_check.proofs.OneUndue.{was_due, wasnt_due}
use Rattle.log_check.proofs.Printable.{heard_printable}
use Rattle.log_check.proofs.why.due_then.Goals as goal

pub returns-in-Some-clause-tries : goal.returns-in-Some-clause-tries
returns-in-Some-clause-tries g c =
    let seen = g.L.IrqLine.seen in
    wasnt_due (seen c.args.line.now) (seen c.step.new.line) c.actor-actor.result c.args.entry c.actor-actor.ensures c.in_ok-due.due
    c.in_ok-due.ensures.added c.eq.result c.eq.ensures c.in-Some.due c.if-eq.false c.in-Some.is

pub returns-in-Some-clause-printable : goal.returns-in-Some-clause-printable
returns-in-Some-clause-printable g c =
    let seen = g.L.IrqLine.seen in
    heard_printable (seen c.args.line.now) (seen c.step.new.line) c.actor-actor.result c.in_ok-due.due c.in-Some.due c.in_ok-due.ensures.added c.in-Some.is

pub returns-then-eq-clause-tries : goal.returns-then-eq-clause-tries
returns-then-eq-clause-tries g c =
    let seen = g.L.IrqLine.seen in
    was_due (seen c.args.line.now) (seen c.step.new.line) c.actor-actor.result c.args.entry c.actor-actor.ensures c.in_ok-due.due
    c.in_ok-due.ensures.added c.eq.result c.eq.ensures c.if-eq.true
