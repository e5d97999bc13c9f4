use Rattle.std.proofs.Common.{length, sym, ap, ◌∙◌}
use Rattle.log_check.proofs.Printable.{adds, heard_printable, stands_last}
use Rattle.log_check.proofs.line_judge.adds.Goals as goal

pub after_row_of-requires-clause-printable : goal.after_row_of-requires-clause-printable
after_row_of-requires-clause-printable g c =
    let seen = g.L.IrqLine.seen in
    heard_printable (seen c.args.line.now) (seen c.step.new.line) c.args.actor c.in_ok-entry.field-0 c.in-Some.entry c.in_ok-entry.ensures.added c.in-Some.is

pub after_row_of-requires-clause-at : goal.after_row_of-requires-clause-at
after_row_of-requires-clause-at g c =
    let seen = g.L.IrqLine.seen in
    stands_last (seen c.args.line.now) (seen c.step.new.line) c.args.actor c.in_ok-entry.field-0 c.in-Some.entry c.in_ok-entry.ensures.added c.in-Some.is
    c.history-2.result.now.entries c.len-place.result c.history-2.ensures.entries
    (c.len-place.ensures ∙ ap length c.history.ensures.entries)

pub returns : goal.returns
returns g c =
    let seen = g.L.IrqLine.seen in
    adds (seen c.args.line.now) (seen c.step.new.line) c.args.actor c.in_ok-entry.field-0 c.in-Some.entry c.in_ok-entry.ensures.added c.in-Some.is
    c.args.board.now c.args.text.now c.args.number _ (sym c.may_have.ensures ∙ c.if-not-may_have.false)
    c.after_row_of.ensures.number c.after_row_of.ensures.entry c.after_row_of.ensures.follows
