use Rattle.std.proofs.Common.{map, ◌∙◌}
use Rattle.workers.specs.Terms.{terms_of}
use Rattle.irq_run.proofs.Coming.{came}
use Rattle.irq_run.proofs.Given.{settled_given}
use Rattle.irq_run.proofs.running.settle.Goals as goal

pub returns-clause-run : goal.returns-clause-run
returns-clause-run g c = record {
  board = c.settle_lines-end.ensures.board ∙ c.in_ok-system.ensures.board;
  layout = c.settle_lines-end.ensures.layout ∙ (c.in_ok-system.ensures.layout ∙ c.requires.layout);
  ends = c.settle_lines-end.ensures.end;
}

pub returns-clause-came : goal.returns-clause-came
returns-clause-came g c =
    came (terms_of g.L.IrqLine.seen g.L.IrqLine.may_want (g.H.SharedHandler.gave c.args.handlers.now))
    c.args.board.now c.args.lines c.args.jobs (map g.L.IrqLine.seen c.in_ok-lines.lines.items) c.in_ok-system.system c.settle_lines-end.new.self
    c.is_board.ensures.board c.requires.board c.requires.fit c.requires.over c.in_ok-lines.ensures.kept c.in_ok-lines.ensures.gathered
    c.in_ok-system.ensures.board c.in_ok-system.ensures.lines c.settle_lines-end.ensures.settles

pub returns-clause-given : goal.returns-clause-given
returns-clause-given g c =
    settled_given (g.H.SharedHandler.gave c.args.handlers.now) c.args.board.now c.args.lines c.args.jobs (map g.L.IrqLine.seen c.in_ok-lines.lines.items)
    c.in_ok-system.system c.settle_lines-end.new.self c.is_board.ensures.board c.requires.board c.requires.fit c.requires.given
    c.in_ok-lines.ensures.kept c.in_ok-lines.ensures.gathered c.in_ok-system.ensures.lines
    _ _ _ (λ run new heard. heard) c.settle_lines-end.ensures.settles
