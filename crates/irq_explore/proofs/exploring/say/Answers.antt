use Rattle.std.proofs.Common.{Ok, Err}
use Rattle.std.proofs.lemmas.Result.{err_from_is_err_and}
use Rattle.irq_explore.proofs.Said.{says}
use Rattle.irq_explore.proofs.exploring.say.Goals as goal

pub returns-clause-explores : goal.returns-clause-explores
returns-clause-explores g c =
    let sink = g.O.Sink.written in
    let r = c.requires in (
      c.args.answer.now,
      c.found_by.ensures,
      says c.args.states c.args.board.now c.args.line c.args.wanted (sink c.args.out.now) (sink c.print_answer.new.out)
          c.args.answer.now (Ok tt) r.there r.answered r.rows
          c.answer_is_small.ensures.number c.answer_is_small.ensures.entries c.in_ok-print_answer.ensures.content,
    )

pub returns-in_err-print_answer-clause-explores : goal.returns-in_err-print_answer-clause-explores
returns-in_err-print_answer-clause-explores g c =
    let sink = g.O.Sink.written in
    let r = c.requires in
    let p = err_from_is_err_and c.from_residual.result c.from_residual.ensures.1 in
    rw (p.1, p.2) (
      c.args.answer.now,
      says c.args.states c.args.board.now c.args.line c.args.wanted (sink c.args.out.now) (sink c.print_answer.new.out)
          c.args.answer.now (Err c.in_err-print_answer.field-0.0) r.there r.answered r.rows
          c.answer_is_small.ensures.number c.answer_is_small.ensures.entries c.in_err-print_answer.ensures.content,
    )
