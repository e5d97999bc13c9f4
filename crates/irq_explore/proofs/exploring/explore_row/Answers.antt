use Rattle.irq_explore.proofs.Placed.{answered_line}
use Rattle.irq_explore.proofs.Said.{all_there}
use Rattle.irq_explore.proofs.exploring.explore_row.Goals as goal

pub say-requires-clause-there : goal.say-requires-clause-there
say-requires-clause-there g c =
    all_there c.args.board.now c.args.line c.args.wanted c.in-Some.place c.has_named.result c.in-Some.ensures c.has_named.ensures c.if-not-has_named.false

pub say-requires-clause-answered : goal.say-requires-clause-answered
say-requires-clause-answered g c =
    answered_line c.args.board.now c.is_board.ensures.board c.args.line c.in-Some.place c.in-Some.ensures c.args.states c.args.wanted
    c.in_ok-answer.answer c.in_ok-answer.ensures.answered
