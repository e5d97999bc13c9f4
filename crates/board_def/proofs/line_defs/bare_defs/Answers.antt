use Rattle.std.proofs.Common.{[], sym}
use Rattle.board_def.specs.LineOf.{line_of_row, with_parts}
use Rattle.board_def.proofs.Defining.{row_more}
use Rattle.board_def.proofs.line_defs.bare_defs.Goals as goal

pub loop-i-preserved : goal.loop-i-preserved
loop-i-preserved c =
    let b = c.args.board.now in
    row_more (line_of_row (with_parts b [] [] [] [])) b.lines c.loop-i.i c.in-Some.row c.loop-i.defs.items
    c.push.new.self.items c.bare_def.result (sym c.in-Some.ensures) c.loop-i.invariant c.bare_def.ensures
    c.in_ok-push.ensures.items
