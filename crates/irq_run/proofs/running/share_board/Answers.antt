use Rattle.std.proofs.Common.{map}
use Rattle.irq_run.proofs.Fresh.{new_defs, new_empty}
use Rattle.irq_run.proofs.running.share_board.Goals as goal

pub share-requires-clause-defs : goal.share-requires-clause-defs
share-requires-clause-defs g c =
    new_defs c.args.board.now (map g.M.Line.IrqLine.seen c.in_ok-lines.lines.items) c.in_ok-lines.ensures

pub share-requires-clause-empty : goal.share-requires-clause-empty
share-requires-clause-empty g c =
    new_empty c.args.board.now (map g.M.Line.IrqLine.seen c.in_ok-lines.lines.items) c.in_ok-lines.ensures
