use Rattle.std.proofs.Common.{map}
use Rattle.board_core.proofs.Readiness.{seen_at}
use Rattle.board_core.proofs.RisingNumbers.{line_pushed}
use Rattle.board_core.proofs.refreshing.numbers_of_lines.Goals as goal

pub loop-i-preserved : goal.loop-i-preserved
loop-i-preserved g c =
    line_pushed (map g.L.IrqLine.seen c.args.lines.now) c.loop-i.i (g.L.IrqLine.seen c.index-lines-i.result)
    c.definition.result.now c.loop-i.numbers.items c.push.new.self.items
    (seen_at g.L.IrqLine.seen c.args.lines.now c.loop-i.i c.index-lines-i.result c.loop-i-test.true c.index-lines-i.is)
    c.definition.ensures c.loop-i.invariant c.in_ok-push.ensures.items
