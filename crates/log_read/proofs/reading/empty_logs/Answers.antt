use Rattle.std.proofs.Common.{arith}
use Rattle.log_read.proofs.Telling.{empty_more}
use Rattle.log_read.proofs.reading.empty_logs.Goals as goal

pub loop-preserved : goal.loop-preserved
loop-preserved c =
    empty_more c.args.board.now.lines c.loop.counter c.loop.logs c.push.new.self c.in_ok-with_room.field-0
    (omega (arith, c.loop-test.true, c.lines_len-end.ensures)) c.loop.invariant c.in_ok-with_room.ensures.empty c.in_ok-push.ensures.ok
