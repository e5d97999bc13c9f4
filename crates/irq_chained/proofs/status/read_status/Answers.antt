use Rattle.std.proofs.Common.{arith}
use Rattle.board_core.specs.Seen.{board_lines}
use Rattle.irq_chained.proofs.Resting.{few_seen}
use Rattle.irq_chained.proofs.StatusBits.{status_small, word_is_status}
use Rattle.irq_chained.proofs.status.read_status.Goals as goal

pub overflow_cast-result : goal.overflow_cast-result
overflow_cast-result g c =
    let few = few_seen c.args.system.now.board c.args.system.now.lines c.requires c.is_kept.ensures in
    let is = word_is_status c.takes.result (board_lines c.args.system.now.lines) few (omega (arith, c.takes.type_inv)) c.takes.ensures in
    let small = status_small (board_lines c.args.system.now.lines) few in
    omega (arith, is, small)

pub returns : goal.returns
returns g c =
    word_is_status c.takes.result (board_lines c.args.system.now.lines)
    (few_seen c.args.system.now.board c.args.system.now.lines c.requires c.is_kept.ensures)
    (omega (arith, c.takes.type_inv)) c.takes.ensures
