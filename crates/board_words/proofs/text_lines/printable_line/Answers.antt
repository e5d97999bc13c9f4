use Rattle.std.proofs.Common.{◌<◌, length, arith}
use Rattle.board_words.proofs.Texts.{printed_line}
use Rattle.board_words.proofs.text_lines.printable_line.Goals as goal

pub returns-then-b-eq10 : goal.returns-then-b-eq10
returns-then-b-eq10 c =
    let within : c.loop-i.i < length c.args.text.now = omega arith in
    printed_line c.args.text.now c.loop-i.i within c.if-b-eq10.true c.loop-i.invariant
