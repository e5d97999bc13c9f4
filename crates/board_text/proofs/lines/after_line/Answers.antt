use Rattle.std.proofs.Common.{◌+◌, length, arith}
use Rattle.std.proofs.lemmas.List.{take_rest}
use Rattle.board_text.proofs.LinesRead.{after_line, none_after}
use Rattle.board_text.proofs.lines.after_line.Goals as goal

pub returns-then-line-text : goal.returns-then-line-text
returns-then-line-text c = λ left is. rw (take_rest c.args.text.now (length c.args.line.now + 1)) (after_line c.args.text.now c.args.line.now left is)

pub returns-else-line-text : goal.returns-else-line-text
returns-else-line-text c = λ left is. none_after c.args.text.now c.args.line.now left is (omega (arith, c.if-line-text.false))
