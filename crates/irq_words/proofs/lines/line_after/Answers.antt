use Rattle.std.proofs.Common.{arith}
use Rattle.irq_words.proofs.LineWords.{not_after}
use Rattle.irq_words.proofs.lines.line_after.Goals as goal

pub returns-then-line-last : goal.returns-then-line-last
returns-then-line-last c = not_after c.args.last c.in_ok-line.line c.args.word.now c.in_ok-line.ensures.0.1
    c.in_ok-line.ensures.1 (omega (arith, c.if-line-last.true))
