use Rattle.std.proofs.Common.{arith}
use Rattle.irq_words.proofs.Ranges.{out_of_range}
use Rattle.irq_words.proofs.numbers.number_in.Goals.{else-low-n-via-then-low-n+else-n-high, else-low-n-via-else-low-n}
use Rattle.irq_words.proofs.numbers.number_in.Goals as goal

pub returns-else-low-n : goal.returns-else-low-n
returns-else-low-n c =
    out_of_range c.args.low c.args.high (omega (arith, c.ranges.high.fits)) c.args.word.now c.in_ok-n.n c.in_ok-n.ensures.0 c.in_ok-n.ensures.1
    (elim c.else-low-n.branch [
      | else-low-n-via-then-low-n+else-n-high w ↦ λ h. omega (arith, h.1, w.if-n-high.false)
      | else-low-n-via-else-low-n w ↦ λ h. omega (arith, h.0, w.if-low-n.false)
    ])
