use Rattle.std.proofs.Common.{true, ◌≡◌}
use Rattle.irq_vectors.proofs.FirstUndue.{first_undue}
use Rattle.irq_vectors.proofs.judging.judge.Goals as goal

pub returns-then-not-branch : goal.returns-then-not-branch
returns-then-not-branch c =
    first_undue c.args.def.now c.args.entries.now c.loop-i.history.entries c.loop-i.i _ c.loop-i.invariant.0 c.loop-i-test.true c.loop-i.invariant.1
    (λ due. let yes : c.in_ok-is_due.field-0 ≡ true = c.in_ok-is_due.ensures.1 due in let no = c.if-not-branch.true in cc)
