use Rattle.std.proofs.Common.{arith}
use Rattle.explore_words.proofs.Counting.{out_of_range}
use Rattle.explore_words.proofs.asking.read_states.Goals.{else-n-ge1-via-then-n-ge1+else-n-le-MOST_STATES, else-n-ge1-via-else-n-ge1}
use Rattle.explore_words.proofs.asking.read_states.Goals as goal

pub returns-else-n-ge1 : goal.returns-else-n-ge1
returns-else-n-ge1 c =
    out_of_range c.args.word.now c.in-Some.n c.in-Some.ensures.0 c.in-Some.ensures.1
    (elim c.else-n-ge1.branch [
      | else-n-ge1-via-then-n-ge1+else-n-le-MOST_STATES w ↦ λ h. omega (arith, h.1, w.if-n-le-MOST_STATES.false)
      | else-n-ge1-via-else-n-ge1 w ↦ λ h. omega (arith, h.0, w.if-n-ge1.false)
    ])
