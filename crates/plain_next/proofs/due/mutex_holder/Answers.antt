use Rattle.std.proofs.Common.{arith, sym, ◌∙◌}
use Rattle.plain_next.proofs.Holding.{holder_from, holder_nowhere}
use Rattle.plain_next.proofs.due.mutex_holder.Goals as goal

pub returns-then-is_being_freed_at : goal.returns-then-is_being_freed_at
returns-then-is_being_freed_at c = holder_from c.args.past.now c.split_at.result.0.now c.split_at.result.1.now c.loop-i.i _ c.actor.result
    c.actor.ensures c.split_at.ensures.front c.split_at.ensures.back c.loop-i-test.true
    (sym c.if-is_being_freed_at.true ∙ c.is_being_freed_at.ensures) c.loop-i.invariant

pub returns : goal.returns
returns c = holder_nowhere c.args.past.now (λ i h. c.loop-i.invariant i (omega arith))
