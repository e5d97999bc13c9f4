use Rattle.std.proofs.Common.{sym, arith}
use Rattle.std.proofs.lemmas.Grind.{common_steps}
use Rattle.irq_model.specs.Due.{is_being_freed_at}
use Rattle.plain_next.proofs.Somewhere.{some_at, some_nowhere}
use Rattle.plain_next.proofs.due.holds_mutex.Goals as goal

pub returns-then-is_being_freed_at : goal.returns-then-is_being_freed_at
returns-then-is_being_freed_at c = sym (some_at is_being_freed_at c.args.past.now c.loop-i.i c.loop-i-test.true (grind (arith, common_steps)))

pub returns : goal.returns
returns c = sym (some_nowhere is_being_freed_at c.args.past.now (λ i h. c.loop-i.invariant i (omega arith)))
