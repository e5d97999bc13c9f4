use Rattle.std.proofs.Common.{All, subst, arith}
use Rattle.std.proofs.lemmas.List.{take_all}
use Rattle.log_text.specs.Formed.{HasSmallNumbers}
use Rattle.irq_explore.proofs.ByIndex.{more_of}
use Rattle.irq_explore.proofs.small.are_small.Goals as goal

pub loop-i-preserved : goal.loop-i-preserved
loop-i-preserved c = record {
  small = more_of HasSmallNumbers c.args.entries.now c.loop-i.i _ c.loop-i-test.true c.loop-i.invariant.small c.is_small.ensures;
}

pub returns : goal.returns
returns c = subst (All HasSmallNumbers) (take_all c.loop-i.i c.args.entries.now (omega (arith, c.loop-i-test.false))) c.loop-i.invariant.small
