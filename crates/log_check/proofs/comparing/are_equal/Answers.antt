use Rattle.log_check.proofs.Eights.{all_same, differ, goes_on}
use Rattle.log_check.proofs.comparing.are_equal.Goals as goal

pub returns-then-not-are_same_eights-2-clause-differ : goal.returns-then-not-are_same_eights-2-clause-differ
returns-then-not-are_same_eights-2-clause-differ c = λ _.
    differ c.args.a.now c.args.b.now c.loop-eight_a.rest_a.now c.loop-eight_a.rest_b.now c.loop-eight_a.invariant c.in-Some.eight_a.now
    c.in-Some-split_first_chunk.eight_b.now c.in-Some.ensures.cases.0 c.in-Some-split_first_chunk.ensures.cases.0
    (c.are_same_eights-in-Some.ensures.differ c.if-not-are_same_eights-2.true)

pub loop-eight_a-preserved : goal.loop-eight_a-preserved
loop-eight_a-preserved c =
    goes_on c.args.a.now c.args.b.now c.loop-eight_a.rest_a.now c.loop-eight_a.rest_b.now c.loop-eight_a.invariant c.in-Some.eight_a.now
    c.in-Some-split_first_chunk.eight_b.now c.in-Some.after_a.now c.in-Some-split_first_chunk.after_b.now c.in-Some.ensures.cases.0
    c.in-Some-split_first_chunk.ensures.cases.0 c.in-Some.ensures.cases.1 c.in-Some-split_first_chunk.ensures.cases.1
    (c.are_same_eights-in-Some.ensures.same c.if-not-are_same_eights-2.false)

pub returns-clause-same : goal.returns-clause-same
returns-clause-same c = λ _.
    all_same c.args.a.now c.args.b.now c.loop-eight_a.rest_a.now c.loop-eight_a.rest_b.now c.loop-eight_a.invariant c.requires
    c.in_default-split_first_chunk.ensures.cases c.in-Some-Some.ensures.cases.0 c.in-Some-Some.last_a.now c.in-Some-Some.last_b.now
    c.in-Some-Some.ensures.cases.1.same c.in-Some-Some.ensures'.cases.1.same
    (c.are_same_eights.ensures.same c.if-not-are_same_eights.false)
