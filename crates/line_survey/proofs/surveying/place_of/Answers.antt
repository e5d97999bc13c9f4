use Rattle.std.proofs.Common.{◌≡◌, ◌<◌, ◌≤◌, length, sym, ◌∙◌, arith}
use Rattle.line_survey.proofs.Placing.{placed, passed, absent}
use Rattle.line_survey.proofs.surveying.place_of.Goals as goal

pub returns-then-eq-clause-some : goal.returns-then-eq-clause-some
returns-then-eq-clause-some c =
    let inside : c.loop-i.i < length c.args.rests.now = omega (arith, c.loop-i-test.true) in
    placed c.args.rests.now c.args.left c.loop-i.i _ inside (sym c.eq.ensures ∙ c.if-eq.true)

pub loop-i-preserved : goal.loop-i-preserved
loop-i-preserved c =
    let inside : c.loop-i.i < length c.args.rests.now = omega (arith, c.loop-i-test.true) in
    passed c.args.rests.now c.args.left c.loop-i.i _ inside (sym c.eq.ensures ∙ c.if-eq.false) c.loop-i.invariant

pub returns-clause-none : goal.returns-clause-none
returns-clause-none c =
    let all : length c.args.rests.now ≤ c.loop-i.i = omega (arith, c.loop-i-test.false) in
    absent c.args.rests.now c.args.left c.loop-i.i all c.loop-i.invariant
