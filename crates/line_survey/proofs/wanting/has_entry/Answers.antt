use Rattle.std.proofs.Common.{◌≤◌, length, sym, ◌∙◌, arith}
use Rattle.line_survey.proofs.Lists.{below_next}
use Rattle.line_survey.proofs.Meeting.{IsOther, is_there, is_other, all_other}
use Rattle.line_survey.proofs.wanting.has_entry.Goals as goal

pub returns-then-eq-clause-has : goal.returns-then-eq-clause-has
returns-then-eq-clause-has c = λ yes.
    is_there c.args.found.now c.args.entry c.loop-place.place c.get-due.result.0 c.get-due.result.1.now c.get-due.ensures (sym c.eq.ensures ∙ c.if-eq.true)

pub loop-place-preserved : goal.loop-place-preserved
loop-place-preserved c =
    below_next (IsOther c.args.found.now c.args.entry) c.loop-place.place c.loop-place.invariant
    (is_other c.args.found.now c.args.entry c.loop-place.place c.get-due.result.0 c.get-due.result.1.now c.get-due.ensures
    (sym c.eq.ensures ∙ c.if-eq.false))

pub returns-clause-lacks : goal.returns-clause-lacks
returns-clause-lacks c = λ no.
    let past : length c.args.found.now ≤ c.loop-place.place = omega (arith, c.loop-place-test.false, c.len-place-end.ensures) in
    all_other c.args.found.now c.args.entry c.loop-place.place c.loop-place.invariant past
