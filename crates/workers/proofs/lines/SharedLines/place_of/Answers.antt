use Rattle.std.proofs.Common.{◌<◌, ◌≤◌, Some, None, length, subst, sym, ◌∙◌, arith}
use Rattle.line_lock.specs.Passes.{LockSeen}
use Rattle.std.proofs.Common.{List}
use Rattle.workers.specs.Fit.{IsPlaceOf}
use Rattle.workers.proofs.Searching.{is_here, one_more, nowhere}
use Rattle.workers.proofs.lines.SharedLines.place_of.Goals as goal

pub loop-place-init : goal.loop-place-init
loop-place-init g c = λ k l less at. absurd (omega arith)

pub loop-place-preserved : goal.loop-place-preserved
loop-place-preserved g c =
    let within : c.loop-place.place < length c.self.inside.numbers.items = omega (arith, c.loop-place-test.true, c.len-place-end.ensures) in
    let e = c.index.ensures in
    one_more c.self.inside.lines.items c.self.inside.numbers.items c.args.number c.loop-place.place c.index.result.now c.self.invariant.0 within
    (rw (← e) (sym c.eq.ensures ∙ c.if-eq.false)) c.loop-place.invariant

pub returns-clause-place : goal.returns-clause-place
returns-clause-place g c =
    let end : length c.self.inside.numbers.items ≤ c.loop-place.place = omega (arith, c.loop-place-test.false, c.len-place-end.ensures) in
    subst (λ (ls : List LockSeen). IsPlaceOf ls c.args.number None) c.self.view_is
    (nowhere c.self.inside.lines.items c.self.inside.numbers.items c.args.number c.loop-place.place c.self.invariant.0 end c.loop-place.invariant)

pub returns-then-eq-clause-place : goal.returns-then-eq-clause-place
returns-then-eq-clause-place g c =
    let within : c.loop-place.place < length c.self.inside.numbers.items = omega (arith, c.loop-place-test.true, c.len-place-end.ensures) in
    let e = c.index.ensures in
    subst (λ (ls : List LockSeen). IsPlaceOf ls c.args.number (Some c.loop-place.place)) c.self.view_is
    (is_here c.self.inside.lines.items c.self.inside.numbers.items c.args.number c.loop-place.place c.index.result.now c.self.invariant.0 within
    (rw (← e) (sym c.eq.ensures ∙ c.if-eq.true)))
