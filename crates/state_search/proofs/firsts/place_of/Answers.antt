use Rattle.std.proofs.Common.{◌<◌, ◌≤◌, length, refl, sym, ◌∙◌, arith}
use Rattle.std.proofs.lemmas.Option.{slice_get_read}
use Rattle.state_search.proofs.Labels.{none_more, none_noted}
use Rattle.state_search.proofs.firsts.place_of.Goals as goal

pub returns-then-eq-clause-some : goal.returns-then-eq-clause-some
returns-then-eq-clause-some g c =
    let fs = c.args.firsts.now in
    let i = c.loop-first.first-index in
    let f = c.first-item.result in
    let lt : i < length fs = omega arith in
    (i, f, slice_get_read fs (length fs) i f refl lt c.first-item.is, sym c.eq.ensures ∙ c.if-eq.true, refl)

pub loop-first-preserved : goal.loop-first-preserved
loop-first-preserved g c =
    let fs = c.args.firsts.now in
    let i = c.loop-first.first-index in
    let f = c.first-item.result in
    let lt : i < length fs = omega arith in
    none_more g.L.PartialEq.eq c.args.label fs i f (slice_get_read fs (length fs) i f refl lt c.first-item.is)
    (sym c.eq.ensures ∙ c.if-eq.false) c.loop-first.invariant

pub returns-clause-none : goal.returns-clause-none
returns-clause-none g c =
    let fs = c.args.firsts.now in
    let i = c.loop-first.first-index in
    let all : length fs ≤ i = omega arith in
    none_noted g.L.PartialEq.eq c.args.label fs i all c.loop-first.invariant
