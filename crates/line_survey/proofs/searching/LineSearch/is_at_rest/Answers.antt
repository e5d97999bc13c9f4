use Rattle.std.proofs.Common.{◌≡◌, ◌<◌, length, slice_index_or, ap, subst, arith}
use Rattle.std.proofs.lemmas.Bool.Decides.{nat_tests}
use Rattle.line_survey.proofs.Lists.{index_is}
use Rattle.line_survey.proofs.Rests.{rests_at, moves_at}
use Rattle.line_survey.specs.Rests.{RestsAt, MovesAt}
use Rattle.line_survey.specs.Seen.{LineSearchSeen}
use Rattle.line_survey.proofs.searching.LineSearch.is_at_rest.Goals as goal

pub returns-clause-rests : goal.returns-clause-rests
returns-clause-rests c = λ is.
    let counts = c.self.inside.searched.counts in
    let looked = ap (λ (v : LineSearchSeen). v.searched.looked) c.self.view_is in
    let within : c.args.place < length counts = omega (arith, c.requires, looked, c.self.invariant.line.counted) in
    let n = slice_index_or c.counts.result.now c.args.place 0 in
    let there = index_is counts c.counts.result.now c.args.place c.counts.ensures within in
    let none : n ≡ 0 = grind (arith, nat_tests) in
    subst (λ (v : LineSearchSeen). RestsAt v.def v.searched.paths c.args.place) c.self.view_is
    (rests_at c.self.inside.def (record { valid = c.self.invariant.valid; runs = c.self.invariant.valid_runs })
    c.self.inside.searched c.self.invariant.line c.args.place n there none)

pub returns-clause-moves : goal.returns-clause-moves
returns-clause-moves c = λ is.
    let counts = c.self.inside.searched.counts in
    let looked = ap (λ (v : LineSearchSeen). v.searched.looked) c.self.view_is in
    let within : c.args.place < length counts = omega (arith, c.requires, looked, c.self.invariant.line.counted) in
    let n = slice_index_or c.counts.result.now c.args.place 0 in
    let there = index_is counts c.counts.result.now c.args.place c.counts.ensures within in
    let some : n ≡ 0 → ⊥ = λ none. grind (arith, nat_tests) in
    subst (λ (v : LineSearchSeen). MovesAt v.def v.searched.paths c.args.place) c.self.view_is
    (moves_at c.self.inside.def (record { valid = c.self.invariant.valid; runs = c.self.invariant.valid_runs })
    c.self.inside.searched c.self.invariant.line c.args.place n there some)
