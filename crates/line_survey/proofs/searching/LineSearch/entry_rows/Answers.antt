use Rattle.std.proofs.Common.{ap, subst, ◌∙◌, arith}
use Rattle.line_survey.proofs.Entries.{first_there}
use Rattle.line_survey.specs.Kept.{IsOfLine}
use Rattle.line_survey.specs.Seen.{LineSearchSeen}
use Rattle.line_survey.proofs.searching.LineSearch.entry_rows.Goals as goal

pub depth-requires : goal.depth-requires
depth-requires c =
    let v : LineSearchSeen = c.args.self.now in
    let line : IsOfLine v.def v.searched = subst (λ (x : LineSearchSeen). IsOfLine x.def x.searched) c.self.view_is c.self.invariant.line in
    let same = c.firsts-first-items.ensures ∙ ap (λ (x : LineSearchSeen). x.searched.firsts) c.self.view_is in
    first_there v.def v.searched line c.firsts-first-items.result.now same c.loop-first.first-index _ c.loop-first-test.true

pub overflow_add-depth : goal.overflow_add-depth
overflow_add-depth c = omega (arith, c.depth.ensures.few)
