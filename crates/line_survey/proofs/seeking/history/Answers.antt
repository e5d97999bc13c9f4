use Rattle.std.proofs.Common.{◌≡◌, Some, reverse, slice_get, subst, arith}
use Rattle.line_survey.proofs.Sought.{rest_whole, row_whole}
use Rattle.line_survey.proofs.seeking.history.Goals as goal

pub path-requires : goal.path-requires
path-requires c = omega (arith, c.looked.ensures, c.requires)

pub returns-in_ok-push-in-Row : goal.returns-in_ok-push-in-Row
returns-in_ok-push-in-Row c =
    let found = c.args.found.now in
    row_whole c.args.wanted c.in-Row.entry c.in-Row.is found.paths found.looked c.in_ok-entries.entries.items c.push.new.self.items
    (subst (λ n. slice_get found.paths n ≡ Some (reverse c.in_ok-entries.entries.items)) c.looked.ensures c.in_ok-entries.ensures)
    c.in_ok-push-in-Row.ensures.items

pub returns-in-Rest : goal.returns-in-Rest
returns-in-Rest c =
    let found = c.args.found.now in
    rest_whole c.args.wanted c.in-Rest.field-0 c.in-Rest.is found.paths found.looked c.in_ok-entries.entries.items
    (subst (λ n. slice_get found.paths n ≡ Some (reverse c.in_ok-entries.entries.items)) c.looked.ensures c.in_ok-entries.ensures)
