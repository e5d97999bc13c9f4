use Rattle.std.proofs.Common.{◌≡◌, ◌<◌, Some, slice_get, ap, sym, subst, ◌∙◌}
use Rattle.state_search.specs.Packed.{unpacked}
use Rattle.state_search.specs.Paths.{path_by, paths_of}
use Rattle.state_search.specs.Rows.{rows_of}
use Rattle.state_search.proofs.Kept.{row_at}
use Rattle.state_search.proofs.Rooted.{if_some_from, path_at}
use Rattle.state_search.proofs.states.States.came.Goals as goal

pub returns-clause-earlier : goal.returns-clause-earlier
returns-clause-earlier g c =
    let k = c.args.place in
    let w = c.in-Some.field-0-0.now in
    let v = c.in-Some.came.now in
    let at = row_at c.self.inside.rows.entries k w v (sym c.in-Some.ensures.entry) in
    if_some_from (λ x. x.from < k) v (λ x is. c.self.invariant.0 k (unpacked w.items) x (at ∙ ap (λ t. Some (unpacked w.items, t)) is))

pub returns-clause-path : goal.returns-clause-path
returns-clause-path g c =
    let k = c.args.place in
    let w = c.in-Some.field-0-0.now in
    let v = c.in-Some.came.now in
    let es = c.self.inside.rows.entries in
    subst (λ t. slice_get (paths_of t) k ≡ Some (path_by (paths_of t) v)) c.self.view_is
    (path_at (rows_of es) k (unpacked w.items, v) (row_at es k w v (sym c.in-Some.ensures.entry)) c.self.invariant.0)
