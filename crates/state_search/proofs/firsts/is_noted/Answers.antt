use Rattle.std.proofs.Common.{sym, ◌∙◌}
use Rattle.state_search.proofs.Labels.{noted_is}
use Rattle.state_search.proofs.firsts.is_noted.Goals as goal

pub returns : goal.returns
returns g c =
    let t = noted_is g.L.PartialEq.eq c.args.label c.args.firsts.now c.place_of.result c.place_of.ensures.some c.place_of.ensures.none in
    (λ h. t.0 (sym c.is_some.ensures ∙ h), λ x. c.is_some.ensures ∙ t.1 x)
