use Rattle.std.proofs.Common.{rules, ◌∙◌, ap}
use Rattle.std.specs.List.{filter}
use Rattle.std.proofs.lemmas.Fn.{filter_same}
use Rattle.irq_model.specs.Links.{is_linked}
use Rattle.plain_next.proofs.links.linked.Goals as goal

pub returns : goal.returns
returns c =
    filter_same _ _ _ (λ x b f' k. search rules) _ _ c.retain.ensures.filtered ∙ ap (filter (is_linked c.args.past.now)) c.in_ok-devices.ensures
