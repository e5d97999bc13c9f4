use Rattle.std.proofs.Common.{ap, ◌∙◌}
use Rattle.act_list.specs.Actions.{ActionsSeen, has}
use Rattle.act_list.proofs.Alike.{has_found}
use Rattle.act_list.proofs.actions.Actions.contains.Goals as goal

pub returns : goal.returns
returns c = c.contains_key.ensures ∙ (has_found c.args.dev c.self.inside.map.entries ∙ ap (λ (s : ActionsSeen). has c.args.dev s.actions) c.self.view_is)
