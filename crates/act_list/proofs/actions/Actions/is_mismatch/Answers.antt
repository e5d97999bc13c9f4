use Rattle.std.proofs.Common.{sym, ap, ◌∙◌}
use Rattle.act_list.specs.Actions.{ActionsSeen, is_mismatch}
use Rattle.act_list.proofs.Alike.{first_is}
use Rattle.act_list.proofs.actions.Actions.is_mismatch.Goals as goal

pub returns-in-Some : goal.returns-in-Some
returns-in-Some c =
    c.differ.ensures ∙ (sym (first_is c.args.flags c.self.inside.map.entries _ _ c.in-Some.ensures.entry
    c.self.invariant.alike) ∙ ap (λ (s : ActionsSeen). is_mismatch c.args.flags s.actions) c.self.view_is)
