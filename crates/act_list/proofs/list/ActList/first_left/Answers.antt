use Rattle.std.proofs.Common.{◌+◌, ap, ◌∙◌}
use Rattle.act_list.specs.Lists.{ActListSeen, first_left}
use Rattle.act_list.specs.Stamps.{stamped}
use Rattle.act_list.proofs.Walking.{left_at}
use Rattle.act_list.proofs.list.ActList.first_left.Goals as goal

pub returns : goal.returns
returns c =
    let b = stamped (c.self.inside.rounds + 1) c.self.inside.stamps in
    let p = c.place_left-place in
    c.device.ensures ∙ (left_at b c.self.inside.actions.actions p.result p.ensures.within p.ensures.begun p.ensures.left
    ∙ ap (λ (s : ActListSeen). first_left s.list.begun s.list.actions) c.self.view_is)
