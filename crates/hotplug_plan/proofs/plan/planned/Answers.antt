use Rattle.std.proofs.Common.{List, All, subst, ap, ◌∙◌, sym}
use Rattle.board_driver.specs.Longer.{IsOfALine}
use Rattle.board_driver.specs.declared.adding.LineCall.{LineCall}
use Rattle.hotplug_plan.specs.Planned.{moves_of}
use Rattle.hotplug_plan.proofs.Moves.{moves_ok}
use Rattle.hotplug_plan.proofs.plan.planned.Goals as goal

pub with_last_driver-requires-clause-lines : goal.with_last_driver-requires-clause-lines
with_last_driver-requires-clause-lines c =
    let calls = c.deref.ensures.value ∙ c.in_ok-calls.ensures ∙ ap moves_of c.said-rows.ensures in
    subst (λ (xs : List LineCall). All (IsOfALine c.args.board) xs) (sym calls)
    (moves_ok c.args.board c.args.fleet.now.berths c.args.fleet.now.said c.requires.lines c.is_fleet.ensures.said)
