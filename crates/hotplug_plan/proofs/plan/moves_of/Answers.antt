use Rattle.std.proofs.Common.{◌+◌, ◌++◌, List, drop, subst, ap, ◌∙◌, sym, append_assoc}
use Rattle.board_driver.specs.declared.adding.LineCall.{LineCall}
use Rattle.irq_hotplug.specs.declared.rows.FleetRow.{FleetRow}
use Rattle.hotplug_plan.specs.Planned.{HasCpu, move_of, moves_of}
use Rattle.hotplug_plan.proofs.plan.moves_of.Goals as goal

pub add_move-requires : goal.add_move-requires
add_move-requires c = subst HasCpu c.row_at-row.ensures.item (c.requires c.loop-i.i c.row_at-row.result c.loop-i-test.true)

pub loop-i-preserved : goal.loop-i-preserved
loop-i-preserved c =
    let rest = moves_of (drop (c.loop-i.i + 1) c.args.said.now) in
    ap (λ (xs : List LineCall). xs ++ rest) c.in_ok-add_move.ensures
    ∙ append_assoc c.loop-i.calls.items (move_of c.row_at-row.result) rest
    ∙ sym (ap (λ (xs : List FleetRow). c.loop-i.calls.items ++ moves_of xs) c.row_at-row.ensures.left)
    ∙ c.loop-i.invariant
