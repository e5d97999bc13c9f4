use Rattle.std.proofs.Common.{inl, inr, List, ap, ◌∙◌}
use Rattle.irq_hotplug.specs.Fleet.{FleetSeen, after_events}
use Rattle.irq_hotplug.proofs.Telling.{told_after}
use Rattle.notifiers.specs.Told.{Notice, Told}
use Rattle.hotplug_play.proofs.Placings.{on_err, up_to}
use Rattle.hotplug_play.proofs.planning.placed.Goals as goal

pub returns-clause-fleet : goal.returns-clause-fleet
returns-clause-fleet g c = c.in_ok-take_events.ensures.after ∙ ap (λ (f : FleetSeen). after_events f c.args.events.now) c.in_ok-fleet.ensures.first

pub returns-clause-told : goal.returns-clause-told
returns-clause-told g c =
    told_after g.N.Notifier.tells c.in_ok-fleet.fleet.said c.take_events.new.fleet.said c.args.notify.now c.new.new.notify
    c.take_events.new.notify c.in_ok-fleet.ensures.told c.take_events.ensures.told

pub returns-in_err-take_events-clause-some : goal.returns-in_err-take_events-clause-some
returns-in_err-take_events-clause-some g c =
    let told : List Notice → Type 0 = λ placings. Told g.N.Notifier.tells placings c.args.notify.now c.take_events.new.notify in
    on_err _ c.from_residual-in_err-take_events.result (inl (up_to told c.args.board.now c.args.vectors c.args.events.now
    c.in_ok-fleet.fleet c.take_events.new.fleet
    c.in_ok-fleet.ensures.first c.in_err-take_events.ensures.some
    (told_after g.N.Notifier.tells c.in_ok-fleet.fleet.said c.take_events.new.fleet.said c.args.notify.now c.new.new.notify
    c.take_events.new.notify c.in_ok-fleet.ensures.told c.take_events.ensures.told)))

pub returns-in_err-fleet-clause-some : goal.returns-in_err-fleet-clause-some
returns-in_err-fleet-clause-some g c = on_err _ c.from_residual-in_err-fleet.result (inr c.in_err-fleet.ensures.untold)
