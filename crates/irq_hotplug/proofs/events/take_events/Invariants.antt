use Rattle.std.proofs.Common.{◌≡◌, take}
use Rattle.notifiers.specs.Told.{Told}
use Rattle.irq_hotplug.specs.Fleet.{after_events}
use Rattle.irq_hotplug.specs.Notices.{TellsMore}
use Rattle.irq_hotplug.proofs.events.take_events.Given as goal

abbrev pub invariant-loop-event : goal.invariant-loop-event
invariant-loop-event g l = record {
  taken : l.fleet ≡ after_events l.initial.fleet (take l.event-index l.events);
  told : TellsMore (λ placings. Told g.N.Notifier.tells placings l.initial.notify l.notify) l.initial.fleet.said l.fleet.said;
}
