use Rattle.std.proofs.Common.{◌≡◌, ℕ, ◌+◌, ◌<◌, List, [], ◌∷◌, ◌++◌, OnErr, Result, Ok, Err, length, get_or, take, drop, refl, sym, ap, ◌∙◌}
use Rattle.std.proofs.lemmas.List.{take_all, take_more, take-append-drop}
use Rattle.irq_hotplug.specs.Fleet.{FleetSeen, IsAfterSome, after_event, after_events}
use Rattle.irq_hotplug.specs.declared.events.Event.{Event}
use Rattle.irq_hotplug.proofs.Telling.{none_told, tells_on}
use Rattle.irq_hotplug.proofs.events.take_events.Goals as goal

after_more : (f : FleetSeen) (es : List Event) (e : Event) → after_events f (es ++ e ∷ []) ≡ after_event (after_events f es) e
after_more f [] e = refl
after_more f (x ∷ xs) e = after_more (after_event f x) xs e

one_more : (first f now : FleetSeen) (es : List Event) (i : ℕ) (e : Event) → i < length es → f ≡ after_events first (take i es)
    → now ≡ after_event f (get_or es i e) → now ≡ after_events first (take (i + 1) es)
one_more first f now es i e lt is taken =
    taken ∙ ap (λ (x : FleetSeen). after_event x (get_or es i e)) is ∙ sym (after_more first (take i es) (get_or es i e))
    ∙ sym (ap (after_events first) (take_more es i e lt))

on_err : {T E : Type 0} (P : Type 0) (r : Result T E) → P → OnErr r P
on_err P (Ok x) h = tt
on_err P (Err e) h = h

pub loop-event-init : goal.loop-event-init
loop-event-init g c = record {
  taken = refl;
  told = none_told g.N.Notifier.tells c.args.fleet.now.said c.args.fleet.now.said c.args.notify.now refl;
}

pub loop-event-preserved : goal.loop-event-preserved
loop-event-preserved g c = record {
  taken = one_more c.args.fleet.now c.loop-event.fleet c.take_event.new.fleet c.args.events.now c.loop-event.event-index _ c.loop-event-test.true
      c.loop-event.invariant.taken c.in_ok-take_event.ensures.after;
  told = tells_on g.N.Notifier.tells c.args.fleet.now.said c.loop-event.fleet.said c.take_event.new.fleet.said c.args.notify.now c.loop-event.notify
      c.take_event.new.notify c.loop-event.invariant.told c.take_event.ensures.told;
}

pub returns-in_err-take_event-clause-some : goal.returns-in_err-take_event-clause-some
returns-in_err-take_event-clause-some g c =
    on_err (IsAfterSome c.args.fleet.now c.args.events.now c.take_event.new.fleet) c.from_residual.result (record {
      taken = take c.loop-event.event-index c.args.events.now;
      left = drop c.loop-event.event-index c.args.events.now;
      parts = sym (take-append-drop c.loop-event.event-index c.args.events.now);
      after = c.in_err-take_event.ensures.refused ∙ c.loop-event.invariant.taken;
    })

pub returns-in_err-take_event-clause-told : goal.returns-in_err-take_event-clause-told
returns-in_err-take_event-clause-told g c =
    tells_on g.N.Notifier.tells c.args.fleet.now.said c.loop-event.fleet.said c.take_event.new.fleet.said c.args.notify.now c.loop-event.notify
    c.take_event.new.notify c.loop-event.invariant.told c.take_event.ensures.told

pub returns-clause-after : goal.returns-clause-after
returns-clause-after g c =
    c.loop-event.invariant.taken
    ∙ ap (after_events c.args.fleet.now) (take_all c.loop-event.event-index c.args.events.now c.loop-event-test.false)

pub returns-clause-told : goal.returns-clause-told
returns-clause-told g c = c.loop-event.invariant.told
