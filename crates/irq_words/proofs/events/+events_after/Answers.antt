use Rattle.std.proofs.Common.{ℕ, List, [], ◌∷◌, ◌++◌, Some, None, ap, subst, map, Bor}
use Rattle.std.specs.List.{AllByRecursion}
use Rattle.irq_hotplug.specs.declared.events.Event.{Event}
use Rattle.log_read.specs.Takes.{Reads}
use Rattle.irq_words.specs.Events.{IsEvent, event_word}
use Rattle.irq_words.specs.Reading.{ReadsAfter}
use Rattle.irq_words.proofs.EventWords.{not_event, with_event}
use Rattle.irq_words.proofs.events.+events_after.Goals as goal

pub returns-in_default-read_event : goal.returns-in_default-read_event
returns-in_default-read_event t c =
    let first : Reads IsEvent event_word c.in-Some.first.now.now None =
    subst (λ (w : List ℕ). Reads IsEvent event_word w None) c.as_bytes.ensures.value c.in_default-read_event.ensures in
    rw (ap (map (λ (w : Bor (List ℕ)). w.now)) c.in-Some.ensures.cases.0) (not_event c.in-Some.first.now.now _ first)

pub returns : goal.returns
returns t c =
    let event = c.in-Some-read_event.event in
    let texts = map (λ (w : Bor (List ℕ)). w.now) c.in-Some.rest.now in
    let first : Reads IsEvent event_word c.in-Some.first.now.now (Some event) =
    subst (λ (w : List ℕ). Reads IsEvent event_word w (Some event)) c.as_bytes.ensures.value c.in-Some-read_event.ensures in
    let others : ReadsAfter (AllByRecursion IsEvent) event_word (c.args.before ++ event ∷ []) texts c.events_after.result =
    subst (λ (es : List Event). ReadsAfter (AllByRecursion IsEvent) event_word es texts c.events_after.result) c.push.ensures c.events_after.ensures in
    rw (ap (map (λ (w : Bor (List ℕ)). w.now)) c.in-Some.ensures.cases.0)
    (with_event c.in-Some.first.now.now texts event first c.args.before c.events_after.result others)
