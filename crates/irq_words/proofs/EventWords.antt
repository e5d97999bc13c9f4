-- Words that are events, read from the front.
use Rattle.std.proofs.Common.{ℕ, List, [], ◌∷◌, ◌++◌, Option, Some, None}
use Rattle.std.specs.List.{AllByRecursion}
use Rattle.log_read.specs.Takes.{Reads}
use Rattle.irq_hotplug.specs.declared.events.Event.{Event}
use Rattle.irq_words.specs.Events.{IsEvent, event_word}
use Rattle.irq_words.specs.Reading.{ReadsAfter, Spells}
use Rattle.irq_words.proofs.Items.{not_first, with_first}

pub not_event : (word : List ℕ) (words : List (List ℕ)) → Reads IsEvent event_word word None
    → (items : List Event) → Spells (AllByRecursion IsEvent) event_word (word ∷ words) items → ⊥
not_event = not_first IsEvent (λ e. AllByRecursion IsEvent) (AllByRecursion IsEvent) event_word (λ x xs h. h) (λ x xs a b. (a, b)) (λ x y xs a b s r. r)

pub with_event : (word : List ℕ) (words : List (List ℕ)) (event : Event) → Reads IsEvent event_word word (Some event)
    → (before : List Event) (r : Option (List Event)) → ReadsAfter (AllByRecursion IsEvent) event_word (before ++ event ∷ []) words r
    → ReadsAfter (AllByRecursion IsEvent) event_word before (word ∷ words) r
with_event = with_first IsEvent (λ e. AllByRecursion IsEvent) (AllByRecursion IsEvent) event_word (λ x xs h. h) (λ x xs a b. (a, b)) (λ x y xs a b s r. r)
