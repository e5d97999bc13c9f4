-- Who made the last unlink whose free isn't complete, by the place of it.
use Rattle.std.proofs.Common.{◌≡◌, ℕ, ◌<◌, true, false, Some, None, List, [], ◌∷◌, length, take, drop, get_or, refl, sym, ap, ◌∙◌}
use Rattle.irq_base.specs.Who.{actor_of}
use Rattle.irq_base.specs.declared.entries.Actor.{Actor}
use Rattle.irq_base.specs.declared.entries.Entry.{Entry}
use Rattle.irq_model.specs.Due.{is_being_freed_at}
use Rattle.irq_model.specs.Waits.{maker_of, mutex_holder}
use Rattle.plain_next.proofs.Somewhere.{last_at, last_nowhere}

-- the newest entry made it
made : (after upto : List Entry) (d : Entry) → is_being_freed_at after upto ≡ true → maker_of upto ≡ Some (actor_of (get_or upto 0 d))
made after [] d is = absurd cc
made after (e ∷ upto) d is = refl

pub holder_at : (past : List Entry) (i : ℕ) (d : Entry) → i < length past → is_being_freed_at (take i past) (drop i past) ≡ true
    → ((k : ℕ) → k < i → is_being_freed_at (take k past) (drop k past) ≡ false) → Some (actor_of (get_or (drop i past) 0 d)) ≡ mutex_holder past
holder_at past i d within is none =
    sym (ap maker_of (last_at is_being_freed_at past i within is none) ∙ made (take i past) (drop i past) d is)

pub holder_nowhere : (past : List Entry) → ((i : ℕ) → i < length past → is_being_freed_at (take i past) (drop i past) ≡ false) → None ≡ mutex_holder past
holder_nowhere past none = sym (ap maker_of (last_nowhere is_being_freed_at past none))

-- as the loop finds it
pub holder_from : (past after upto : List Entry) (i : ℕ) (d : Entry) (a : Actor) → a ≡ actor_of (get_or upto 0 d) → after ≡ take i past
    → upto ≡ drop i past → i < length past → true ≡ is_being_freed_at after upto
    → ((k : ℕ) → k < i → is_being_freed_at (take k past) (drop k past) ≡ false) → Some a ≡ mutex_holder past
holder_from past after upto i d a who front back within is none =
    let there : is_being_freed_at (take i past) (drop i past) ≡ true =
    sym (is ∙ (ap (λ (xs : List Entry). is_being_freed_at xs upto) front ∙ ap (is_being_freed_at (take i past)) back)) in
    ap Some (who ∙ ap (λ (xs : List Entry). actor_of (get_or xs 0 d)) back) ∙ holder_at past i d within there none
