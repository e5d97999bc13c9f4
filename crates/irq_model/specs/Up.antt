-- When the line's domains are activated: from its first action to the free of its last
-- (`irq_activate` in `__setup_irq`, `irq_domain_deactivate_irq` in `__free_irq`).
use Rattle.std.specs.Prelude.{Bool, true, false, not, ◌&&◌, List, [], ◌∷◌}
use Rattle.std.specs.List.{list_any}
use Rattle.irq_base.specs.declared.entries.Entry.{Entry}
use Rattle.irq_base.specs.declared.entries.Entry.TheVariants as by
use Rattle.irq_base.specs.declared.entries.CallEntry.TheVariants as called
use Rattle.irq_base.specs.declared.entries.UnlinkAnswer.TheVariants as unlinks
use Rattle.irq_base.specs.Who.{actor_of}
use Rattle.irq_model.specs.Places.{some_place, since_place, upto_place}
use Rattle.irq_model.specs.Kinds.{is_freed_by, is_last_unlink}
use Rattle.irq_model.specs.Links.{is_first_request}

-- the newest entry of `upto` is a last unlink, and the free that it began was completed after it
abbrev pub is_freed_last : List Entry → List Entry → Bool
is_freed_last after [] = false
is_freed_last after (e ∷ past) = is_last_unlink e && list_any (is_freed_by (actor_of e)) after

abbrev pub is_some_entry : List Entry → Bool
is_some_entry [] = false
is_some_entry (e ∷ past) = true

-- there was a first request, and since the latest one no free of the last device was completed
abbrev pub is_up : List Entry → Bool
is_up past = is_some_entry (upto_place is_first_request past)
    && not (some_place is_freed_last (since_place is_first_request past))
