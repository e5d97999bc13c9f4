-- Which devices are linked, and how deep the line is disabled (`__setup_irq`, `__free_irq`,
-- `__disable_irq` and `__enable_irq` of `kernel/irq/manage.c`; `desc->action`, `desc->depth`).
use Rattle.std.specs.Prelude.{ℕ, ◌+◌, ◌-◌, Bool, true, false, ◌&&◌, ◌||◌, if◌then◌else◌, not}
use Rattle.std.specs.Prelude.{Option, Some, List, [], ◌∷◌, ◌++◌, filter, nat_lt}
use Rattle.irq_base.specs.declared.numbers.DevNo.{DevNo}
use Rattle.irq_base.specs.declared.calls.Flags.{Flags}
use Rattle.irq_base.specs.declared.entries.Entry.{Entry}
use Rattle.irq_base.specs.declared.entries.Entry.TheVariants as by
use Rattle.irq_base.specs.declared.entries.DriverEntry.TheVariants as drivers
use Rattle.irq_base.specs.declared.entries.LinkAnswer.TheVariants as links
use Rattle.irq_model.specs.Places.{stands, since_place, upto_place, count_of, last_of}
use Rattle.irq_model.specs.Kinds.{same_dev, links_dev, unlinks_dev, is_linked_request}
use Rattle.irq_model.specs.Kinds.{is_last_unlink, is_start, is_kill, is_disable, opened_of}
use Rattle.irq_model.specs.Kinds.{is_lowering_opened}

-- d was linked, and not unlinked since
abbrev pub is_linked : List Entry → DevNo → Bool
is_linked past d = stands (links_dev d) (unlinks_dev d) past

-- the devices that were ever linked, in the order of their last requests that were linked
abbrev pub requested : List Entry → List DevNo
requested [] = []
requested (by.Driver driver (drivers.Request flags links.Linked opened dev) ∷ past) =
    filter (λ d. not (same_dev d dev)) (requested past) ++ dev ∷ []
requested (_ ∷ past) = requested past

-- the linked devices, in the order in which they are walked
abbrev pub linked : List Entry → List DevNo
linked past = filter (is_linked past) (requested past)

abbrev pub is_empty : List DevNo → Bool
is_empty [] = true
is_empty (d ∷ ds) = false

abbrev pub is_none_linked : List Entry → Bool
is_none_linked past = is_empty (linked past)

-- the newest entry is a request that was linked when nothing else was
abbrev pub is_first_request : List Entry → Bool
is_first_request [] = false
is_first_request (e ∷ past) = is_linked_request e && is_none_linked past

-- the newest entry sets the depth anew: a first request, or a last unlink
abbrev pub is_reset : List Entry → Bool
is_reset [] = false
is_reset (e ∷ past) = is_last_unlink e || is_first_request (e ∷ past)

-- the depth as it was last set anew: 0 if a first request started the line, else 1; 1 at the
-- beginning
abbrev pub base : List Entry → ℕ
base [] = 1
base (e ∷ past) = if is_start e then 0 else 1

abbrev pub is_deepening : Entry → Bool
is_deepening e = is_disable e || is_kill e

abbrev pub is_lowering : Entry → Bool
is_lowering e = is_lowering_opened (opened_of e)

-- the base, plus the disables and kills since the last reset, less the lowerings
abbrev pub depth : List Entry → ℕ
depth past = (base (upto_place is_reset past) + count_of is_deepening (since_place is_reset past))
    - count_of is_lowering (since_place is_reset past)

abbrev pub is_disabled : List Entry → Bool
is_disabled past = nat_lt 0 (depth past)

-- a start, with no last unlink after it (`irqd_is_started`)
abbrev pub is_started : List Entry → Bool
is_started past = stands is_start is_last_unlink past

-- the flags of a request
abbrev pub flags_in : Option Entry → Flags
flags_in (Some (by.Driver driver (drivers.Request flags answer opened dev))) = flags
flags_in _ = record { shared = false; oneshot = false; noauto = false }

-- the flags with which d was last linked
abbrev pub linking_flags : List Entry → DevNo → Flags
linking_flags past d = flags_in (last_of (links_dev d) past)

-- the last request that was linked has the flag ONESHOT (`IRQS_ONESHOT`)
abbrev pub is_oneshot : List Entry → Bool
is_oneshot past = (flags_in (last_of is_linked_request past)).oneshot

-- a kill, with no linked request after it (`IRQS_SPURIOUS_DISABLED`)
abbrev pub has_spurious_mark : List Entry → Bool
has_spurious_mark past = stands is_kill is_linked_request past
