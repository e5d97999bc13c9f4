-- The list of a line's actions, read off its past, and what an entry makes of it.
use Rattle.std.specs.Prelude.{if◌then◌else◌, List, [], ◌∷◌, ◌++◌}
use Rattle.std.specs.Map.{remove_entry}
use Rattle.irq_base.specs.declared.calls.Flags.{Flags}
use Rattle.irq_base.specs.declared.entries.Entry.{Entry}
use Rattle.irq_base.specs.declared.entries.Entry.TheVariants as by
use Rattle.irq_base.specs.declared.entries.CpuEntry.TheVariants as cpus
use Rattle.irq_base.specs.declared.entries.DriverEntry.TheVariants as drivers
use Rattle.irq_base.specs.declared.entries.CallEntry.{CallEntry}
use Rattle.irq_base.specs.declared.entries.CallEntry.TheVariants as called
use Rattle.irq_base.specs.declared.entries.LinkAnswer.TheVariants as links
use Rattle.irq_base.specs.declared.entries.UnlinkAnswer.TheVariants as unlinks
use Rattle.irq_base.specs.declared.lines.LineDef.{LineDef}
use Rattle.irq_base.specs.declared.numbers.DevNo.{DevNo}
use Rattle.irq_model.specs.Kinds.{same_dev}
use Rattle.irq_model.specs.Links.{linked, linking_flags}
use Rattle.irq_model.specs.Places.{count_of}
use Rattle.irq_model.specs.Rounds.{begins_round, has_begun}
use Rattle.device_table.specs.Rows.{table_by}
use Rattle.act_list.specs.Lists.{ListSeen, action_by, after_link, after_unlink, after_begin}
use Rattle.act_list.specs.Lists.{after_begin_round}
use Rattle.act_list.specs.declared.actions.Action.{Action}

-- the devices with the flags of their last requests that were linked
abbrev pub flags_by : (DevNo → Flags) → List DevNo → List (DevNo × Flags)
flags_by f [] = []
flags_by f (d ∷ ds) = (d, f d) ∷ flags_by f ds

-- the linked devices in the order of the walk, each with its flags
abbrev pub linked_flags : List Entry → List (DevNo × Flags)
linked_flags past = flags_by (linking_flags past) (linked past)

-- what the step of a call makes of the actions, whoever makes it
abbrev pub actions_by_call : CallEntry → List (DevNo × Action) → List (DevNo × Action)
actions_by_call (called.Unlink (unlinks.Unlinked last) dev) t = remove_entry (same_dev dev) t
actions_by_call _ t = t

-- what an entry makes of the actions
abbrev pub actions_after : Entry → List (DevNo × Action) → List (DevNo × Action)
actions_after (by.Driver driver (drivers.Request flags links.Linked opened dev)) t =
    t ++ (dev, action_by flags t) ∷ []
actions_after (by.CpuCall cpu call) t = actions_by_call call t
actions_after (by.ThreadCall dev call) t = actions_by_call call t
actions_after (by.DriverCall driver call) t = actions_by_call call t
actions_after _ t = t

-- the linked devices with their actions: a one-shot action got the lowest thread bit that was free
-- as it was linked
abbrev pub actions_of : List Entry → List (DevNo × Action)
actions_of [] = []
actions_of (e ∷ past) = actions_after e (actions_of past)

-- the actions, whose handler was called in the round, and the number of rounds so far
abbrev pub list_of : LineDef → List Entry → ListSeen
list_of def past = record {
  actions = actions_of past;
  begun = table_by (has_begun def past) def.devices;
  rounds = count_of (begins_round def) past;
}

abbrev pub list_by_call : CallEntry → ListSeen → ListSeen
list_by_call (called.Unlink (unlinks.Unlinked last) dev) l = after_unlink dev l
list_by_call _ l = l

-- a linked request adds its action, an unlink takes an action out, a begin marks its device, and a
-- new round clears all marks
abbrev pub list_after : LineDef → Entry → ListSeen → ListSeen
list_after def (by.Driver driver (drivers.Request flags answer opened dev)) l
    = after_link answer dev flags l
list_after def (by.CpuCall cpu call) l = list_by_call call l
list_after def (by.ThreadCall dev call) l = list_by_call call l
list_after def (by.DriverCall driver call) l = list_by_call call l
list_after def (by.Cpu cpu (cpus.Begin dev)) l = after_begin dev l
list_after def e l = if begins_round def e then after_begin_round l else l
