-- What is seen of a line's list of actions, and what each call makes of it.
use Rattle.std.specs.Prelude.{ℕ, ◌+◌, Bool, true, false, if◌then◌else◌, Option, Some, None}
use Rattle.std.specs.Prelude.{unwrap_or, List, [], ◌∷◌, ◌++◌}
use Rattle.std.specs.Map.{remove_entry}
use Rattle.irq_base.specs.declared.calls.Flags.{Flags}
use Rattle.irq_base.specs.declared.devices.DeviceDef.{DeviceDef}
use Rattle.irq_base.specs.declared.entries.LinkAnswer.{LinkAnswer}
use Rattle.irq_base.specs.declared.entries.UnlinkAnswer.{UnlinkAnswer}
use Rattle.irq_base.specs.declared.entries.UnlinkAnswer.TheVariants as unlinks
use Rattle.irq_base.specs.declared.numbers.DevNo.{DevNo}
use Rattle.irq_model.specs.Kinds.{same_dev, is_linked_answer}
use Rattle.device_table.specs.Rows.{at, change, all_with}
use Rattle.act_list.specs.Actions.{has, is_only_action, bit_by}
use Rattle.act_list.specs.declared.actions.Action.{Action}

-- the actions in order, for each device of the line whether its handler was called in the round,
-- and the number of rounds so far
pub record ListSeen : Type 0 where
  pub actions : List (DevNo × Action)
  pub begun : List (DevNo × Bool)
  pub rounds : ℕ

-- the list, and how many more actions fit without memory
pub record ActListSeen : Type 0 where
  pub list : ListSeen
  pub spare : ℕ

abbrev pub first_list : List DeviceDef → ListSeen
first_list devices = record { actions = []; begun = all_with false devices; rounds = 0 }

-- the actions without their thread bits
abbrev pub flags_of : List (DevNo × Action) → List (DevNo × Flags)
flags_of [] = []
flags_of (e ∷ es) = (e.0, e.1.flags) ∷ flags_of es

-- the device's handler was called in the round
abbrev pub begun_at : List (DevNo × Bool) → DevNo → Bool
begun_at b d = unwrap_or (at b d) false

-- the first linked device whose handler wasn't called in the round
abbrev pub first_left : List (DevNo × Bool) → List (DevNo × Action) → Option DevNo
first_left b [] = None
first_left b (e ∷ es) = if begun_at b e.0 then first_left b es else Some e.0

-- the action of a request: a one-shot one has the lowest free thread bit
abbrev pub action_by : Flags → List (DevNo × Action) → Action
action_by flags t = record { flags = flags; bit = bit_by flags t }

abbrev pub after_link : LinkAnswer → DevNo → Flags → ListSeen → ListSeen
after_link answer d flags l =
    if is_linked_answer answer
    then record l { actions = l.actions ++ (d, action_by flags l.actions) ∷ [] } else l

-- the answer of an unlink, and the list after it
abbrev pub unlink_by : DevNo → List (DevNo × Action) → UnlinkAnswer
unlink_by d t = if has d t then unlinks.Unlinked (is_only_action d t) else unlinks.NotThere

abbrev pub after_unlink : DevNo → ListSeen → ListSeen
after_unlink d l = record l { actions = remove_entry (same_dev d) l.actions }

-- a handler is called
abbrev pub after_begin : DevNo → ListSeen → ListSeen
after_begin d l = record l { begun = change (λ b. true) l.begun d }

-- no handler was called
abbrev pub cleared : List (DevNo × Bool) → List (DevNo × Bool)
cleared [] = []
cleared (e ∷ es) = (e.0, false) ∷ cleared es

abbrev pub after_begin_round : ListSeen → ListSeen
after_begin_round l = record l { begun = cleared l.begun; rounds = l.rounds + 1 }

-- the list of the same devices, before any of them was linked
abbrev pub unlinked : ListSeen → ListSeen
unlinked l = record { actions = []; begun = cleared l.begun; rounds = 0 }
