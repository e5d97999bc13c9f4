-- The actions of a line: each device that is linked, with its action, in the order in which they
-- were linked.
use Rattle.std.specs.Prelude.{◌≡◌, ℕ, ◌+◌, ◌-◌, ◌^◌, ◌<◌, ◌==◌, Bool, true, false, not, ◌&&◌}
use Rattle.std.specs.Prelude.{if◌then◌else◌, nat_lt, bit_and, bit_or, count_ones, Option, Some}
use Rattle.std.specs.Prelude.{None, List, [], ◌∷◌, length}
use Rattle.std.specs.Int.{trailing_ones, w64}
use Rattle.std.specs.List.{list_any}
use Rattle.irq_base.specs.declared.calls.Flags.{Flags}
use Rattle.irq_base.specs.declared.devices.Kind.{Kind}
use Rattle.irq_base.specs.declared.entries.LinkAnswer.{LinkAnswer}
use Rattle.irq_base.specs.declared.entries.LinkAnswer.TheVariants as links
use Rattle.irq_base.specs.declared.entries.Errno.TheVariants as errors
use Rattle.irq_base.specs.declared.numbers.DevNo.{DevNo}
use Rattle.irq_model.specs.Kinds.{same_dev}
use Rattle.irq_model.specs.Next.{flags_differ, is_null}
use Rattle.act_list.specs.declared.actions.Action.{Action}

-- what is seen of the actions: the list, and how many more fit without memory
pub record ActionsSeen : Type 0 where
  pub actions : List (DevNo × Action)
  pub spare : ℕ

-- the device is linked
abbrev pub has : DevNo → List (DevNo × Action) → Bool
has d [] = false
has d (e ∷ es) = if same_dev d e.0 then true else has d es

-- some linked action's flags don't go with the new ones
abbrev pub is_mismatch : Flags → List (DevNo × Action) → Bool
is_mismatch flags t = list_any (λ e. flags_differ flags e.1.flags) t

-- the answer of a request, given whether all thread bits are in use
abbrev pub answer_where : Bool → Kind → Flags → List (DevNo × Action) → LinkAnswer
answer_where full kind flags t =
    if flags.shared && flags.noauto then links.Refused errors.Inval
    else (if is_mismatch flags t then links.Refused errors.Busy
    else (if flags.oneshot && full then links.Refused errors.Busy
    else (if is_null kind && not flags.oneshot then links.Refused errors.Inval
    else links.Linked)))

-- the answer of a request: all bits are in use if 64 actions are linked
abbrev pub answer_by : Kind → Flags → List (DevNo × Action) → LinkAnswer
answer_by kind flags t = answer_where (not (nat_lt (length t) 64)) kind flags t

-- the actions are shared alike, and one-shot alike
abbrev pub GoWith : Flags → List (DevNo × Action) → Type 0
GoWith f [] = Unit {0}
GoWith f (e ∷ es) = (e.1.flags.shared ≡ f.shared) × (e.1.flags.oneshot ≡ f.oneshot) × GoWith f es

abbrev pub AreAlike : List (DevNo × Action) → Type 0
AreAlike [] = Unit {0}
AreAlike (e ∷ es) = GoWith e.1.flags es

-- nothing is linked
abbrev pub is_bare : List (DevNo × Action) → Bool
is_bare [] = true
is_bare (e ∷ es) = false

-- the device is linked, and nothing else is
abbrev pub is_only_action : DevNo → List (DevNo × Action) → Bool
is_only_action d [] = false
is_only_action d (e ∷ es) = same_dev d e.0 && is_bare es

-- the thread bits that are in use
abbrev pub bits_from : ℕ → List (DevNo × Action) → ℕ
bits_from used [] = used
bits_from used (e ∷ es) = bits_from (bit_or used e.1.bit) es

abbrev pub bits_of : List (DevNo × Action) → ℕ
bits_of t = bits_from 0 t

-- the lowest bit that isn't in use, if there is one of the 64
abbrev pub lowest_free : ℕ → ℕ
lowest_free used = 2 ^ trailing_ones w64 used

-- the bit of a new action: a one-shot one has the lowest that is free
abbrev pub bit_by : Flags → List (DevNo × Action) → ℕ
bit_by flags t = if flags.oneshot then lowest_free (bits_of t) else 0

-- the word has one bit of 64, which no action has, and each lower one is in use
pub record IsLowestFree (t : List (DevNo × Action)) (bit : ℕ) : Type 0 where
  pub one : count_ones bit ≡ 1
  pub word : bit < 2 ^ 64
  pub free : bit_and (bits_of t) bit ≡ 0
  pub lowest : bit_and (bits_of t) (bit - 1) ≡ bit - 1

-- each of the 64 bits is in use
abbrev pub is_full : List (DevNo × Action) → Bool
is_full t = bits_of t == 2 ^ 64 - 1

-- how many bits an action with these flags has
abbrev pub bits_due : Flags → ℕ
bits_due flags = if flags.oneshot then 1 else 0

-- how many of the actions are one-shot
abbrev pub count_oneshot : List (DevNo × Action) → ℕ
count_oneshot [] = 0
count_oneshot (e ∷ es) = bits_due e.1.flags + count_oneshot es

-- each one-shot action has one bit of 64, and the others have none
abbrev pub HaveBits : List (DevNo × Action) → Type 0
HaveBits [] = Unit {0}
HaveBits (e ∷ es) = (count_ones e.1.bit ≡ bits_due e.1.flags) × (e.1.bit < 2 ^ 64) × HaveBits es

-- the actions go together, and no two have the same bit: the number of bits in use is the number of
-- one-shot actions
pub record AreKept (t : List (DevNo × Action)) : Type 0 where
  pub alike : AreAlike t
  pub have : HaveBits t
  pub apart : count_ones (bits_of t) ≡ count_oneshot t

-- the bit of an action, or 0
abbrev pub bit_in : Option (DevNo × Action) → ℕ
bit_in None = 0
bit_in (Some e) = e.1.bit

-- the bit of an action, if it has one
abbrev pub bit_of : Option Action → Option ℕ
bit_of None = None
bit_of (Some a) = if a.bit == 0 then None else Some a.bit

-- the action is there, and is one-shot
abbrev pub is_oneshot_in : Option Action → Bool
is_oneshot_in None = false
is_oneshot_in (Some a) = a.flags.oneshot

-- the device of an action
abbrev pub first_of : (DevNo × Action) → DevNo
first_of e = e.0
