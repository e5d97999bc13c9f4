-- What the owners of the devices say of the calls so far.
use Rattle.std.specs.Prelude.{◌≡◌, Bool, true, false, Option, Some, None, List, reverse}
use Rattle.std.specs.Option.{option_map}
use Rattle.std.specs.Map.{lookup}
use Rattle.irq_base.specs.declared.numbers.DevNo.{DevNo}
use Rattle.irq_base.specs.declared.numbers.DriverNo.{DriverNo}
use Rattle.irq_model.specs.Kinds.{same_dev}
use Rattle.board_def.specs.Rules.{first_owning, is_a_request}
use Rattle.board_def.specs.declared.rows.ScriptCall.{ScriptCall}
use Rattle.board_words.specs.declared.statements.CallWords.{CallWords}
use Rattle.board_words.specs.declared.statements.CallWords.TheVariants as words
use Rattle.board_text.specs.declared.owners.Owner.{Owner}

-- the owner of the device
abbrev pub owner_in : DevNo → List (DevNo × Owner) → Option Owner
owner_in dev owners = lookup (same_dev dev) owners

abbrev pub is_requested : Option Owner → Bool
is_requested (Some owner) = owner.requested
is_requested None = false

-- each device's owner is the driver of the first request or free of the device; whether the last
-- one is a request stands with it
abbrev pub Owns : List (DevNo × Owner) → List ScriptCall → Type 0
Owns owners calls =
    (dev : DevNo)
    → (option_map (λ o. o.driver) (owner_in dev owners)
    ≡ option_map (λ c. c.driver) (first_owning dev calls))
    × (is_requested (owner_in dev owners) ≡ is_a_request dev (first_owning dev (reverse calls)))

-- the owner after a request or a free by the driver
abbrev pub owner_noted : Option Owner → DriverNo → Bool → Owner
owner_noted (Some owner) driver requested = record { driver = owner.driver; requested = requested }
owner_noted None driver requested = record { driver = driver; requested = requested }

-- the call is a request or a free, which says who owns its device
abbrev pub tells_owner : CallWords → Bool
tells_owner (words.Request dev flags twice) = true
tells_owner (words.Free dev) = true
tells_owner _ = false
