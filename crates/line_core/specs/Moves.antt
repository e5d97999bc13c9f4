-- What an entry makes of the drivers' places.
use Rattle.std.specs.Prelude.{◌≡◌, ◌+◌, ◌<◌, ◌^◌, Bool, false, IsSome, Option, Some, None, List}
use Rattle.irq_base.specs.declared.calls.Call.{Call}
use Rattle.irq_base.specs.declared.entries.Actor.{Actor}
use Rattle.irq_base.specs.declared.entries.Actor.TheVariants as actors
use Rattle.irq_base.specs.declared.entries.Entry.{Entry}
use Rattle.irq_base.specs.declared.numbers.DriverNo.{DriverNo}
use Rattle.irq_model.specs.Kinds.{same_driver}
use Rattle.line_scripts.specs.Endings.{completes}
use Rattle.line_scripts.specs.Rows.{RowSeen, calls_of, call_of, place_of, within_of}
use Rattle.line_marks.specs.Scripts.{place_after, within_after}

-- one driver has added an entry, which ends its due call or doesn't
pub record IsMoved (who : DriverNo) (ends : Bool) (old new : List (DriverNo × RowSeen))
    : Type 0 where
  pub calls : (r : DriverNo) → calls_of new r ≡ calls_of old r
  pub place : place_of new who ≡ place_after ends (place_of old who)
  pub within : within_of new who ≡ within_after ends (within_of old who)
  pub other_places : (r : DriverNo) → same_driver r who ≡ false → place_of new r ≡ place_of old r
  pub other_withins : (r : DriverNo) → same_driver r who ≡ false → within_of new r ≡ within_of old r

-- the entry ends the due call
abbrev pub ends_call : Option Call → Entry → Bool
ends_call None e = false
ends_call (Some c) e = completes c e

-- an entry of a driver moves its place alone; one of a processor or of a thread moves none
abbrev pub Moves : Actor → Entry → List (DriverNo × RowSeen) → List (DriverNo × RowSeen) → Type 0
Moves (actors.Driver r) e old new = IsMoved r (ends_call (call_of old r) e) old new
Moves _ e old new = new ≡ old

-- a call of the driver is due, and the count of its entries has room
abbrev pub CanMove : Actor → List (DriverNo × RowSeen) → Type 0
CanMove (actors.Driver r) scripts = IsSome (call_of scripts r) × (within_of scripts r + 1 < 2 ^ 32)
CanMove _ scripts = Unit {0}
