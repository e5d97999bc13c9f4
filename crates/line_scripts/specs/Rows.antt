-- The scripts of a line: a row for each driver that has calls on it.
use Rattle.std.specs.Prelude.{ℕ, ◌+◌, Bool, false, Option, Some, None, List, [], ◌∷◌, drop}
use Rattle.std.specs.Prelude.{unwrap_or, slice_get}
use Rattle.std.specs.Map.{lookup, set_value}
use Rattle.irq_base.specs.declared.calls.Call.{Call}
use Rattle.irq_base.specs.declared.numbers.DriverNo.{DriverNo}
use Rattle.irq_model.specs.Bounds.{is_ask_call}
use Rattle.irq_model.specs.Kinds.{same_driver}
use Rattle.irq_model.specs.Places.{count_of}

-- a driver's calls on the line in the order of its script, how many of them are complete, and how
-- many entries the next one has made
pub record RowSeen : Type 0 where
  pub calls : List Call
  pub place : ℕ
  pub within : ℕ

-- none of the calls has begun
abbrev pub unbegun : List Call → RowSeen
unbegun cs = record { calls = cs; place = 0; within = 0 }

-- the driver's row, empty if it has no calls on the line
abbrev pub row_of : List (DriverNo × RowSeen) → DriverNo → RowSeen
row_of s r = unwrap_or (lookup (same_driver r) s) (unbegun [])

-- the driver's calls on the line
abbrev pub calls_of : List (DriverNo × RowSeen) → DriverNo → List Call
calls_of s r = (row_of s r).calls

-- how many of the driver's calls are complete; this is the place of the first that isn't
abbrev pub place_of : List (DriverNo × RowSeen) → DriverNo → ℕ
place_of s r = (row_of s r).place

-- how many entries the driver's first incomplete call has made
abbrev pub within_of : List (DriverNo × RowSeen) → DriverNo → ℕ
within_of s r = (row_of s r).within

-- the driver's row, if it is there, with another place
abbrev pub placed : DriverNo → ℕ → ℕ → List (DriverNo × RowSeen) → Option RowSeen
    → List (DriverNo × RowSeen)
placed r place within s None = s
placed r place within s (Some x) =
    set_value (same_driver r) s (record x { place = place; within = within })

-- the driver goes to that place; nothing changes if it has no row
abbrev pub gone_to : DriverNo → ℕ → ℕ → List (DriverNo × RowSeen) → List (DriverNo × RowSeen)
gone_to r place within s = placed r place within s (lookup (same_driver r) s)

-- the call at the row's place
abbrev pub call_in : RowSeen → Option Call
call_in x = slice_get x.calls x.place

-- the driver's first call that isn't complete
abbrev pub call_of : List (DriverNo × RowSeen) → DriverNo → Option Call
call_of s r = call_in (row_of s r)

-- how many asks of the row aren't complete
abbrev pub asks_in : RowSeen → ℕ
asks_in x = count_of is_ask_call (drop x.place x.calls)

-- how many asks of all drivers aren't complete
abbrev pub asks_left : List (DriverNo × RowSeen) → ℕ
asks_left [] = 0
asks_left (x ∷ xs) = asks_in x.1 + asks_left xs

-- there is a call, and it is an ask
abbrev pub is_some_ask : Option Call → Bool
is_some_ask None = false
is_some_ask (Some c) = is_ask_call c
