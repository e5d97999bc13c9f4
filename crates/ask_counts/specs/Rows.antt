-- The counts of a device's asks, and what each call makes of them.
use Rattle.std.specs.Prelude.{◌≡◌, ℕ, ◌+◌, ◌-◌, ◌<◌, ◌≤◌, ◌^◌, Bool, true, false, not, ◌&&◌}
use Rattle.std.specs.Prelude.{if◌then◌else◌, nat_lt, Option, Some, None, List, length}
use Rattle.irq_base.specs.declared.numbers.DevNo.{DevNo}
use Rattle.device_table.specs.Rows.{at}
use Rattle.device_table.specs.Sums.{how_many}
use Rattle.ask_counts.specs.declared.rows.AskRow.{AskRow}

-- nothing was asked yet
abbrev pub no_asks : AskRow
no_asks = record { unserved = 0; fresh = 0; met_by_handler = 0; met_by_thread = 0; quiet = false }

-- an ask is unserved, and the device isn't quiet
abbrev pub is_waiting : AskRow → Bool
is_waiting r = not r.quiet && nat_lt 0 r.unserved

-- the count of the devices that aren't quiet and have an unserved ask
pub record IsCounted (t : List (DevNo × AskRow)) (n : ℕ) : Type 0 where
  pub waiting : n ≡ how_many is_waiting t
  pub few : length t ≤ 256

-- one more ask fits the counts
abbrev pub HasRoom : Option AskRow → Type 0
HasRoom None = Unit {0}
HasRoom (Some r) = (r.unserved < 2 ^ 32 - 1) × (r.fresh < 2 ^ 32 - 1)

-- one more ask
abbrev pub asked : AskRow → AskRow
asked r = record r { unserved = r.unserved + 1; fresh = r.fresh + 1 }

-- the handler is called: what is unserved now is what it meets
abbrev pub called : Bool → AskRow → AskRow
called serves r = record r { met_by_handler = r.unserved; fresh = if serves then 0 else r.fresh }

-- the thread begins a run
abbrev pub begun : Bool → AskRow → AskRow
begun serves r = record r { met_by_thread = r.unserved; fresh = if serves then 0 else r.fresh }

-- a serving run returns: only what was asked since it began stays unserved
abbrev pub served : Bool → AskRow → AskRow
served serves r = record r { unserved = if serves then r.fresh else r.unserved }

-- what a serving run takes away as it returns: what was unserved as it began, and nothing if a call
-- has served the device since
abbrev pub taken_by : AskRow → ℕ
taken_by r = r.unserved - r.fresh

-- a call serves the device: nothing is unserved
abbrev pub emptied : AskRow → AskRow
emptied r = record r { unserved = 0; fresh = 0 }

-- the device's own interrupt is turned off, and on
abbrev pub turned_off : AskRow → AskRow
turned_off r = record r { quiet = true }

abbrev pub turned_on : AskRow → AskRow
turned_on r = record r { quiet = false }

-- how many asks of the row are unserved; none for a device without a row
abbrev pub unserved_in : Option AskRow → ℕ
unserved_in None = 0
unserved_in (Some r) = r.unserved

abbrev pub unserved_at : List (DevNo × AskRow) → DevNo → ℕ
unserved_at t d = unserved_in (at t d)

-- the device's own interrupt is off; on for a device without a row
abbrev pub is_quiet_in : Option AskRow → Bool
is_quiet_in None = false
is_quiet_in (Some r) = r.quiet

abbrev pub is_quiet_at : List (DevNo × AskRow) → DevNo → Bool
is_quiet_at t d = is_quiet_in (at t d)
