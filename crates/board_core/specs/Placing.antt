-- Scripts that are placed after what their drivers have done on lines that have entries.
use Rattle.std.specs.Prelude.{◌≡◌, ◌+◌, ◌≤◌, ℕ, max, IsSomeAnd, Option, Some, None, List, [], ◌∷◌}
use Rattle.std.specs.Prelude.{map, length, slice_get}
use Rattle.std.specs.List.{sum_by}
use Rattle.irq_base.specs.declared.calls.Call.{Call}
use Rattle.irq_base.specs.declared.entries.Actor.{Actor}
use Rattle.irq_base.specs.declared.entries.Actor.TheVariants as actors
use Rattle.irq_base.specs.declared.entries.Entry.{Entry}
use Rattle.irq_base.specs.declared.numbers.DriverNo.{DriverNo}
use Rattle.irq_line.specs.Seen.{LineSeen}
use Rattle.irq_model.specs.Due.{calls_by, due_call}
use Rattle.irq_laws.specs.Kept.{complete_by}
use Rattle.board_play.specs.Lines.{BoardLine}
use Rattle.board_core.specs.Inside.{drivers_of}
use Rattle.board_core.specs.Numbers.{IsPlaceOfNumber}
use Rattle.board_core.specs.Scripts.{ScriptSeen}
use Rattle.board_core.specs.declared.scripts.PlacedCall.{PlacedCall}

-- how many of the driver's calls on the line are complete
abbrev pub completed_on : DriverNo → BoardLine → ℕ
completed_on r x = length (complete_by x.def r x.past)

abbrev pub made_of : Option (Call × ℕ) → ℕ
made_of None = 0
made_of (Some due) = due.1

-- how many entries of the driver's due call on the line are there
abbrev pub made_on : DriverNo → BoardLine → ℕ
made_on r x = made_of (due_call x.def r x.past)

-- the largest number of such entries on any of the lines
abbrev pub most_made : DriverNo → List BoardLine → ℕ
most_made r [] = 0
most_made r (x ∷ lines) = max (made_on r x) (most_made r lines)

-- The script after all that its driver has done on the lines. At most one of them has a call of the
-- driver that has begun, since its calls are made one after another.
abbrev pub placed : List BoardLine → ScriptSeen → ScriptSeen
placed lines s = record s {
  at = s.at + sum_by (completed_on s.driver) lines;
  made = max s.made (most_made s.driver lines);
}

-- each script stands after all that its driver has done
pub record ArePlaced (lines : List BoardLine) (old new : List ScriptSeen) : Type 0 where
  pub drivers : drivers_of new ≡ drivers_of old
  pub each : (j : ℕ) (s : ScriptSeen) → slice_get old j ≡ Some s
      → slice_get new j ≡ Some (placed lines s)

-- each script has at least as many calls left as its driver has complete on the lines
abbrev pub HaveRoom : List BoardLine → List ScriptSeen → Type 0
HaveRoom lines scripts = (j : ℕ) (s : ScriptSeen) → slice_get scripts j ≡ Some s
    → s.at + sum_by (completed_on s.driver) lines ≤ length s.calls

-- the line with one entry more
abbrev pub with_entry : Entry → BoardLine → BoardLine
with_entry e x = record { def = x.def; past = e ∷ x.past }

-- a driver's script on one line alone: its calls there, after what the line's entries tell
pub record IsOwn (x : BoardLine) (s : ScriptSeen) : Type 0 where
  pub calls : map (λ (y : PlacedCall). y.call.call) s.calls ≡ calls_by s.driver x.def.calls
  pub at : s.at ≡ completed_on s.driver x
  pub made : s.made ≡ made_on s.driver x

-- each of the drivers has its script on the line alone
pub record AreOwn (all : List DriverNo) (x : BoardLine) (scripts : List ScriptSeen) : Type 0 where
  pub drivers : drivers_of scripts ≡ all
  pub each : (j : ℕ) (s : ScriptSeen) → slice_get scripts j ≡ Some s → IsOwn x s

-- the script after what `own`, the driver's script on one line alone, has done
abbrev pub joined : ScriptSeen → ScriptSeen → ScriptSeen
joined own s = record s { at = s.at + own.at; made = max s.made own.made }

-- at each place both lists have a script, and the second has room for what `own` has done
abbrev pub CanJoin : List ScriptSeen → List ScriptSeen → Type 0
CanJoin own scripts = (j : ℕ) (s : ScriptSeen) → slice_get scripts j ≡ Some s
    → IsSomeAnd (slice_get own j) (λ o. s.at + o.at ≤ length s.calls)

pub record AreJoined (own old new : List ScriptSeen) : Type 0 where
  pub drivers : drivers_of new ≡ drivers_of old
  pub each : (j : ℕ) (s o : ScriptSeen) → slice_get old j ≡ Some s → slice_get own j ≡ Some o
      → slice_get new j ≡ Some (joined o s)

-- the place of the driver that the actor is; none if it is no driver
abbrev pub IsPlaceOfActor : List ℕ → Actor → Option ℕ → Type 0
IsPlaceOfActor numbers (actors.Driver r) place = IsPlaceOfNumber numbers r.0 place
IsPlaceOfActor numbers _ place = place ≡ None

-- for each line the number of its entries
pub record AreLengths (lines : List LineSeen) (lengths : List ℕ) : Type 0 where
  pub all : length lengths ≡ 64
  pub each : (k : ℕ) (x : LineSeen) → slice_get lines k ≡ Some x
      → slice_get lengths k ≡ Some (length x.entries)
