-- The drivers' scripts, cut by driver: the calls on lines that take part, and how far each driver
-- is.
use Rattle.std.specs.Prelude.{◌≡◌, ℕ, ◌+◌, min, Bool, ◌&&◌, if◌then◌else◌, IsSomeAnd, Option}
use Rattle.std.specs.Prelude.{Some, None, List, [], ◌∷◌, map, slice_get}
use Rattle.std.specs.List.{list_any}
use Rattle.irq_base.specs.declared.entries.Entry.{Entry}
use Rattle.irq_base.specs.declared.lines.LineDef.{LineDef}
use Rattle.irq_base.specs.declared.numbers.DriverNo.{DriverNo}
use Rattle.irq_base.specs.declared.numbers.LineNo.{LineNo}
use Rattle.irq_model.specs.Due.{due_call}
use Rattle.irq_model.specs.Kinds.{same_line, same_driver}
use Rattle.line_scripts.specs.Endings.{completes}
use Rattle.board_def.specs.declared.rows.ScriptCall.{ScriptCall}
use Rattle.board_play.specs.Kept.{IsUpTo}
use Rattle.board_play.specs.Lines.{BoardLine}
use Rattle.board_core.specs.declared.scripts.PlacedCall.{PlacedCall}
use Rattle.board_core.specs.declared.turns.DueCall.{DueCall}

-- a driver's script: its calls with the places of their lines, the place of the current call, and
-- how many entries that call has made
pub record ScriptSeen : Type 0 where
  pub driver : DriverNo
  pub calls : List PlacedCall
  pub at : ℕ
  pub made : ℕ

-- the line takes part
abbrev pub takes_part : List LineDef → LineNo → Bool
takes_part defs line = list_any (λ d. same_line line d.line) defs

-- the driver's calls on lines that take part
abbrev pub cut : List LineDef → DriverNo → List ScriptCall → List ScriptCall
cut defs r [] = []
cut defs r (c ∷ cs) =
    if same_driver r c.driver && takes_part defs c.line then (c ∷ cut defs r cs) else cut defs r cs

-- The script after one more entry of its driver. No call has more than two entries before its last,
-- so no more are counted.
abbrev pub advanced_by : Bool → ScriptSeen → ScriptSeen
advanced_by last s =
    if last then record s { at = s.at + 1; made = 0 } else record s { made = min (s.made + 1) 2 }

abbrev pub advanced_at : Option PlacedCall → Entry → ScriptSeen → ScriptSeen
advanced_at None e s = s
advanced_at (Some placed) e s = advanced_by (completes placed.call.call e) s

abbrev pub advanced : Entry → ScriptSeen → ScriptSeen
advanced e s = advanced_at (slice_get s.calls s.at) e s

-- the calls without their places
abbrev pub calls_of : List PlacedCall → List ScriptCall
calls_of placed = map (λ (x : PlacedCall). x.call) placed

-- a script as it stands on a board of these calls and lines
pub record IsScript (calls : List ScriptCall) (lines : List BoardLine) (s : ScriptSeen)
    : Type 0 where
  pub cut : calls_of s.calls ≡ cut (map (λ (x : BoardLine). x.def) lines) s.driver calls
  pub places : (i : ℕ) (x : PlacedCall) → slice_get s.calls i ≡ Some x
      → IsSomeAnd (slice_get lines x.place) (λ y. y.def.line ≡ x.call.line)
  pub up_to : IsUpTo (calls_of s.calls) lines s.driver s.at
  pub due : (x : PlacedCall) (y : BoardLine) → slice_get s.calls s.at ≡ Some x
      → slice_get lines x.place ≡ Some y
      → due_call y.def s.driver y.past ≡ Some (x.call.call, s.made)

-- the call that a driver is at, and how many entries it has made
abbrev pub due_at : Option PlacedCall → ℕ → Option DueCall
due_at None made = None
due_at (Some placed) made =
    Some (record { line = placed.call.line; call = placed.call.call; made = made })
