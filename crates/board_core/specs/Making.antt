-- What a system is made of.
use Rattle.std.specs.Prelude.{◌≡◌, ℕ, IsSomeAnd, Option, Some, None, List, [], ◌∷◌, ◌++◌, length}
use Rattle.std.specs.Prelude.{map, take, slice_get, slice_set}
use Rattle.irq_base.specs.declared.lines.LineDef.{LineDef}
use Rattle.board_def.specs.declared.rows.ScriptCall.{ScriptCall}
use Rattle.irq_line.specs.Seen.{LineSeen, IsSound}
use Rattle.board_def.specs.LineOf.{line_of_row}
use Rattle.board_def.specs.Seen.{BoardSeen}
use Rattle.domain_rules.specs.declared.layouts.Placement.{Placement}
use Rattle.domain_rules.specs.declared.layouts.Placement.TheVariants as placements
use Rattle.board_def.specs.declared.rows.LineRow.{LineRow}
use Rattle.board_play.specs.Lines.{defs_of, lines_of}
use Rattle.board_core.specs.Numbers.{numbers_of_defs}
use Rattle.board_core.specs.Scripts.{ScriptSeen, cut, calls_of}
use Rattle.board_core.specs.Seen.{board_line, board_lines}
use Rattle.board_core.specs.declared.scripts.PlacedCall.{PlacedCall}

-- the maker makes each line that takes part, of its virq and its definition
abbrev pub MakesAll : (ℕ → LineDef → Type 0) → BoardSeen → List Placement → Type 0
MakesAll makes board layout =
    (i virq : ℕ) (path : List (ℕ × ℕ)) (row : LineRow) → slice_get board.lines i ≡ Some row
    → slice_get layout i ≡ Some (placements.Mapped virq path)
    → makes virq (line_of_row board row)

-- the line of the definition, to which nothing has happened; none if the layout refused it
abbrev pub IsNewLine : LineDef → Option Placement → Option LineSeen → Type 0
IsNewLine def (Some (placements.Mapped virq path)) made =
    IsSomeAnd made (λ x. board_line x ≡ record { def = def; past = [] })
IsNewLine def _ made = made ≡ None

-- the board's lines, to which nothing has happened
abbrev pub AreNew : BoardSeen → List LineSeen → Type 0
AreNew board lines = board_lines lines ≡ lines_of board []

-- the driver's script, made of the board's first n calls, with no call complete
pub record IsCut (board : BoardSeen) (n : ℕ) (s : ScriptSeen) : Type 0 where
  pub at : s.at ≡ 0
  pub made : s.made ≡ 0
  pub cut : calls_of s.calls ≡ cut (defs_of board) s.driver (take n board.calls)
  pub places : (i : ℕ) (x : PlacedCall) → slice_get s.calls i ≡ Some x
      → slice_get (numbers_of_defs (defs_of board)) x.place ≡ Some x.call.line.0

-- each driver's script of the first n calls
pub record AreCut (board : BoardSeen) (n : ℕ) (scripts : List ScriptSeen) : Type 0 where
  pub drivers : map (λ (s : ScriptSeen). s.driver) scripts ≡ board.drivers
  pub each : (j : ℕ) (s : ScriptSeen) → slice_get scripts j ≡ Some s → IsCut board n s

-- each driver's script of all calls
abbrev pub AreNewScripts : BoardSeen → List ScriptSeen → Type 0
AreNewScripts board scripts = AreCut board (length board.calls) scripts

-- the scripts, with the call added at the end of the script at place j; k is the place of the
-- call's line
abbrev pub call_put : Option ScriptSeen → ℕ → ℕ → ScriptCall → List ScriptSeen → List ScriptSeen
call_put None j k c scripts = scripts
call_put (Some s) j k c scripts =
    slice_set scripts j (record s { calls = s.calls ++ record { place = k; call = c } ∷ [] })

abbrev pub with_call : Option ℕ → Option ℕ → ScriptCall → List ScriptSeen → List ScriptSeen
with_call (Some j) (Some k) c scripts = call_put (slice_get scripts j) j k c scripts
with_call _ _ c scripts = scripts

-- each line is sound
abbrev pub AreSound : List LineSeen → Type 0
AreSound lines = (i : ℕ) (x : LineSeen) → slice_get lines i ≡ Some x → IsSound x
