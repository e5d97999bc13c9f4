-- What every move of a board keeps, however its lines came to be as they are.
use Rattle.std.specs.Prelude.{◌≡◌, ℕ, suc, true, IsSomeAnd, Some, List, length, map, take}
use Rattle.std.specs.Prelude.{slice_get}
use Rattle.irq_base.specs.declared.calls.Call.{Call}
use Rattle.irq_base.specs.declared.numbers.CpuNo.{CpuNo}
use Rattle.irq_base.specs.declared.numbers.DriverNo.{DriverNo}
use Rattle.irq_base.specs.declared.numbers.LineNo.{LineNo}
use Rattle.irq_model.specs.Due.{due_call}
use Rattle.irq_model.specs.Legal.{IsLegalPast}
use Rattle.irq_model.specs.Rounds.{flow, is_cpu}
use Rattle.irq_laws.specs.Kept.{complete_by}
use Rattle.board_def.specs.Seen.{BoardSeen}
use Rattle.board_def.specs.declared.rows.ScriptCall.{ScriptCall}
use Rattle.board_play.specs.Current.{calls_on}
use Rattle.board_play.specs.Lines.{BoardLine, defs_of}

-- the call is the driver's, on the line
abbrev pub IsCallOn : LineNo → DriverNo → ScriptCall → Type 0
IsCallOn line r c = (c.line ≡ line) × (c.driver ≡ r)

-- The driver's script is made up to a place. On each line the calls before the place are complete,
-- and no others are; a call that has begun and isn't complete is the one at the place.
pub record IsUpTo (calls : List ScriptCall) (lines : List BoardLine) (r : DriverNo) (place : ℕ)
    : Type 0 where
  pub complete : (i : ℕ) (x : BoardLine) → slice_get lines i ≡ Some x
      → length (complete_by x.def r x.past) ≡ calls_on x.def.line r (take place calls)
  pub begun : (i : ℕ) (x : BoardLine) (c : Call) (n : ℕ) → slice_get lines i ≡ Some x
      → due_call x.def r x.past ≡ Some (c, suc n)
      → IsSomeAnd (slice_get calls place) (IsCallOn x.def.line r)

-- each processor has a flow on one line at most: who has one takes nothing on another
abbrev pub HaveOneFlow : List BoardLine → Type 0
HaveOneFlow lines = (c : CpuNo) (i j : ℕ) (x y : BoardLine) → slice_get lines i ≡ Some x
    → slice_get lines j ≡ Some y → is_cpu c (flow x.def x.past) ≡ true
    → is_cpu c (flow y.def y.past) ≡ true → i ≡ j

-- the lines are the board's, each history is legal, the drivers' calls are made in the order of
-- their scripts, and no processor has two flows
pub record AreKept (board : BoardSeen) (lines : List BoardLine) : Type 0 where
  pub defs : map (λ (x : BoardLine). x.def) lines ≡ defs_of board
  pub legal : (i : ℕ) (x : BoardLine) → slice_get lines i ≡ Some x → IsLegalPast x.def x.past
  pub in_order : (r : DriverNo) → (place : ℕ) × IsUpTo board.calls lines r place
  pub one_flow : HaveOneFlow lines
