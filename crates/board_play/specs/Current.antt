-- The line of a driver's current call, which is the first call of its script that isn't complete.
--
-- Call k of the driver on a line, counted from 0, is complete if the line's history has more than k
-- complete calls of the driver. So only histories are looked at.
use Rattle.std.specs.Prelude.{ℕ, ◌+◌, Bool, false, ◌&&◌, nat_le, Option, Some, None, List, []}
use Rattle.std.specs.Prelude.{◌∷◌, length, if◌then◌else◌}
use Rattle.irq_base.specs.declared.numbers.DriverNo.{DriverNo}
use Rattle.irq_base.specs.declared.numbers.LineNo.{LineNo}
use Rattle.irq_model.specs.Kinds.{same_line, same_driver}
use Rattle.irq_laws.specs.Kept.{complete_by}
use Rattle.board_def.specs.declared.rows.ScriptCall.{ScriptCall}
use Rattle.board_play.specs.Lines.{BoardLine, find_line}

-- how many of the calls are the driver's, and on the line
abbrev pub calls_on : LineNo → DriverNo → List ScriptCall → ℕ
calls_on line r [] = 0
calls_on line r (c ∷ cs) =
    if same_line c.line line && same_driver r c.driver then calls_on line r cs + 1
    else calls_on line r cs

-- the driver's call number k on the line isn't complete; a line that was refused has no calls that
-- wait
abbrev pub is_open : Option BoardLine → DriverNo → ℕ → Bool
is_open None r k = false
is_open (Some x) r k = nat_le (length (complete_by x.def r x.past)) k

-- the line of the driver's first call among `cs` that isn't complete; `before` are the calls before
-- them in the scripts, the last one first
abbrev pub current_from : List BoardLine → DriverNo → List ScriptCall → List ScriptCall
    → Option BoardLine
current_from lines r before [] = None
current_from lines r before (c ∷ cs) =
    if same_driver r c.driver && is_open (find_line lines c.line) r (calls_on c.line r before)
    then find_line lines c.line
    else current_from lines r (c ∷ before) cs

abbrev pub current_line : List ScriptCall → List BoardLine → DriverNo → Option BoardLine
current_line calls lines r = current_from lines r [] calls
