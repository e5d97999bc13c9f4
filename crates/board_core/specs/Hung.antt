-- How a board stands on which nobody can move (ours).
use Rattle.std.specs.Prelude.{Result, Ok, Err, List}
use Rattle.board_play.specs.Hanging.{IsFirstHung, NobodyHangs}
use Rattle.board_play.specs.Lines.{BoardLine}
use Rattle.board_core.specs.declared.ends.PlayEnd.{PlayEnd}
use Rattle.board_core.specs.declared.ends.PlayEnd.TheVariants as ends

-- exactly one of the two is so
abbrev pub IsEndOf : List BoardLine → PlayEnd → Type 0
IsEndOf lines ends.Settled = NobodyHangs lines
IsEndOf lines (ends.Hung line actor) = IsFirstHung lines line actor

-- how a play stopped, without who hangs: nobody can move, or a step was refused
abbrev pub stop_of : {E : Type 0} → Result PlayEnd E → Result Unit E
stop_of (Ok end) = Ok tt
stop_of (Err refused) = Err refused

-- where nobody can move, the lines are as the end says
abbrev pub SaysEnd : {E : Type 0} → List BoardLine → Result PlayEnd E → Type 0
SaysEnd lines (Ok end) = IsEndOf lines end
SaysEnd lines (Err refused) = Unit {0}
