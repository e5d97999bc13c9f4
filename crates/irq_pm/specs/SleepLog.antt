-- What happens on a board that sleeps: steps on lines, and the two marks between them. The newest
-- comes first.
use Rattle.std.specs.Prelude.{Option, Some, None, List, [], ◌∷◌}
use Rattle.board_play.specs.Lines.{Move}
use Rattle.board_play.specs.Orders.{onto}
use Rattle.irq_pm.specs.declared.entries.SleepEntry.{SleepEntry}
use Rattle.irq_pm.specs.declared.entries.SleepEntry.TheVariants as sleeps

-- the move that it is; a mark is none
abbrev pub told : SleepEntry → Option Move
told (sleeps.Step line entry) = Some (line, entry)
told sleeps.Asleep = None
told (sleeps.Wake line) = None

-- the moves, without the marks
abbrev pub moves_of : List SleepEntry → List Move
moves_of [] = []
moves_of (e ∷ g) = onto (told e) (moves_of g)
