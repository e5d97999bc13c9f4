-- The runs of handlers that moves ended.
use Rattle.std.specs.Prelude.{Option, Some, None, Result, Ok, List, [], ◌∷◌, ◌++◌, drop, length}
use Rattle.std.specs.Prelude.{reverse}
use Rattle.std.specs.Prelude.{ℕ, slice_get}
use Rattle.irq_base.specs.declared.devices.Run.{Run}
use Rattle.irq_base.specs.declared.entries.Entry.{Entry}
use Rattle.callbacks.specs.Heard.{one_run}
use Rattle.irq_line.specs.Runs.{run_ended}
use Rattle.irq_line.specs.Seen.{LineSeen}
use Rattle.irq_line.specs.declared.answers.StepRefused.{StepRefused}
use Rattle.irq_line.specs.declared.answers.Stepped.{Stepped}
use Rattle.irq_line.specs.declared.answers.Stepped.TheVariants as stepped
use Rattle.board_def.specs.Seen.{BoardSeen}
use Rattle.board_play.specs.Lines.{BoardLine, Move, find_line, lines_of}
use Rattle.board_core.specs.Playing.{lines_after_all}
use Rattle.board_core.specs.Seen.{SystemSeen, board_lines}
use Rattle.board_core.specs.declared.turns.Turn.{Turn}
use Rattle.board_core.specs.declared.turns.Turn.TheVariants as turns

-- the run that an entry ends, added to the line as it stands
abbrev pub run_on : Option BoardLine → Entry → Option Run
run_on None e = None
run_on (Some x) e = run_ended x.def x.past e

-- the runs that the move ends, made on these lines: one or none
abbrev pub runs_by_move : List BoardLine → Move → List Run
runs_by_move lines m = one_run (run_on (find_line lines m.0) m.1)

-- the runs that the moves ended, the newest first, each on its line as it was before the move
abbrev pub runs_of : BoardSeen → List Move → List Run
runs_of b [] = []
runs_of b (m ∷ g) = runs_by_move (lines_of b g) m ++ runs_of b g

-- those of a system's log
abbrev pub runs_in : SystemSeen → List Run
runs_in s = runs_of s.board (reverse s.log)

-- the same of moves that were made on lines as they stood
abbrev pub runs_from : List BoardLine → List Move → List Run
runs_from lines [] = []
runs_from lines (m ∷ g) = runs_by_move (lines_after_all g lines) m ++ runs_from lines g

-- the run that the turn ended: that of its move, if there was one
abbrev pub runs_by_turn : SystemSeen → Result Turn StepRefused → List Run
runs_by_turn old (Ok (turns.Moved line entry)) = runs_by_move (board_lines old.lines) (line, entry)
runs_by_turn old _ = []

-- the runs that ended from the old system to the new one: those of the moves that the log has more
abbrev pub runs_since : (old new : SystemSeen) → List Run
runs_since old new =
    runs_from (board_lines old.lines) (reverse (drop (length old.log) new.log))

-- the run that the step of the line at this place ended: that of the entry that it added
abbrev pub runs_at : {L : Type 0} → List LineSeen → ℕ → Result (Stepped L) StepRefused → List Run
runs_at lines k (Ok (stepped.Added entry)) =
    one_run (run_on (slice_get (board_lines lines) k) entry)
runs_at lines k _ = []
