-- The runs of handlers that the steps of a demultiplexer ended. Only a child's entry ends one.
use Rattle.std.specs.Prelude.{List, [], reverse, Result, Ok}
use Rattle.irq_base.specs.declared.devices.Run.{Run}
use Rattle.irq_line.specs.declared.answers.StepRefused.{StepRefused}
use Rattle.board_core.specs.Runs.{runs_by_move, runs_of}
use Rattle.irq_chained.specs.Chain.{children}
use Rattle.irq_chained.specs.Seen.{DemuxSeen}
use Rattle.irq_chained.specs.Turned.{lines_now}
use Rattle.irq_chained.specs.declared.chain.ChainEntry.TheVariants as steps
use Rattle.irq_chained.specs.declared.chain.ChainTurn.{ChainTurn}
use Rattle.irq_chained.specs.declared.chain.ChainTurn.TheVariants as turns

-- the run that the turn ended: that of the child's entry, if it made one
abbrev pub runs_by_turn : DemuxSeen → Result ChainTurn StepRefused → List Run
runs_by_turn old (Ok (turns.Moved (steps.Child line entry))) =
    runs_by_move (lines_now old) (line, entry)
runs_by_turn old _ = []

-- the runs that the children's entries ended so far
abbrev pub runs_in : DemuxSeen → List Run
runs_in d = runs_of d.board (children (reverse d.log))
