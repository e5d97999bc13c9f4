-- The parent of the demultiplexer: one level input, which is high while some child has a take due
-- (ours: in 6.1 a software resend goes to the child past the parent).
use Rattle.std.specs.Prelude.{Bool, false, not, ◌==◌, List, [], ◌∷◌}
use Rattle.irq_base.specs.Cell.{Cell, fresh_cell, after_ack, after_high, after_mask, after_unmask}
use Rattle.irq_base.specs.declared.lines.Trigger.TheVariants as triggers
use Rattle.board_def.specs.Seen.{BoardSeen}
use Rattle.board_play.specs.Lines.{BoardLine}
use Rattle.irq_chained.specs.Chain.{lines_in, status_of}
use Rattle.irq_chained.specs.declared.chain.ChainEntry.{ChainEntry}
use Rattle.irq_chained.specs.declared.chain.ChainEntry.TheVariants as steps

-- some child has a take due
abbrev pub is_asked : List BoardLine → Bool
is_asked lines = not (status_of lines == 0)

-- what a step does to the parent: an enter masks and acknowledges it, an exit unmasks it
abbrev pub parent_after : ChainEntry → Cell → Cell
parent_after (steps.Enter cpu status) cell = after_ack (after_mask cell)
parent_after (steps.Child line entry) cell = cell
parent_after (steps.Exit cpu) cell = after_unmask cell

-- A chained handler's input is open from the start (`__irq_do_set_handler` starts it at once);
-- after each step the input shows whether a child has a take due.
abbrev pub parent_cell : BoardSeen → List ChainEntry → Cell
parent_cell b [] = after_high (is_asked (lines_in b []))
    (after_unmask (fresh_cell triggers.Level false false false false))
parent_cell b (e ∷ g) =
    after_high (is_asked (lines_in b (e ∷ g))) (parent_after e (parent_cell b g))
