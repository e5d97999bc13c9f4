-- Which boards can be played behind one demultiplexer.
use Rattle.std.specs.Prelude.{ℕ, Bool, true, false, not, ◌&&◌, if◌then◌else◌, is_some, nat_le}
use Rattle.std.specs.Prelude.{Option, Some, None}
use Rattle.std.specs.List.{list_any}
use Rattle.irq_base.specs.declared.calls.Call.{Call}
use Rattle.irq_base.specs.declared.calls.Call.TheVariants as calls
use Rattle.irq_model.specs.Lines.{is_in_mask}
use Rattle.domain_rules.specs.Layout.{count_of_mapped, is_mapped}
use Rattle.domain_rules.specs.declared.layouts.Placement.{Placement}
use Rattle.board_def.specs.Layout.{layout_of}
use Rattle.board_def.specs.Seen.{BoardSeen}
use Rattle.board_def.specs.declared.rows.LineRow.{LineRow}
use Rattle.board_def.specs.declared.rows.ScriptCall.{ScriptCall}
use Rattle.board_ready.specs.First.{first_of}

-- a call that moves a line to other processors
abbrev pub is_affinity_call : Call → Bool
is_affinity_call (calls.Affinity mask) = true
is_affinity_call _ = false

abbrev pub moves_a_line : ScriptCall → Bool
moves_a_line c = is_affinity_call c.call

-- the line's mask leaves out a processor of the machine; bits above the machine are free
abbrev pub leaves_out : ℕ → LineRow → Bool
leaves_out cpus row = is_some (first_of (λ c. not (is_in_mask row.mask c)) cpus)

-- 1 for a line that takes part
abbrev pub mapped_at : Option Placement → ℕ
mapped_at None = 0
mapped_at (Some p) = if is_mapped p then 1 else 0

-- No line is moved, each line may go to all processors, and the lines that take part are as many
-- as a status has bits. Calls and lines that the layout refuses count for the first two.
abbrev pub is_for_chain : BoardSeen → Bool
is_for_chain b = not (list_any moves_a_line b.calls)
    && (not (list_any (leaves_out b.cpus) b.lines) && nat_le (count_of_mapped (layout_of b)) 32)
