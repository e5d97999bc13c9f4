-- How a history leaves its line. A past is a history, the newest entry first.
use Rattle.std.specs.Prelude.{◌≡◌, ℕ, if◌then◌else◌, ◌&&◌, Option, None, List}
use Rattle.std.specs.List.{sum_by}
use Rattle.irq_base.specs.declared.entries.Actor.{Actor}
use Rattle.irq_base.specs.declared.entries.Entry.{Entry}
use Rattle.irq_base.specs.declared.lines.LineDef.{LineDef}
use Rattle.irq_model.specs.Asks.{unserved_asks}
use Rattle.irq_model.specs.Edges.{is_stored}
use Rattle.irq_model.specs.Lines.{is_edge_line}
use Rattle.irq_model.specs.Links.{is_none_linked, is_disabled, has_spurious_mark}
use Rattle.irq_model.specs.Next.{next_past}
use Rattle.irq_model.specs.Waiting.{is_pending}
use Rattle.irq_model.specs.Waits.{IsLowestHungPast}
use Rattle.line_wanted.specs.declared.left.Left.{Left}
use Rattle.line_wanted.specs.declared.left.Standing.{Standing}
use Rattle.line_wanted.specs.declared.left.Standing.TheVariants as standings

-- nothing is linked; or the depth is above 0, with the mark of a kill or without; or it is 0
abbrev pub standing_of : List Entry → Standing
standing_of past =
    if is_none_linked past then standings.Stopped
    else (if is_disabled past
    then (if has_spurious_mark past then standings.Killed else standings.Disabled)
    else standings.Enabled)

-- the unserved asks of all devices of the line
abbrev pub all_unserved : LineDef → List Entry → ℕ
all_unserved def past = sum_by (λ x. unserved_asks def x.dev past) def.devices

-- how the line is left, if this is the lowest actor that is hung
abbrev pub left_of : LineDef → Option Actor → List Entry → Left
left_of def hung past = record {
  hung = hung;
  standing = standing_of past;
  unserved = all_unserved def past;
  stored = is_edge_line def && is_stored def past;
  pending = is_edge_line def && is_pending def past;
}

-- Nothing more is due of anybody after the past, and it leaves the line so. If nobody is hung the
-- line is at rest.
pub record Leaves (def : LineDef) (left : Left) (past : List Entry) : Type 0 where
  pub still : (a : Actor) → next_past def past a ≡ None
  pub hung : IsLowestHungPast def past left.hung
  pub left_is : left_of def left.hung past ≡ left
