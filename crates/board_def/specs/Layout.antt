-- The layout of a board: its lines are laid over its domains in its order.
use Rattle.std.specs.Prelude.{List}
use Rattle.domain_rules.specs.Layout.{layout_of as layout_over}
use Rattle.domain_rules.specs.declared.layouts.Placement.{Placement}
use Rattle.board_def.specs.Seen.{BoardSeen}
use Rattle.board_def.specs.Unnamed.{defs_of, leaves_of}

-- a placement for each line, in the board's order
abbrev pub layout_of : BoardSeen → List Placement
layout_of b = layout_over (defs_of b.domains) (leaves_of b.lines)
