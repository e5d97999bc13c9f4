use Rattle.std.proofs.Common.{map, take}
use Rattle.board_core.specs.Placing.{ArePlaced}
use Rattle.board_core.specs.Seen.{board_lines}
use Rattle.board_core.proofs.placing.place_scripts.Given as goal

abbrev pub invariant-loop-k : goal.invariant-loop-k
invariant-loop-k g l = ArePlaced (take l.k (board_lines (map g.L.IrqLine.seen l.lines))) l.fn.scripts.items l.scripts.items
