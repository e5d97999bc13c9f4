use Rattle.std.proofs.Common.{◌≡◌, length, map}
use Rattle.board_core.specs.Refreshed.{HasLines}
use Rattle.board_core.proofs.refreshing.ask_lines.Given as goal

abbrev pub invariant-loop-k : goal.invariant-loop-k
invariant-loop-k g l = record {
  lines : HasLines (map g.L.IrqLine.seen l.lines) l.k l.ready;
  all : length l.ready.lines ≡ length l.fn.ready.lines;
  drivers : l.ready.drivers ≡ l.fn.ready.drivers;
}
