use Rattle.std.proofs.Common.{take, reverse}
use Rattle.board_core.specs.Placing.{AreOwn}
use Rattle.board_core.proofs.placing.own_scripts.Given as goal

-- the scripts stand after the line's first i entries
abbrev pub invariant-loop-i : goal.invariant-loop-i
invariant-loop-i g l =
    let line = g.L.IrqLine.seen l.line in
    AreOwn l.board.drivers (record { def = line.def; past = reverse (take l.i line.entries) }) l.own.items
