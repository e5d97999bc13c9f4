use Rattle.std.proofs.Common.{◌≡◌, length}
use Rattle.board_core.specs.Refreshed.{HasDrivers}
use Rattle.board_core.proofs.refreshing.ask_scripts.Given as goal

abbrev pub invariant-loop-j : goal.invariant-loop-j
invariant-loop-j l = record {
  drivers : HasDrivers l.scripts l.j l.ready;
  all : length l.ready.drivers ≡ length l.fn.ready.drivers;
  lines : l.ready.lines ≡ l.fn.ready.lines;
}
