use Rattle.std.proofs.Common.{◌≡◌, take}
use Rattle.board_core.specs.Numbers.{numbers_of_drivers}
use Rattle.board_core.proofs.refreshing.numbers_of_drivers.Given as goal

abbrev pub invariant-loop-i : goal.invariant-loop-i
invariant-loop-i l = l.numbers.items ≡ numbers_of_drivers (take l.i l.board.drivers)
