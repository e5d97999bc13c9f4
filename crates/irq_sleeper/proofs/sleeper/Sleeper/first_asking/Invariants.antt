use Rattle.std.proofs.Common.{◌≡◌, drop}
use Rattle.board_core.specs.Seen.{board_lines}
use Rattle.irq_pm.specs.Phases.{first_asking}
use Rattle.irq_sleeper.proofs.sleeper.Sleeper.first_asking.Given as goal

abbrev pub invariant-loop-j : goal.invariant-loop-j
invariant-loop-j g l =
    first_asking l.self.system.board (board_lines l.self.system.lines) l.self.system.board.drivers
    ≡ first_asking l.self.system.board (board_lines l.self.system.lines) (drop l.j l.self.system.board.drivers)
