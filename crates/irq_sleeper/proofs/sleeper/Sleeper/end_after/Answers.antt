use Rattle.std.proofs.Common.{subst}
use Rattle.board_core.specs.Hung.{SaysEnd}
use Rattle.board_core.specs.Seen.{board_lines}
use Rattle.irq_sleeper.specs.Seen.{SleeperSeen}
use Rattle.irq_sleeper.proofs.sleeper.Sleeper.end_after.Goals as goal

pub returns-clause-says : goal.returns-clause-says
returns-clause-says g c = subst (λ (s : SleeperSeen). SaysEnd (board_lines s.system.lines) c.end_after.result) c.self.view_is c.end_after.ensures.says
