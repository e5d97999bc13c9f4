use Rattle.std.proofs.Common.{◌∙◌}
use Rattle.board_core.proofs.Kept.{kept_system}
use Rattle.board_core.proofs.Standing.{cpu_can_move}
use Rattle.board_core.proofs.system.System.can_cpu_move.Goals as goal

pub returns : goal.returns
returns g c = c.is_ready.ensures ∙ cpu_can_move (kept_system c.is_board.ensures.board c.self.invariant c.self.view_is) c.args.cpu
