use Rattle.std.proofs.Common.{refl}
use Rattle.board_core.proofs.Kept.{kept_system}
use Rattle.board_core.proofs.Standing.{cpu_there, cpu_nowhere}
use Rattle.board_core.proofs.system.System.cpu_stand.Goals as goal

pub returns-in-Some : goal.returns-in-Some
returns-in-Some g c =
    let system = kept_system c.is_board.ensures.board c.self.invariant c.self.view_is in
    cpu_there system c.args.cpu c.in-Some.k _ c.in-Some.ensures refl

pub returns-in-None : goal.returns-in-None
returns-in-None g c =
    let system = kept_system c.is_board.ensures.board c.self.invariant c.self.view_is in
    cpu_nowhere system c.args.cpu c.in-None.ensures
