use Rattle.board_core.proofs.Kept.{kept_system}
use Rattle.board_core.proofs.OfProcessors.{takes_are}
use Rattle.board_core.proofs.system.System.takes.Goals as goal

pub returns : goal.returns
returns g c = λ k few.
    (let system = kept_system c.is_board.ensures.board c.self.invariant c.self.view_is in
    takes_are system c.args.cpu c.takes.result k
    (c.takes.ensures k few))
