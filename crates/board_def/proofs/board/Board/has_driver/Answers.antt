use Rattle.std.proofs.Common.{◌∙◌, ap, is_some}
use Rattle.board_def.specs.Rules.{has_driver}
use Rattle.board_def.specs.Seen.{BoardSeen}
use Rattle.board_def.proofs.Tabled.{driver_found}
use Rattle.board_def.proofs.board.Board.has_driver.Goals as goal

pub returns : goal.returns
returns c =
    c.is_some.ensures
    ∙ (ap is_some c.find.ensures ∙ (driver_found c.args.driver c.self.inside.drivers
    ∙ ap (λ (b : BoardSeen). has_driver b.drivers c.args.driver) c.self.view_is))
