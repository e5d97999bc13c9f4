use Rattle.std.proofs.Common.{◌++◌, [], ◌∷◌, sym, subst}
use Rattle.board_def.specs.Inside.{board_seen}
use Rattle.board_def.specs.Rules.{IsBoard, IsDriverAfter}
use Rattle.board_def.specs.Seen.{BoardSeen}
use Rattle.domain_rules.proofs.EachAfters.{each_last}
use Rattle.board_def.proofs.Rising.{no_driver}
use Rattle.board_def.proofs.Tabled.{no_driver_found}
use Rattle.board_def.proofs.board.Board.add_driver.Goals as goal

pub push-requires : goal.push-requires
push-requires c =
    let b = board_seen c.self.inside in
    let driver = c.args.driver in
    let after = subst (λ (b : BoardSeen). IsBoard (record b { drivers = b.drivers ++ driver ∷ [] })) (sym c.self.view_is) c.requires.board in
    no_driver_found driver b.drivers (no_driver driver b.drivers (each_last IsDriverAfter b.drivers driver after.drivers).rises)
