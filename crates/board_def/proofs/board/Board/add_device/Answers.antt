use Rattle.std.proofs.Common.{◌∙◌, ◌++◌, [], ◌∷◌, sym, subst}
use Rattle.board_def.specs.Inside.{board_seen}
use Rattle.board_def.specs.Rules.{IsBoard, IsDeviceAfter}
use Rattle.board_def.specs.Seen.{BoardSeen}
use Rattle.domain_rules.proofs.EachAfters.{each_last}
use Rattle.board_def.proofs.Rising.{no_device}
use Rattle.board_def.proofs.Tabled.{device_found}
use Rattle.board_def.proofs.board.Board.add_device.Goals as goal

pub push-requires : goal.push-requires
push-requires c =
    let b = board_seen c.self.inside in
    let device = c.args.device in
    let after = subst (λ (b : BoardSeen). IsBoard (record b { devices = b.devices ++ device ∷ [] })) (sym c.self.view_is) c.requires.board in
    device_found device.dev b.devices ∙ no_device device.dev b.devices
    (each_last (IsDeviceAfter (record b { devices = b.devices ++ device ∷ [] })) b.devices device
    after.devices).rises
