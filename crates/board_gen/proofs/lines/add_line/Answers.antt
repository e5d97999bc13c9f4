use Rattle.std.proofs.Common.{◌+◌, ◌<◌, All, refl, sym, subst, arith}
use Rattle.irq_base.specs.declared.devices.DeviceDef.{DeviceDef}
use Rattle.board_def.specs.Seen.{BoardSeen}
use Rattle.board_gen.specs.Generated.{script_calls}
use Rattle.board_gen.specs.Keeping.{IsScripted}
use Rattle.board_gen.specs.Plans.{kinds_drawn}
use Rattle.board_gen.specs.declared.scripts.Script.{Script}
use Rattle.board_gen.proofs.Counting.{kinds_length}
use Rattle.board_gen.proofs.NextLine.{begun_is, driver_grows, line_is, up_to_next, x_line}
use Rattle.board_gen.proofs.Owning.{begun, scripted_first}
use Rattle.board_gen.proofs.lines.add_line.Goals as goal

pub add_driver-requires : goal.add_driver-requires
add_driver-requires c =
    let kinds = kinds_drawn (1 + c.draw-devices.result) c.draw-devices.new.self.x in
    record {
      board = driver_grows c.args.board.now c.add_row.new.board c.add_devices.new.board c.args.number c.draw-domain.result c.args.first kinds
          c.in_ok-add_row.ensures c.in_ok-add_devices.ensures.devices c.requires.up_to c.requires.number c.is_board.ensures.board;
    }

pub add_script-requires-clause-scripted : goal.add_script-requires-clause-scripted
add_script-requires-clause-scripted c =
    let devices = 1 + c.draw-devices.result in
    let kinds = kinds_drawn devices c.draw-devices.new.self.x in
    let s : Script = record { number = c.args.number; first = c.args.first; devices = devices; asks = 50 + c.draw.result } in
    let is = begun_is c.args.board.now c.add_row.new.board c.add_devices.new.board c.add_driver.new.self c.args.number c.draw-domain.result c.args.first kinds
    c.in_ok-add_row.ensures c.in_ok-add_devices.ensures.devices c.in_ok-add_driver.ensures.added in
    subst (λ (b : BoardSeen). IsScripted s b) (sym is)
    (scripted_first c.args.board.now c.draw-domain.result kinds s c.requires.up_to
    (kinds_length devices c.draw-devices.new.self.x))

pub returns-clause-drawn : goal.returns-clause-drawn
returns-clause-drawn c =
    x_line c.args.draws.now.x c.draw-domain.new.self.x c.draw-devices.new.self.x c.add_devices.new.draws.x c.draw.new.self.x (1 + c.draw-devices.result)
    c.draw-domain.ensures.x c.draw-devices.ensures.x c.in_ok-add_devices.ensures.drawn c.draw.ensures.x

pub returns-clause-line : goal.returns-clause-line
returns-clause-line c =
    let x0 = c.args.draws.now.x in
    let x1 = c.draw-domain.new.self.x in
    let x2 = c.draw-devices.new.self.x in
    let x4 = c.draw.new.self.x in
    let devices = 1 + c.draw-devices.result in
    let is = begun_is c.args.board.now c.add_row.new.board c.add_devices.new.board c.add_driver.new.self c.args.number
    c.draw-domain.result c.args.first (kinds_drawn devices x2)
    c.in_ok-add_row.ensures c.in_ok-add_devices.ensures.devices c.in_ok-add_driver.ensures.added in
    let last = x_line x0 x1 x2 c.add_devices.new.draws.x x4 devices c.draw-domain.ensures.x c.draw-devices.ensures.x
    c.in_ok-add_devices.ensures.drawn c.draw.ensures.x in
    line_is c.args.board.now c.add_driver.new.self c.add_script.new.board c.args.number c.args.first
    c.draw-domain.result c.draw-devices.result c.draw.result x0 x1 x2 x4
    c.draw-domain.ensures.x c.draw-devices.ensures.x last c.draw-domain.ensures.drawn c.draw-devices.ensures.drawn
    c.draw.ensures.drawn is c.in_ok-add_script.ensures.calls

pub returns-clause-up_to : goal.returns-clause-up_to
returns-clause-up_to c =
    let x2 = c.draw-devices.new.self.x in
    let devices = 1 + c.draw-devices.result in
    let kinds = kinds_drawn devices x2 in
    let s : Script = record { number = c.args.number; first = c.args.first; devices = devices; asks = 50 + c.draw.result } in
    let is = begun_is c.args.board.now c.add_row.new.board c.add_devices.new.board c.add_driver.new.self c.args.number c.draw-domain.result c.args.first kinds
    c.in_ok-add_row.ensures c.in_ok-add_devices.ensures.devices c.in_ok-add_driver.ensures.added in
    let rises : All (λ (e : DeviceDef). e.dev.0 < c.args.first + (1 + c.draw-devices.result))
    (begun c.args.board.now c.args.number c.draw-domain.result c.args.first kinds).devices =
    subst (λ (b : BoardSeen). All (λ (e : DeviceDef). e.dev.0 < c.args.first + (1 + c.draw-devices.result)) b.devices) is
    (subst (λ (b : BoardSeen). All (λ (e : DeviceDef). e.dev.0 < c.args.first + (1 + c.draw-devices.result)) b.devices)
    (sym c.in_ok-add_driver.ensures.added) c.in_ok-add_devices.ensures.rises) in
    up_to_next c.args.board.now c.add_driver.new.self c.add_script.new.board c.args.number c.draw-domain.result c.args.first kinds s (script_calls s)
    c.requires.up_to is c.in_ok-add_script.ensures.calls refl refl (kinds_length devices x2)
    (omega (arith, c.draw-devices.ensures.below)) (omega (arith, c.draw.ensures.below))
    c.in_ok-add_script.ensures.count rises c.in_ok-add_script.ensures.scripted
