use Rattle.std.proofs.Common.{◌∙◌, sym}
use Rattle.board_def.proofs.Defining.{device_given, device_nowhere}
use Rattle.board_def.proofs.line_defs.place_device.Goals as goal

pub returns-in_ok-add_device : goal.returns-in_ok-add_device
returns-in_ok-add_device c =
    device_given c.args.board.now c.args.index c.args.device c.in-Some.place c.index_mut.result.now
    c.is_board.ensures.board c.requires.there (sym c.in-Some.ensures) c.args.defs.now.items c.requires.before
    c.index_mut.ensures.value c.add_device.new.def c.in_ok-add_device.ensures

pub returns-in_default : goal.returns-in_default
returns-in_default c = c.requires.before ∙ device_nowhere c.args.board.now c.args.index c.args.device c.requires.there (sym c.in_default.ensures)
