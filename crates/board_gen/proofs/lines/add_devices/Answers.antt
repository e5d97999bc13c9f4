use Rattle.std.proofs.Common.{◌≡◌, ◌+◌, sym, ap, ◌∙◌}
use Rattle.board_gen.specs.Drawing.{drawn, next_x, x_after, draw}
use Rattle.board_gen.specs.Plans.{kind_of}
use Rattle.board_gen.proofs.Counting.{x_more}
use Rattle.board_gen.proofs.Growing.{device_grows, drawn_fits, devices_next, rises_next}
use Rattle.board_gen.proofs.lines.add_devices.Goals as goal

pub add_device-requires : goal.add_device-requires
add_device-requires c =
    let k = c.loop-i.invariant in
    record {
      board = device_grows c.args.board.now c.loop-i.board c.args.line c.args.first c.args.devices c.loop-i.i
          c.args.draws.now.x c.kind.result k.devices c.is_board.ensures.board
          (drawn_fits c.draw.result c.kind.result c.kind.ensures)
          c.requires.line c.requires.first c.requires.few c.loop-i-test.true c.requires.count k.rises;
    }

pub loop-i-preserved : goal.loop-i-preserved
loop-i-preserved c =
    let k = c.loop-i.invariant in
    let x0 = c.args.draws.now.x in
    let i = c.loop-i.i in
    let next : c.draw.new.self.x ≡ x_after (i + 1) x0 = c.draw.ensures.x ∙ (ap next_x k.drawn ∙ sym (x_more i x0)) in
    let kind : c.kind.result ≡ kind_of (draw (i + 1) 3 x0) = c.kind.ensures ∙ ap kind_of (c.draw.ensures.drawn ∙ ap (drawn 3) next) in
    record {
      drawn = next;
      devices = devices_next c.args.board.now c.loop-i.board c.add_device.new.self c.args.line c.args.first i x0
          c.kind.result k.devices c.in_ok-add_device.ensures.added kind;
      rises = rises_next c.loop-i.board c.add_device.new.self c.args.line c.args.first i c.kind.result k.rises c.in_ok-add_device.ensures.added;
    }
