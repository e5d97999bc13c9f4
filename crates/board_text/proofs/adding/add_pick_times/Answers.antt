use Rattle.std.proofs.Common.{◌<◌, arith}
use Rattle.board_text.proofs.Picking.{one_pick}
use Rattle.board_text.proofs.adding.add_pick_times.Goals as goal

pub add_pick-requires : goal.add_pick-requires
add_pick-requires c =
    let within : c.loop-i.i < c.args.times = omega arith in
    record { board = one_pick c.args.board.now c.loop-i.board c.args.actor c.loop-i.i c.args.times within c.loop-i.invariant c.requires }
