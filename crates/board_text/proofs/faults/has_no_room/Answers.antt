use Rattle.std.proofs.Common.{◌∙◌, ◌<◌, length, arith}
use Rattle.board_text.proofs.Left.{item_there}
use Rattle.board_text.proofs.Room.{room_left}
use Rattle.board_text.proofs.faults.has_no_room.Goals as goal
use Rattle.board_text.proofs.faults.has_no_room.Goals.{in-Some-get+else-times-room, in_default-get}

pub loop-i-preserved : goal.loop-i-preserved
loop-i-preserved c =
    let picks = c.args.picks.now in
    let within : c.loop-i.i < length picks = omega arith in
    elim c.match-get.branch [
      | in-Some-get+else-times-room w ↦ c.loop-i.invariant
          ∙ room_left c.loop-i.room c.match-get.room picks c.loop-i.i w.in-Some-get.pick (cc) w.if-times-room.false
          w.room-is
      | in_default-get w ↦ absurd (item_there picks c.loop-i.i (cc) within)
    ]
