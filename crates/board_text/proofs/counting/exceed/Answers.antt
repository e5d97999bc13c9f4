use Rattle.std.proofs.Common.{◌∙◌, ◌<◌, length, arith}
use Rattle.board_text.proofs.Left.{item_there}
use Rattle.board_text.proofs.Room.{answers_left}
use Rattle.board_text.proofs.counting.exceed.Goals as goal
use Rattle.board_text.proofs.counting.exceed.Goals.{in-Some-get+else-times-room, in_default-get}

pub loop-i-preserved : goal.loop-i-preserved
loop-i-preserved c =
    let answers = c.args.answers.now in
    let within : c.loop-i.i < length answers = omega arith in
    elim c.match-get.branch [
      | in-Some-get+else-times-room w ↦ c.loop-i.invariant
          ∙ answers_left c.loop-i.room c.match-get.room answers c.loop-i.i w.in-Some-get.word (cc) w.if-times-room.false
          w.room-is
      | in_default-get w ↦ absurd (item_there answers c.loop-i.i (cc) within)
    ]
