use Rattle.std.proofs.Common.{◌∙◌, ◌<◌, length, arith}
use Rattle.board_stated.specs.FaultsAfter.{picks_nothing}
use Rattle.board_text.proofs.Left.{any_left, item_there}
use Rattle.board_text.proofs.faults.any_picks_nothing.Goals as goal
use Rattle.board_text.proofs.faults.any_picks_nothing.Goals.{in-Some+else-picks_nothing, in_default}

pub loop-i-preserved : goal.loop-i-preserved
loop-i-preserved c =
    let within : c.loop-i.i < length c.args.picks.now = omega arith in
    elim c.match-get.branch [
      | in-Some+else-picks_nothing w ↦ c.loop-i.invariant
          ∙ any_left (λ p. picks_nothing c.args.board.now p.who) c.args.picks.now c.loop-i.i w.in-Some.pick (cc) (cc)
      | in_default w ↦ absurd (item_there c.args.picks.now c.loop-i.i (cc) within)
    ]
