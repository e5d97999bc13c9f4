use Rattle.std.proofs.Common.{◌<◌, ◌∙◌, length, sym, arith}
use Rattle.board_text.proofs.Left.{item_there}
use Rattle.board_text.proofs.Picking.{word_of_picks, picks_so_far}
use Rattle.board_text.proofs.adding.add_picks.Goals as goal
use Rattle.board_text.proofs.adding.add_picks.Goals.{in-Some+in_ok-add_pick_times, in_default}

pub add_pick_times-requires : goal.add_pick_times-requires
add_pick_times-requires c =
    word_of_picks c.args.board.now c.loop-i.board c.args.picks.now c.loop-i.i c.in-Some.pick
    (sym c.get.ensures ∙ c.in-Some.is) c.loop-i.invariant.same c.loop-i.invariant.left c.requires

pub loop-i-preserved : goal.loop-i-preserved
loop-i-preserved c =
    let within : c.loop-i.i < length c.args.picks.now = omega arith in
    elim c.match-get.branch [
      | in-Some+in_ok-add_pick_times w ↦
          let both = picks_so_far c.args.board.now c.loop-i.board c.match-get.board c.args.picks.now c.loop-i.i
          w.in-Some.pick (sym c.get.ensures ∙ w.in-Some.is) c.loop-i.invariant.same c.loop-i.invariant.left (w.board-is ∙ w.in_ok-add_pick_times.ensures) in
          record { same = both.0; left = both.1 }
      | in_default w ↦ absurd (item_there c.args.picks.now c.loop-i.i (sym c.get.ensures ∙ w.in_default.is) within)
    ]
