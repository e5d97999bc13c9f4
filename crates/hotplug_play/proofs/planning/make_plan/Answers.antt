use Rattle.std.proofs.Common.{inl, List}
use Rattle.notifiers.specs.Told.{Notice, Told}
use Rattle.hotplug_play.proofs.OfBoard.{lines_of_fleet, room_for_moves}
use Rattle.hotplug_play.proofs.Placings.{of_all, on_err, up_to_all}
use Rattle.hotplug_play.proofs.planning.make_plan.Goals as goal

pub planned-requires-clause-lines : goal.planned-requires-clause-lines
planned-requires-clause-lines g c =
    lines_of_fleet c.args.board c.is_board.ensures.board c.args.vectors c.args.events.now _ c.in_ok-fleet.ensures.fleet

pub planned-requires-clause-room : goal.planned-requires-clause-room
planned-requires-clause-room g c =
    room_for_moves c.args.board c.is_board.ensures.board c.args.vectors c.args.events.now _ c.in_ok-fleet.ensures.fleet c.requires.fits
    c.requires.events

pub returns-clause-plan : goal.returns-clause-plan
returns-clause-plan g c = record {
  board = c.is_board.ensures.board;
  fits = c.requires.fits;
  fleet = c.in_ok-fleet.ensures.fleet;
  longer_is = c.in_ok-board.ensures.board;
}

pub returns-in_err-fleet-clause-some : goal.returns-in_err-fleet-clause-some
returns-in_err-fleet-clause-some g c = on_err _ c.from_residual.result c.in_err-fleet.ensures.some

pub returns-in_err-board-clause-some : goal.returns-in_err-board-clause-some
returns-in_err-board-clause-some g c =
    let told : List Notice → Type 0 = λ placings. Told g.N.Notifier.tells placings c.args.notify.now c.placed.new.notify in
    on_err _ c.from_residual-in_err-board.result (inl (up_to_all told c.args.board c.args.vectors c.args.events.now
    (of_all told c.args.board c.args.vectors c.args.events.now c.in_ok-fleet.fleet c.in_ok-fleet.ensures.fleet c.in_ok-fleet.ensures.told)))
