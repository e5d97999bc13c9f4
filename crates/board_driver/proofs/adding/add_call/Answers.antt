use Rattle.board_driver.proofs.Last.{call_goes_behind}
use Rattle.board_driver.proofs.adding.add_call.Goals as goal

pub add_call-requires : goal.add_call-requires
add_call-requires c =
    record { board = call_goes_behind c.args.board.now c.args.call c.is_board.ensures.board c.requires.driver c.requires.room c.requires.line }
