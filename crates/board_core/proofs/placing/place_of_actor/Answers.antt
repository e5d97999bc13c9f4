use Rattle.board_core.proofs.RisingNumbers.{rising_drivers}
use Rattle.board_core.proofs.placing.place_of_actor.Goals as goal

pub place_of-requires : goal.place_of-requires
place_of-requires c = rising_drivers c.args.board.now c.is_board.ensures.board c.args.driver_numbers.now c.requires
