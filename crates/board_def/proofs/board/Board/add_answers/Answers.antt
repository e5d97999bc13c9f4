use Rattle.board_def.proofs.board.Board.add_answers.Goals as goal

pub set_thread-requires : goal.set_thread-requires
set_thread-requires c = record { rises = λ i x at. (c.self.invariant.devices i x at).rises }
