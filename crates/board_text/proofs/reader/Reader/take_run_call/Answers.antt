use Rattle.board_text.proofs.Made.{run_is_board}
use Rattle.board_text.proofs.reader.Reader.take_run_call.Goals as goal

pub add_run_call-requires-clause-board : goal.add_run_call-requires-clause-board
add_run_call-requires-clause-board c =
    let kept = c.requires.kept in
    let told = c.in-Ok.ensures kept.past kept.keeps.agrees in
    run_is_board kept.past c.args.self.now c.args.dev c.args.part c.args.words c.in-Ok.call kept.keeps c.requires.writer told.0 told.1
