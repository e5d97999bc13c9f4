use Rattle.board_def.proofs.Defining.{all_valid}
use Rattle.board_def.proofs.RunRules.{all_valid_runs}
use Rattle.board_def.proofs.board.Board.line_defs.Goals as goal

pub returns-clause-valid : goal.returns-clause-valid
returns-clause-valid c = all_valid c.args.self.now c.add_told.new.defs.items c.is_board.ensures.board c.in_ok-add_told.ensures

pub returns-clause-runs : goal.returns-clause-runs
returns-clause-runs c = all_valid_runs c.args.self.now c.add_told.new.defs.items c.is_board.ensures.board c.in_ok-add_told.ensures
