use Rattle.log_read.proofs.Placing.{placed}
use Rattle.log_read.proofs.reading.place_of.Goals as goal

pub returns-2 : goal.returns-2
returns-2 c = placed c.args.board.now.lines c.args.line c.place_of_line.result c.place_of_line.ensures
