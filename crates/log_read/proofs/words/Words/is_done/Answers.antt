use Rattle.log_read.proofs.Cutting.{not_done}
use Rattle.log_read.proofs.words.Words.is_done.Goals as goal

pub returns-in-Failed : goal.returns-in-Failed
returns-in-Failed c = not_done c.args.self c.in-Failed.is
