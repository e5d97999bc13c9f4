use Rattle.line_marks.proofs.DueIs.{due_is}
use Rattle.line_marks.proofs.due.due_is_told.Goals as goal

pub returns-clause-law : goal.returns-clause-law
returns-clause-law c = due_is
