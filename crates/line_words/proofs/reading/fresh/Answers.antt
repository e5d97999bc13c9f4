use Rattle.line_words.proofs.Past.{first_tables}
use Rattle.line_words.proofs.Whole.{if_result}
use Rattle.line_words.proofs.reading.fresh.Goals as goal

pub returns-clause-tables : goal.returns-clause-tables
returns-clause-tables c = if_result c.new.result (λ s is. first_tables c.args.def.now s.state is) c.new.ensures.state
