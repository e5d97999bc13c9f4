use Rattle.line_space.proofs.SearchLaws.{shortest}
use Rattle.line_space.proofs.searching.search_tells_of_states.Goals as goal

pub returns-clause-shortest : goal.returns-clause-shortest
returns-clause-shortest c = λ def paths looked cut searches k p at. shortest def paths looked cut searches k p at
