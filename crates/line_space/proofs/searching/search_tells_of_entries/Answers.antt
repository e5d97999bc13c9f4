use Rattle.line_space.proofs.SearchLaws.{met}
use Rattle.line_space.proofs.searching.search_tells_of_entries.Goals as goal

pub returns-clause-met : goal.returns-clause-met
returns-clause-met c = λ def eq paths looked cut firsts searches are k f there itself. met def eq paths looked cut firsts searches are k f there itself
