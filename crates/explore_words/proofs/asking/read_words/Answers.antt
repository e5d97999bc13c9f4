use Rattle.std.proofs.Common.{codes}
use Rattle.explore_words.proofs.Firsts.{two_first}
use Rattle.explore_words.proofs.asking.read_words.Goals as goal

pub returns-in-text : goal.returns-in-text
returns-in-text c = rw (two_first c.args.words.now _ (codes "--states") c.in-text.len_at_least c.in-text.is-text) c.read_with_states.ensures
