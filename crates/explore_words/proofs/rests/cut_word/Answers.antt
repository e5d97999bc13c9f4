use Rattle.explore_words.proofs.Cutting.{at_space, no_space}
use Rattle.explore_words.proofs.rests.cut_word.Goals as goal

pub returns-in_default : goal.returns-in_default
returns-in_default c = no_space c.args.row.now c.in_default.ensures

pub returns : goal.returns
returns c = at_space c.args.row.now c.in-Some.end c.in-Some.ensures
