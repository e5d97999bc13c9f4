use Rattle.explore_words.proofs.One.{one_asked}
use Rattle.explore_words.proofs.asked_is_one.Goals as goal

pub returns : goal.returns
returns c = one_asked
