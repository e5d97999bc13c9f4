use Rattle.explore_words.proofs.Joined.{unjoined}
use Rattle.explore_words.proofs.Short.{too_long}
use Rattle.explore_words.proofs.rows.read_wanted_in.Goals as goal

pub returns-then-not-join : goal.returns-then-not-join
returns-then-not-join c = too_long _ (unjoined c.join.result _ c.join.new.row c.if-not-join.true c.join.ensures)
