use Rattle.explore_words.proofs.Spelled.{rest_spelled, unspelled}
use Rattle.explore_words.proofs.rows.read_wanted.Goals as goal

pub returns-in_default-read_rest : goal.returns-in_default-read_rest
returns-in_default-read_rest c = unspelled c.args.row.now c.in_default.ensures c.in_default-read_rest.ensures

pub returns : goal.returns
returns c = rest_spelled c.args.row.now c.in-Some-read_rest.line c.in-Some-read_rest.left c.in-Some-read_rest.ensures
