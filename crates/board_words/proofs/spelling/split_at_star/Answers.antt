use Rattle.std.proofs.Common.{◌+◌}
use Rattle.std.proofs.lemmas.List.{take_rest}
use Rattle.board_words.proofs.Spelled.{at_star, no_star}
use Rattle.board_words.proofs.spelling.split_at_star.Goals as goal

pub returns-in-Some-clause-before : goal.returns-in-Some-clause-before
returns-in-Some-clause-before c = (at_star c.args.word.now c.in-Some.i c.in-Some.ensures).0

pub returns-in-Some-clause-after : goal.returns-in-Some-clause-after
returns-in-Some-clause-after c = rw (take_rest c.args.word.now (c.in-Some.i + 1)) (at_star c.args.word.now c.in-Some.i c.in-Some.ensures).1

pub returns-in-None-clause-before : goal.returns-in-None-clause-before
returns-in-None-clause-before c = (no_star c.args.word.now c.in-None.ensures).0

pub returns-in-None-clause-after : goal.returns-in-None-clause-after
returns-in-None-clause-after c = (no_star c.args.word.now c.in-None.ensures).1
