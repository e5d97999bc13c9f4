use Rattle.std.proofs.Common.{◌+◌, drop, [], refl}
use Rattle.std.proofs.lemmas.List.{take_rest}
use Rattle.log_read.proofs.Cutting.{at_space, no_space}
use Rattle.log_read.specs.Left.{words_of}
use Rattle.log_read.proofs.words.cut.Goals as goal

pub returns-in-Some : goal.returns-in-Some
returns-in-Some c =
    let end = c.in-Some.end in
    rw (take_rest c.args.row.now (end + 1)) (words_of (drop (end + 1) c.args.row.now), refl, at_space c.args.row.now end c.in-Some.ensures)

pub returns-in-None : goal.returns-in-None
returns-in-None c = ([], refl, no_space c.args.row.now c.in-None.ensures)
