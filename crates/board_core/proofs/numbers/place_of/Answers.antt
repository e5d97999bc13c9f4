use Rattle.std.proofs.Common.{Err}
use Rattle.std.proofs.lemmas.List.Sorted.{searched}
use Rattle.board_core.proofs.RisingNumbers.{not_there}
use Rattle.board_core.proofs.numbers.place_of.Goals as goal

pub returns-in-Err : goal.returns-in-Err
returns-in-Err c =
    let s = searched c.args.numbers.now c.args.number (Err c.in-Err.field-0) c.in-Err.ensures.position c.requires in
    not_there c.args.numbers.now c.args.number c.in-Err.field-0 s.1 s.2
