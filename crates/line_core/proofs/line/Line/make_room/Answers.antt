use Rattle.std.proofs.Common.{refl, arith}
use Rattle.line_core.proofs.line.Line.make_room.Goals as goal

pub returns-then-has_room-clause-room : goal.returns-then-has_room-clause-room
returns-then-has_room-clause-room g c =
    let there = c.if-has_room.ensures refl in
    record { below = there.below; def = refl; entries = refl; room = there.spare; spare = omega arith; kept = λ _. refl }
