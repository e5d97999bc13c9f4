use Rattle.std.proofs.Common.{◌≤◌, length, arith}
use Rattle.board_layout.proofs.Numbering.{all_have_paths}
use Rattle.board_layout.proofs.laying.lay.Goals as goal

pub returns-clause-virqs : goal.returns-clause-virqs
returns-clause-virqs c =
    let all : length c.args.board.now.lines ≤ c.loop-i.i = omega (arith, c.loop-i-test.false, c.lines_len-i-end.ensures) in
    all_have_paths c.args.board.now c.loop-i.i c.loop-i.domains c.loop-i.layout c.loop-i.invariant all
