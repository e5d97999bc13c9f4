use Rattle.std.proofs.Common.{◌+◌}
use Rattle.board_gen.specs.Drawing.{x_after}
use Rattle.board_gen.specs.Keeping.{IsUpTo}
use Rattle.board_gen.proofs.Planning.{Goes}
use Rattle.board_gen.proofs.boards.generate.Given as goal

-- the board has the lines that are planned so far
abbrev pub invariant-loop-i : goal.invariant-loop-i
invariant-loop-i l =
    record {
      goes : Goes l.i (x_after 1 l.n) l.board l.first l.draws.x;
      up_to : IsUpTo (l.i + 1) l.first l.board;
    }
