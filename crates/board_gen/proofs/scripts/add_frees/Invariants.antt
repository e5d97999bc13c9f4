use Rattle.std.proofs.Common.{◌≡◌, ◌+◌, ◌++◌, length}
use Rattle.board_gen.specs.Generated.{frees}
use Rattle.board_gen.specs.Keeping.{IsScripted}
use Rattle.board_gen.proofs.scripts.add_frees.Given as goal

-- the calls about the devices so far are there
abbrev pub invariant-loop-i : goal.invariant-loop-i
invariant-loop-i l =
    record {
      calls : l.board ≡ record l.fn.board { calls = l.fn.board.calls ++ frees (record l.script { devices = l.i }) };
      count : length l.board.calls ≡ length l.fn.board.calls + l.i;
      scripted : IsScripted l.script l.board;
    }
