use Rattle.std.proofs.Common.{◌≡◌, ◌+◌, ◌-◌, ◌++◌, length}
use Rattle.board_gen.specs.Generated.{asks_from}
use Rattle.board_gen.specs.Keeping.{IsScripted}
use Rattle.board_gen.proofs.scripts.add_asks.Given as goal

-- the asks so far are there
abbrev pub invariant-loop-i : goal.invariant-loop-i
invariant-loop-i l =
    record {
      calls : l.board ≡ record l.fn.board { calls = l.fn.board.calls ++ asks_from l.script l.from (l.i - l.from) };
      count : length l.board.calls ≡ length l.fn.board.calls + (l.i - l.from);
      scripted : IsScripted l.script l.board;
    }
