use Rattle.std.proofs.Common.{◌≡◌, [], map, take}
use Rattle.board_def.specs.declared.rows.LineRow.{LineRow}
use Rattle.log_read.specs.LogOf.{entries_of}
use Rattle.log_read.proofs.reading.empty_logs.Given as goal

abbrev pub invariant-loop : goal.invariant-loop
invariant-loop l = entries_of l.logs ≡ map (λ (row : LineRow). []) (take l.counter l.board.lines)
