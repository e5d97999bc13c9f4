use Rattle.std.proofs.Common.{◌≡◌, ◌+◌, ◌≤◌, length, take, drop}
use Rattle.log_read.specs.LogOf.{rows_of, Tell, entries_of}
use Rattle.log_read.proofs.reading.read_log.Given as goal

-- the rows so far say the histories so far
abbrev pub invariant-loop-rest : goal.invariant-loop-rest
invariant-loop-rest l = record {
  left : rows_of l.rest ≡ drop l.row (rows_of l.bytes);
  told : Tell l.board (take l.row (rows_of l.bytes)) (entries_of l.logs);
  within : l.row + length l.rest ≤ length l.bytes;
}

abbrev pub decreases-loop-rest : goal.decreases-loop-rest
decreases-loop-rest l = length l.rest
