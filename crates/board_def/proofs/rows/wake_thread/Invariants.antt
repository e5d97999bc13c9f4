use Rattle.std.proofs.Common.{◌≡◌, drop}
use Rattle.std.specs.List.{list_any}
use Rattle.board_def.specs.Runs.{answers_wake}
use Rattle.board_def.proofs.rows.wake_thread.Given as goal

abbrev pub invariant-loop-row : goal.invariant-loop-row
invariant-loop-row l = list_any (answers_wake l.dev) l.rows ≡ list_any (answers_wake l.dev) (drop l.row-index l.rows)
