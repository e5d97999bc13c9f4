use Rattle.std.proofs.Common.{◌≡◌, ◌++◌, map, drop}
use Rattle.board_def.specs.declared.rows.LineRow.{LineRow}
use Rattle.irq_pm.proofs.fitting.add_calls.Given as goal

abbrev pub invariant-loop-row : goal.invariant-loop-row
invariant-loop-row l =
    l.script.items ++ map (λ (row : LineRow). record { line = row.line; call = l.call }) (drop l.row-index l.rows)
    ≡ l.fn.script.items ++ map (λ (row : LineRow). record { line = row.line; call = l.call }) l.rows
